use Rattle.std.proofs.Common.{◌≡◌, ◌-◌, ◌++◌, take, drop, sym, ap, ap₂, ◌∙◌, subst, arith, take-append-drop}
use Rattle.json_lexemes.specs.Signposts.{ArePlaces}
use Rattle.json_text.proofs.Owned.{own_at}
use Rattle.json_text.proofs.Stretches.{two_parts}
use Rattle.json_text.proofs.own.Own.at.Goals as goal

pub returns-clause-own : goal.returns-clause-own
returns-clause-own c =
    let t = c.args.text.now in
    let s = c.args.place in
    let zero : s.start - 0 ≡ s.start = omega arith in
    let w : c.range.result.now ++ (c.range-2.result.now ++ c.range_from.result.now) ≡ t =
    ap₂ (λ x y. x ++ (y ++ c.range_from.result.now)) (c.range.ensures.value ∙ ap (λ n. take n t) zero) c.range-2.ensures.value ∙ ap (λ x. take s.start t ++ (take (s.end - s.start) (drop s.start t) ++ x)) c.range_from.ensures.value
    ∙ ap (λ x. take s.start t ++ x) (two_parts t s.start s.end c.requires.within.order) ∙ take-append-drop s.start t in
    record {
      apart = own_at t c.range.result.now c.range-2.result.now c.range_from.result.now s w (omega (arith, c.range.ensures.len)) (omega (arith, c.range.ensures.len, c.range-2.ensures.len, c.requires.within.order)) c.requires.apart;
      places = subst (λ x. ArePlaces x c.args.places) (sym w) c.requires.places;
    }

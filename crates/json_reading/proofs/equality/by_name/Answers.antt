use Rattle.std.proofs.Common.{ap, sym, ◌∙◌, drop, arith, ◌∷◌, ◌+◌, Some}
use Rattle.std.proofs.lemmas.List.{drop_more}
use Rattle.json.specs.Find.{get_member, later_or}
use Rattle.json.specs.Value.{value_view, members_view}
use Rattle.json_reading.specs.Matching.{stands}
use Rattle.json_reading.proofs.Matching.{stands_after, member_passed}
use Rattle.json_reading.proofs.equality.by_name.Goals as goal

pub loop-name-preserved : goal.loop-name-preserved
loop-name-preserved c = λ k.
    let es = c.deref-name-items.result.now in
    let i = c.loop-name.name-index in
    let e = c.loop-name-item.result in
    let rest = members_view (drop (i + 1) es) in
    ap (later_or (get_member k rest)) (stands_after c.loop-name.map c.insert.new.self e.0.now (Some _) c.in_ok-insert.ensures.updates k)
    ∙ member_passed k e.0.now (value_view e.1) rest (stands k c.loop-name.map)
    ∙ ap (λ ms. later_or (get_member k (members_view ms)) (stands k c.loop-name.map)) (sym (drop_more es i e (omega (arith, c.loop-name-test.true)) ∙ ap (λ x. x ∷ drop (i + 1) es) (sym c.loop-name-item.is)))
    ∙ c.loop-name.invariant k

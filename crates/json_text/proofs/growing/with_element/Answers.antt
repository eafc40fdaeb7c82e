use Rattle.std.proofs.Common.{◌≡◌, ◌≤◌, [], false, List, sym, subst, arith}
use Rattle.std.specs.Prelude.{MatchOption}
use Rattle.std.specs.Str.{IsCharBoundary, IsUtf8}
use Rattle.json_text.specs.Rows.{AreInOrder, Child, CutNone, IsComma, IsInside, IsLast, IsTrail}
use Rattle.json_text.proofs.Rows.Added.{alone_put, before_put, behind_put, chosen_slot, counted_by, no_index, past_end, same_last}
use Rattle.json_text.proofs.growing.with_element.Goals as goal

pub returns-in_default : goal.returns-in_default
returns-in_default c = no_index c.args.own.text.now c.args.name.now c.args.start c.requires.row (omega arith) c.in_default.ensures.no_index

pub returns-in_default-for_len_incl : goal.returns-in_default-for_len_incl
returns-in_default-for_len_incl c =
    let t = c.args.own.text.now in
    let last = c.last_part-last.result in
    let counted = λ (cs : List Child) (h : IsInside t false cs c.args.start).
    counted_by t cs last c.count-count.result ((subst (λ x. (cs : List Child) → IsInside x false cs c.args.start → MatchOption last (cs ≡ []) (λ r. IsLast x false cs r.0 r.1)) c.as_bytes.ensures.value c.last_part-last.ensures.last) cs h) c.count-count.ensures in
    past_end t c.args.name.now c.args.start c.count-count.result c.in-Ok.index c.requires.row counted c.in-Ok.ensures.index c.in_default-for_len_incl.ensures.outside

pub trail-requires-clause-boundary : goal.trail-requires-clause-boundary
trail-requires-clause-boundary c =
    let b = c.in-Some.ensures.boundary (λ u. c.requires.boundary) in
    (b.0 (subst IsUtf8 c.as_bytes.ensures.value c.as_bytes.ensures.utf8), b.1)

pub returns-in-Some : goal.returns-in-Some
returns-in-Some c =
    let t = c.args.own.text.now in
    let k = c.args.name.now in
    let r = c.in-Some.found in
    let last = c.last_part-last.result in
    let m = c.in-Ok-for_len_incl.number in
    let slot = λ (cs : List Child) (h : IsInside t false cs c.args.start).
    chosen_slot t k c.in-Ok.index c.count-count.result m cs c.in-Ok.ensures.index (counted_by t cs last c.count-count.result ((subst (λ x. (cs : List Child) → IsInside x false cs c.args.start → MatchOption last (cs ≡ []) (λ r. IsLast x false cs r.0 r.1)) c.as_bytes.ensures.value c.last_part-last.ensures.last) cs h) c.count-count.ensures) c.in-Ok-for_len_incl.ensures.place c.in-Ok-for_len_incl.ensures.within in
    λ v says. (
      _,
      c.in_ok-new.ensures,
      (before_put t k c.args.value.now c.as_str.result.now c.args.start m r c.requires.row slot c.in-Some.ensures.found
          c.in-Some.ensures.order.1 (subst (IsTrail t c.args.start m r) (sym c.as_str.ensures.value) c.in_ok-trail.ensures)) v says,
    )

pub returns-in_default-last : goal.returns-in_default-last
returns-in_default-last c =
    let t = c.args.own.text.now in
    let k = c.args.name.now in
    let last = c.last_part-last.result in
    let m = c.in-Ok-for_len_incl.number in
    let counted = λ (cs : List Child) (h : IsInside t false cs c.args.start).
    counted_by t cs last c.count-count.result ((subst (λ x. (cs : List Child) → IsInside x false cs c.args.start → MatchOption last (cs ≡ []) (λ r. IsLast x false cs r.0 r.1)) c.as_bytes.ensures.value c.last_part-last.ensures.last) cs h) c.count-count.ensures in
    let slot = λ (cs : List Child) (h : IsInside t false cs c.args.start).
    chosen_slot t k c.in-Ok.index c.count-count.result m cs c.in-Ok.ensures.index (counted cs h) c.in-Ok-for_len_incl.ensures.place c.in-Ok-for_len_incl.ensures.within in
    let within = λ (cs : List Child) (h : IsInside t false cs c.args.start). subst (λ n. m ≤ n) (counted cs h) c.in-Ok-for_len_incl.ensures.within in
    λ v says. (_, c.in_ok-new-2.ensures, (alone_put t k c.args.value.now c.args.start m c.requires.row slot within (subst (λ x. (cs : List Child) → IsInside x false cs c.args.start → cs ≡ []) c.as_bytes.ensures.value c.in_default-last.ensures.last) c.requires.within) v says)

pub comma-requires-clause-boundary : goal.comma-requires-clause-boundary
comma-requires-clause-boundary c =
    let b = c.in-Some-last.ensures.boundary (λ u. subst (λ x. IsCharBoundary x c.args.start) (sym c.as_bytes.ensures.value) c.requires.boundary) in
    (subst (λ x. IsCharBoundary x c.in-Some-last.last.before) c.as_bytes.ensures.value (b.0 c.as_bytes.ensures.utf8), subst (λ x. CutNone x c.in-Some-last.last.part) c.as_bytes.ensures.value b.1)

pub returns : goal.returns
returns c =
    let t = c.args.own.text.now in
    let k = c.args.name.now in
    let r = c.in-Some-last.last in
    let last = c.last_part-last.result in
    let m = c.in-Ok-for_len_incl.number in
    let counted = λ (cs : List Child) (h : IsInside t false cs c.args.start).
    counted_by t cs last c.count-count.result ((subst (λ x. (cs : List Child) → IsInside x false cs c.args.start → MatchOption last (cs ≡ []) (λ r. IsLast x false cs r.0 r.1)) c.as_bytes.ensures.value c.last_part-last.ensures.last) cs h) c.count-count.ensures in
    let slot = λ (cs : List Child) (h : IsInside t false cs c.args.start).
    chosen_slot t k c.in-Ok.index c.count-count.result m cs c.in-Ok.ensures.index (counted cs h) c.in-Ok-for_len_incl.ensures.place c.in-Ok-for_len_incl.ensures.within in
    let within = λ (cs : List Child) (h : IsInside t false cs c.args.start). subst (λ n. m ≤ n) (counted cs h) c.in-Ok-for_len_incl.ensures.within in
    λ v says. (
      _,
      c.in_ok-new-3.ensures,
      (behind_put t k c.args.value.now c.as_str-2.result.now c.args.start m c.in-Some-last.number r c.requires.row slot within c.in_default-element_at.ensures.found
          (same_last _ t false c.in-Some-last.number r c.args.start c.as_bytes.ensures.value c.in-Some-last.ensures.last) (subst (λ x. AreInOrder x r.part) c.as_bytes.ensures.value c.in-Some-last.ensures.order.1) (subst (IsComma t r.part.start) (sym c.as_str-2.ensures.value) c.in_ok-ahead.ensures)) v says,
    )

pub element_at-requires-clause-count : goal.element_at-requires-clause-count
element_at-requires-clause-count c = λ cs h.
    let t = c.args.own.text.now in
    let last = c.last_part-last.result in
    counted_by t cs last c.count-count.result ((subst (λ x. (cs : List Child) → IsInside x false cs c.args.start → MatchOption last (cs ≡ []) (λ r. IsLast x false cs r.0 r.1)) c.as_bytes.ensures.value c.last_part-last.ensures.last) cs h) c.count-count.ensures

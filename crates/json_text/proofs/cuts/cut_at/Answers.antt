use Rattle.std.proofs.Common.{◌≤◌, ◌<◌, List, length, sym, ◌∙◌, subst, arith}
use Rattle.std.specs.Str.{IsCharBoundary}
use Rattle.std.specs.Prelude.{IfSome}
use Rattle.json_text.specs.Cuts.{CutsFirst, IsBehindMark}
use Rattle.json_text.specs.Owned.{IsInner}
use Rattle.json_text.specs.Rows.{Child}
use Rattle.json_text.proofs.Owned.{apart_cut}
use Rattle.json_text.specs.declared.cuts.Cut.{Cut}
use Rattle.json_text.proofs.Rows.Pieces.{first_cut, name_before, copied, next_place, AreFound, NextIs}
use Rattle.json_text.proofs.cuts.cut_at.Goals.{in-Some-next, in-None}
use Rattle.json_text.proofs.cuts.cut_at.Goals as goal

pub range-requires-3-clause-start_le_end : goal.range-requires-3-clause-start_le_end
range-requires-3-clause-start_le_end c =
    let t = c.as_bytes-bytes.result.now in
    let e = c.as_bytes-bytes.ensures.value in
    let (cs, h) = subst (λ u. (cs : List Child) × IsBehindMark u c.args.named cs c.args.from) (sym e) c.requires.row in
    let starts = c.whitespace_end-start.ensures.between h.3 in
    let left = c.whitespace_end-start.ensures.left ∙ h.2 in
    let name = c.name_from-name.ensures.within (λ u. c.whitespace_end-start.ensures.boundary u (subst (λ x. IsCharBoundary x c.args.from) (sym e) c.requires.boundary)) in
    name_before t c.args.named cs c.whitespace_end-start.result c.in-Some.part _ (c.in-Some.ensures.part cs left) (c.in-Some.ensures.places starts) c.in-Some.ensures.element
    c.name_from-name.ensures.start (c.name_from-name.ensures.name cs left) (c.name_from-name.ensures.cut starts) name.fits

pub returns-in_default-clause-cut : goal.returns-in_default-clause-cut
returns-in_default-clause-cut c = λ cs given.
    let h = subst (λ u. IsBehindMark u c.args.named cs c.args.from) (sym c.as_bytes-bytes.ensures.value) given in
    c.in_default.ensures.part cs (c.whitespace_end-start.ensures.left ∙ h.2)

pub returns-clause-cut : goal.returns-clause-cut
returns-clause-cut c = λ cs given.
    let t = c.as_bytes-bytes.result.now in
    let e = c.as_bytes-bytes.ensures.value in
    let h = subst (λ u. IsBehindMark u c.args.named cs c.args.from) (sym e) given in
    let start = c.whitespace_end-start.result in
    let starts = c.whitespace_end-start.ensures.between h.3 in
    let left = c.whitespace_end-start.ensures.left ∙ h.2 in
    let boundary = subst (λ x. IsCharBoundary x c.args.from) (sym e) c.requires.boundary in
    let name = c.name_from-name.ensures.within (λ u. c.whitespace_end-start.ensures.boundary u boundary) in
    let k = c.whitespace_end-end.result in
    let next : NextIs c.in-Some.part.next c.match-part.next k = elim c.match-part.branch [
      | in-Some-next w ↦ subst (λ o. NextIs o c.match-part.next k) (sym w.in-Some-next.is) w.next-is
      | in-None w ↦ subst (λ o. NextIs o c.match-part.next k) (sym w.in-None.is) w.next-is
    ] in
    let found : AreFound t c.args.named cs c.args.from start k c.in-Some.part c.name_from-name.result h.0.0 = record {
      says = h.0.1;
      ends_tight = h.1;
      low = c.whitespace_end-start.ensures.bounds.0;
      begins = h.3;
      starts = starts;
      same = c.whitespace_end-start.ensures.left;
      part = c.in-Some.ensures.part cs left;
      places = c.in-Some.ensures.places starts;
      order = c.in-Some.ensures.order;
      element = c.in-Some.ensures.element;
      name_is = c.name_from-name.ensures.start;
      name_low = omega (arith, name.order, c.name_from-name.ensures.start);
      name_fits = name.fits;
      names = c.name_from-name.ensures.name cs left;
      name_cut = c.name_from-name.ensures.cut starts;
      high = c.whitespace_end-end.ensures.bounds.0;
      fits = c.whitespace_end-end.ensures.bounds.1;
      left = c.whitespace_end-end.ensures.left;
      ends = c.whitespace_end-end.ensures.end;
      solid = c.whitespace_end-end.ensures.stops;
    } in
    let cut : Cut = record { whitespace = c.range.result; name = c.range-2.result; colons = c.range-3.result; value = c.range-4.result; place = c.in-Some.part.value; trail = c.range-5.result; next = c.match-part.next } in
    let first = first_cut t c.args.named cs c.args.from start k c.in-Some.part c.name_from-name.result h.0.0 found
    cut (record {
      whitespace = copied _ t _ _ _ e c.range.ensures.value;
      name = copied _ t _ _ _ e c.range-2.ensures.value;
      colons = copied _ t _ _ _ e c.range-3.ensures.value;
      value = copied _ t _ _ _ e c.range-4.ensures.value;
      trail = copied _ t _ _ _ e c.range-5.ensures.value;
    }) next in
    subst (λ u. CutsFirst u c.args.named cs c.args.from cut) e first

pub returns-clause-next : goal.returns-clause-next
returns-clause-next c =
    let (cs, given) = c.requires.row in
    let t = c.as_bytes-bytes.result.now in
    let e = c.as_bytes-bytes.ensures.value in
    let h = subst (λ u. IsBehindMark u c.args.named cs c.args.from) (sym e) given in
    let start = c.whitespace_end-start.result in
    let starts = c.whitespace_end-start.ensures.between h.3 in
    let left = c.whitespace_end-start.ensures.left ∙ h.2 in
    let boundary = subst (λ x. IsCharBoundary x c.args.from) (sym e) c.requires.boundary in
    let name = c.name_from-name.ensures.within (λ u. c.whitespace_end-start.ensures.boundary u boundary) in
    let k = c.whitespace_end-end.result in
    let next : NextIs c.in-Some.part.next c.match-part.next k = elim c.match-part.branch [
      | in-Some-next w ↦ subst (λ o. NextIs o c.match-part.next k) (sym w.in-Some-next.is) w.next-is
      | in-None w ↦ subst (λ o. NextIs o c.match-part.next k) (sym w.in-None.is) w.next-is
    ] in
    let found : AreFound t c.args.named cs c.args.from start k c.in-Some.part c.name_from-name.result h.0.0 = record {
      says = h.0.1;
      ends_tight = h.1;
      low = c.whitespace_end-start.ensures.bounds.0;
      begins = h.3;
      starts = starts;
      same = c.whitespace_end-start.ensures.left;
      part = c.in-Some.ensures.part cs left;
      places = c.in-Some.ensures.places starts;
      order = c.in-Some.ensures.order;
      element = c.in-Some.ensures.element;
      name_is = c.name_from-name.ensures.start;
      name_low = omega (arith, name.order, c.name_from-name.ensures.start);
      name_fits = name.fits;
      names = c.name_from-name.ensures.name cs left;
      name_cut = c.name_from-name.ensures.cut starts;
      high = c.whitespace_end-end.ensures.bounds.0;
      fits = c.whitespace_end-end.ensures.bounds.1;
      left = c.whitespace_end-end.ensures.left;
      ends = c.whitespace_end-end.ensures.end;
      solid = c.whitespace_end-end.ensures.stops;
    } in
    subst (λ u. IfSome c.match-part.next (λ g. (c.args.from < g) × (g ≤ length u) × IsCharBoundary u g)) e
    (next_place t c.args.named cs c.args.from start k c.in-Some.part c.name_from-name.result h.0.0 found c.as_bytes-bytes.ensures.utf8 c.match-part.next next)

pub returns-clause-place : goal.returns-clause-place
returns-clause-place c =
    let (cs, given) = c.requires.row in
    let e = c.as_bytes-bytes.ensures.value in
    let h = subst (λ u. IsBehindMark u c.args.named cs c.args.from) (sym e) given in
    let order = c.in-Some.ensures.order in
    let cut = (c.in-Some.ensures.places (c.whitespace_end-start.ensures.between h.3)).cut in
    subst (λ u. IsInner u c.in-Some.part.value c.range-4.result.now) e (record {
      apart = apart_cut c.as_bytes-bytes.result.now c.in-Some.part.value cut;
      order = order.value;
      fits = order.fits;
      is = copied _ c.as_bytes-bytes.result.now _ _ _ e c.range-4.ensures.value;
    })

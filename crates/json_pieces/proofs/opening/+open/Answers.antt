use Rattle.std.proofs.Common.{◌∙◌, List, rules, subst, sym}
use Rattle.json_lexemes.specs.Signposts.{ArePlaces}
use Rattle.json_text.specs.Listing.{IsTextOf}
use Rattle.json_text.specs.Rows.{Child, tree_in}
use Rattle.json_text.proofs.Owned.{inner_places}
use Rattle.long_vec.specs.Items.{items_of}
use Rattle.json_pieces.specs.Nodes.{IsRowOf}
use Rattle.json_pieces.proofs.Openings.{IsPushed, cut_first, cut_last, cut_next, cut_none, cut_text, opened_value}
use Rattle.json_pieces.proofs.opening.+open.Goals as goal

pub row_of-loop-cut-init : goal.row_of-loop-cut-init
row_of-loop-cut-init t c =
    let row = subst (λ u. (cs : List Child) × IsTextOf u (tree_in c.args.named cs)) (sym c.as_str-text.ensures) c.requires.row in
    cut_first c.as_str-text.result.now c.args.named (items_of c.new-seams.result.all) (items_of c.new-values.result) c.as_str-text.utf8 row c.new-seams.ensures c.new-values.ensures.items

pub row_of-cut_at-requires-clause-places : goal.row_of-cut_at-requires-clause-places
row_of-cut_at-requires-clause-places t c = subst (λ u. ArePlaces u c.args.way.places) (sym c.as_str-text.ensures) c.requires.places

pub row_of-value_along-requires : goal.row_of-value_along-requires
row_of-value_along-requires t c =
    let row = subst (λ u. (cs : List Child) × IsTextOf u (tree_in c.args.named cs)) (sym c.as_str-text.ensures) c.requires.row in
    let places = subst (λ u. ArePlaces u c.args.way.places) (sym c.as_str-text.ensures) c.requires.places in (
      search rules,
      (cut_text c.as_str-text.result.now c.args.named c.loop-cut.from c.in-Some.cut _ _ c.loop-cut.invariant row c.in-Some.ensures.cut, (c.as_str-text.result.now, c.in-Some.ensures.place, places)),
    )

pub row_of-loop-cut-preserved : goal.row_of-loop-cut-preserved
row_of-loop-cut-preserved t c =
    let part : IsPushed (items_of c.loop-cut.seams.all) (items_of c.push.new.self.all) (items_of c.loop-cut.values) (items_of c.push-in-Some.new.self) c.seam_of.result _ c.in-Some.cut =
    record { seams = c.in_ok-push.ensures; values = c.in_ok-push-2.ensures.items; sound = c.in_ok-value.ensures.0; seen = c.in_ok-value.ensures.1; is = c.seam_of.ensures } in
    cut_next c.as_str-text.result.now c.args.named _ _ _ _ c.loop-cut.from _ _ c.in-Some.cut c.loop-cut.invariant c.in-Some.ensures.cut part c.in-Some-next.next c.in-Some.ensures.next c.in-Some-next.is

pub row_of-returns-in_default-next : goal.row_of-returns-in_default-next
row_of-returns-in_default-next t c =
    let row = subst (λ u. (cs : List Child) × IsTextOf u (tree_in c.args.named cs)) (sym c.as_str-text.ensures) c.requires.row in
    let part : IsPushed (items_of c.loop-cut.seams.all) (items_of c.push.new.self.all) (items_of c.loop-cut.values) (items_of c.push-in-Some.new.self) c.seam_of.result _ c.in-Some.cut =
    record { seams = c.in_ok-push.ensures; values = c.in_ok-push-2.ensures.items; sound = c.in_ok-value.ensures.0; seen = c.in_ok-value.ensures.1; is = c.seam_of.ensures } in
    subst (λ u. IsRowOf u c.row_with.result) c.as_str-text.ensures
    (cut_last c.as_str-text.result.now c.args.named _ _ _ _ c.loop-cut.from _ _ c.in-Some.cut c.loop-cut.invariant c.in-Some.ensures.cut part c.row_with.result row c.in_default-next.is c.row_with.ensures.named c.row_with.ensures.length c.row_with.ensures.hollow c.row_with.ensures.seams c.row_with.ensures.values)

pub row_of-returns : goal.row_of-returns
row_of-returns t c =
    let row = subst (λ u. (cs : List Child) × IsTextOf u (tree_in c.args.named cs)) (sym c.as_str-text.ensures) c.requires.row in
    subst (λ u. IsRowOf u c.row_with-2.result) c.as_str-text.ensures
    (cut_none c.as_str-text.result.now c.args.named (items_of c.loop-cut.seams.all) (items_of c.loop-cut.values) c.loop-cut.from _ c.row_with-2.result c.loop-cut.invariant row c.in_default.ensures.cut c.whitespace_at-hollow.ensures c.row_with-2.ensures.named c.row_with-2.ensures.length (c.row_with-2.ensures.hollow ∙ c.kept.ensures) c.row_with-2.ensures.seams c.row_with-2.ensures.values)

pub value_along-row_of-requires : goal.value_along-row_of-requires
value_along-row_of-requires t c =
    let (w, inner, places) = c.requires.places in (
      search rules,
      (
        subst (λ u. (cs : List Child) × IsTextOf u (tree_in c.in-Some.named cs)) (sym c.new.ensures) (rw c.in-Some.is at c.in_ok-named.ensures.row),
        subst (λ u. ArePlaces u c.within-places.result) (sym c.new.ensures) (inner_places w c.args.cut.now.value.now c.args.cut.now.place c.args.way.places c.within-places.result c.requires.text.0 inner c.requires.text.1.0 places c.within-places.ensures),
      ),
    )

pub value_along-returns : goal.value_along-returns
value_along-returns t c = opened_value c.in_ok-new.field-0 c.in_ok-row.row c.args.cut.now.value.now c.in_ok-new.ensures.ok (subst (λ u. IsRowOf u c.in_ok-row.row) c.new.ensures c.in_ok-row.ensures)

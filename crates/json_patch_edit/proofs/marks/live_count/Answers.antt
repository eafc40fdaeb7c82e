use Rattle.json_patch_edit.proofs.Common.{◌≡◌, arith, length, items_len, items_view, not, rules, subst, sym, ap, ◌∙◌, view}
use Rattle.std.proofs.lemmas.List.Sorted.{IsPartitionPoint-from_clause}
use Rattle.json_patch_edit.specs.Marked.{is_mark, seen_items, AreMarkedItems}
use Rattle.json_patch_edit.proofs.Marked.{live_whole, marks_last, live_point}
use Rattle.json_patch_edit.proofs.marks.live_count.Goals as goal

pub returns-then-not-is_mark-clause-count : goal.returns-then-not-is_mark-clause-count
returns-then-not-is_mark-clause-count c =
    let whole : length c.args.items.now.items ≡ items_len (seen_items (items_view c.args.items.now.items)) =
    live_whole c.args.items.now.items c.deref.result.now c.in-Some.last.now c.requires c.deref.ensures.value c.in-Some.ensures.item.3.0 c.in-Some.ensures.item.1 (sym c.is_mark.ensures ∙ c.if-not-is_mark.true) in
    omega arith

pub returns-clause-count : goal.returns-clause-count
returns-clause-count c =
    let read = c.deref-2.ensures.value in
    let marked = subst (λ vs. AreMarkedItems (items_view vs)) (sym read) c.requires in
    let point = IsPartitionPoint-from_clause (λ v. not (is_mark (view v))) _ _ c.partition_point.ensures.partitioned (marks_last _ marked) (λ a r q k. search rules) in
    live_point _ _ c.in-Some.last.now marked (omega arith) point ∙ ap (λ vs. items_len (seen_items (items_view vs))) read

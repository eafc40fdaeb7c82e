use Rattle.json_patch_operation.proofs.Common.{◌≡◌, ◌∷◌, ◌++◌, ◌+◌, [], drop, rules, sym, ap, ◌∙◌, arith, drop_more, drop_all}
use Rattle.json_patch_operation.proofs.Common.{is_ok, item, no_items, operation_of, operations, all_fields, operation_items}
use Rattle.json_patch_operation.proofs.Common.{object_of, value_text, printed_items, has_written_append, has_written_of_eq}
use Rattle.json_patch_operation.proofs.Texts.{printed_items_more, printed_items_end}
use Rattle.json_patch_operation.proofs.printing.PatchDisplay.fmt.Goals as goal

pub operations-preserved : goal.operations-preserved
operations-preserved g c =
    let l = c.operations in
    let os = c.deref-operation-items.result.now in
    let d = object_of (all_fields (operation_of c.operation-item.result)) in (
      search rules,
      λ plain.
          let (done, wrote, whole) = l.invariant.1 plain in
          let one = c.write_str-in-operations.ensures.writes wrote.plain (ap is_ok c.in_ok-write_str-2.was) in
          let two = c.fmt.ensures.writes one.plain (ap is_ok c.in_ok-fmt.was) in
          let step : operation_items (operations (drop l.operation-index os)) ≡ item d (operation_items (operations (drop (l.operation-index + 1) os))) =
          ap (λ xs. operation_items (operations xs)) (drop_more os l.operation-index c.operation-item.result (omega arith) ∙ ap (λ o. o ∷ drop (l.operation-index + 1) os) (sym c.operation-item.is)) in (
            (done ++ l.comma.now) ++ value_text d,
            has_written_append _ _ _ _ _ _ (has_written_append _ _ _ _ _ _ wrote one) two,
            printed_items_more done l.comma.now _ _ _ d step whole,
          ),
    )

pub returns-clause-writes : goal.returns-clause-writes
returns-clause-writes g c plain ok =
    let l = c.operations in
    let os = c.deref-operation-items.result.now in
    let opened = c.write_str.ensures.writes plain (ap is_ok c.in_ok-write_str.was) in
    let (done, wrote, whole) = l.invariant.1 opened.plain in
    let closed = c.write_str-2.ensures.writes wrote.plain ok in
    let none : operation_items (operations (drop l.operation-index os)) ≡ no_items = ap (λ xs. operation_items (operations xs)) (drop_all l.operation-index os (omega arith)) in
    let all = printed_items_end done l.comma.now _ _ none whole ∙ ap (λ xs. printed_items [] (operation_items (operations xs))) c.deref-operation-items.ensures.value in
    has_written_of_eq _ _ _ _ _ (ap (λ text. 91 ∷ (text ++ 93 ∷ [])) all) (has_written_append _ _ _ _ _ _ (has_written_append _ _ _ _ _ _ opened wrote) closed)

use Rattle.std.proofs.lemmas.Result.{IfOk-weaker}
use Rattle.jsonptr.specs.Pointers.{tokens_of}
use Rattle.json_patch_text.proofs.UndoTexts.{add_written, remove_written, replace_written}
use Rattle.json_patch_text.proofs.undo.Undo.to_text.Goals as goal

pub returns-in-Remove : goal.returns-in-Remove
returns-in-Remove c = IfOk-weaker c.operation_text.result _ _ (λ s h. remove_written c.args.self.now c.in-Remove.path (tokens_of c.as_pointer.result) _ c.in-Remove.is c.as_pointer.ensures h) c.operation_text.ensures

pub returns-in-Add : goal.returns-in-Add
returns-in-Add c =
    IfOk-weaker c.with_value.result _ _
    (λ s h. add_written c.args.self.now c.in-Add.path (tokens_of c.as_pointer-in-Add.result) c.in-Add.value c.as_str.result.now _ c.in-Add.is c.as_pointer-in-Add.ensures c.as_str.ensures.value h) c.with_value.ensures

pub returns-in-Replace : goal.returns-in-Replace
returns-in-Replace c =
    IfOk-weaker c.with_value-in-Replace.result _ _
    (λ s h. replace_written c.args.self.now c.in-Replace.path (tokens_of c.as_pointer-in-Replace.result) c.in-Replace.value c.as_str-in-Replace.result.now _ c.in-Replace.is c.as_pointer-in-Replace.ensures c.as_str-in-Replace.ensures.value h) c.with_value-in-Replace.ensures

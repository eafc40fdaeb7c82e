use Rattle.json_patch_operation.specs.Operation.{operation_of}
use Rattle.serde_json.specs.View.{view}
use Rattle.json_patch_text.specs.Outline.{its_value, bytes_in}
use Rattle.json_patch_text.proofs.Outlines.{alone_weaker, operation_there, refused_too, unread}
use Rattle.json_patch_text.proofs.reading.read_operation.Goals as goal

pub returns-in_err-operation-2-clause-refused : goal.returns-in_err-operation-2-clause-refused
returns-in_err-operation-2-clause-refused c =
    unread _ c.from_residual-in_err-operation-2.result c.in_err-operation-2.field-0.0 c.from_residual-in_err-operation-2.ensures.1
    (alone_weaker c.in_err-operation-2.field-0.0 c.in_err-operation-2.ensures.refused (λ kind h. λ j says. λ r. refused_too (view c.in_ok-outline.outline) j (c.in_ok-outline.ensures j says (c.in_ok-fields.ensures j says)) r kind h))

pub returns-clause-read : goal.returns-clause-read
returns-clause-read c = λ j says.
    let f = c.in_ok-fields.ensures j says in
    operation_there (view c.in_ok-outline.outline) j (c.in_ok-outline.ensures j says f) c.args.text.now (bytes_in c.in_ok-fields.fields.value) (operation_of c.in_ok-operation-2.operation) c.texted.result (f its_value) c.in_ok-operation-2.ensures.read c.texted.ensures

use Rattle.std.proofs.Common.{◌++◌, drop}
use Rattle.serde_json.specs.View.{view}
use Rattle.json_patch_operation.specs.Operation.{operations}
use Rattle.json_diff_text.specs.Spellings.{AreSpellings}
use Rattle.json_diff_text.proofs.spelling.spelled.Given as goal

abbrev pub invariant-loop-operation : goal.invariant-loop-operation
invariant-loop-operation l = AreSpellings (view l.told) (view l.written) (operations l.patch.0.items) (operations l.operations.items ++ operations (drop l.operation-index l.operation-items))

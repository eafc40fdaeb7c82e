use Rattle.std.proofs.Common.{◌≤◌, string_bytes, subst, sym}
use Rattle.std.proofs.lemmas.Result.{IfOk-weaker}
use Rattle.json.specs.Json.{max_depth}
use Rattle.json_lexemes.specs.Spelled.{Says}
use Rattle.json_patch_laws.proofs.InverseDepths.{written_depth}
use Rattle.json_patch_operation.specs.Operation.{operations_of}
use Rattle.serde_json.specs.Data.{depth}
use Rattle.json_diff_text.specs.Numerals.{tree_of}
use Rattle.json_diff_text.specs.Tables.{numerals_in}
use Rattle.json_diff_text.proofs.Between.{patch_says}
use Rattle.json_diff_text.proofs.writing.written.Goals as goal

pub written_value-requires-clause-shallow : goal.written_value-requires-clause-shallow
written_value-requires-clause-shallow c = subst (λ d. depth d ≤ max_depth) (sym c.in_ok-value.ensures) (written_depth 126 (operations_of c.args.patch.now) c.requires.shallow)

pub returns : goal.returns
returns c =
    IfOk-weaker c.written_value.result _ _
    (λ s says. patch_says (numerals_in c.args.texts.now.items) (operations_of c.args.patch.now) (string_bytes s) (subst (λ d. Says (string_bytes s) (tree_of (numerals_in c.args.texts.now.items) d)) c.in_ok-value.ensures says) (written_depth 126 (operations_of c.args.patch.now) c.requires.shallow))
    c.written_value.ensures

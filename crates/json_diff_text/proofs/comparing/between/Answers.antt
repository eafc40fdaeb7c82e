use Rattle.std.proofs.Common.{string_bytes}
use Rattle.std.proofs.lemmas.Result.{IfOk-weaker}
use Rattle.json.specs.Value.{value_view}
use Rattle.json_patch_operation.specs.Operation.{operations_of}
use Rattle.json_reading.specs.Same.{SameTree}
use Rattle.json_diff_text.specs.Tables.{numerals_in, table}
use Rattle.json_diff_text.proofs.Between.{apart_of, edits_between, edits_shallow, nothing_between}
use Rattle.json_diff_text.proofs.comparing.between.Goals as goal

pub returns-then-branch : goal.returns-then-branch
returns-then-branch c =
    IfOk-weaker c.from_str.result _ _ (λ s is. nothing_between c.args.moves (value_view c.args.from.now) (value_view c.args.to.now) (string_bytes s) is (c.in_ok-same_tree.ensures.0 c.if-branch.true)) c.from_str.ensures.ok

pub written-requires-clause-shallow : goal.written-requires-clause-shallow
written-requires-clause-shallow c =
    edits_shallow c.args.moves (table c.edits.new.numerals) (value_view c.args.from.now) (value_view c.args.to.now) 126 (operations_of c.in_ok-edits.edits) c.requires.shallow c.in_ok-edits.ensures.edits

pub returns : goal.returns
returns c =
    IfOk-weaker c.written.result _ _
    (λ s says. edits_between c.args.moves (numerals_in c.texts.result.now.items) (table c.edits.new.numerals) (value_view c.args.from.now) (value_view c.args.to.now) (operations_of c.in_ok-edits.edits) (string_bytes s) c.texts.ensures
    (apart_of c.in_ok-same_tree.field-0 (SameTree (value_view c.args.from.now) (value_view c.args.to.now)) c.in_ok-same_tree.ensures c.if-branch.false) c.in_ok-edits.ensures.edits says)
    c.written.ensures

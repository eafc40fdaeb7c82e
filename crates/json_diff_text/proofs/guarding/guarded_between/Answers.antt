use Rattle.std.proofs.Common.{string_bytes}
use Rattle.std.proofs.lemmas.Result.{IfOk-weaker}
use Rattle.json.specs.Value.{value_view}
use Rattle.json_patch_operation.specs.Operation.{operations_of}
use Rattle.json_reading.specs.Same.{SameTree}
use Rattle.serde_json.specs.View.{view}
use Rattle.json_diff_text.specs.Tables.{numerals_in, table}
use Rattle.json_diff_text.proofs.Between.{apart_of}
use Rattle.json_diff_text.proofs.Guarded.{edits_plain, guarded_low, guarded_patch, nothing_guarded}
use Rattle.json_diff_text.proofs.guarding.guarded_between.Goals as goal

pub returns-then-branch : goal.returns-then-branch
returns-then-branch c =
    IfOk-weaker c.from_str.result _ _ (λ s is. nothing_guarded (value_view c.args.from.now) (value_view c.args.to.now) (string_bytes s) is (c.in_ok-same_tree.ensures.0 c.if-branch.true)) c.from_str.ensures.ok

pub with_guards-requires-clause-plain : goal.with_guards-requires-clause-plain
with_guards-requires-clause-plain c =
    let again = c.in_ok-as_written.ensures in
    edits_plain (table c.edits.new.numerals) (table c.coded.new.numerals) (value_view c.args.from.now) (value_view c.args.to.now) (view c.in_ok-as_written.as_written) (operations_of c.in_ok-changes.changes) again.grows c.in_ok-changes.ensures.edits again.stands again.document

pub written-requires-clause-shallow : goal.written-requires-clause-shallow
written-requires-clause-shallow c =
    let again = c.in_ok-as_written.ensures in
    guarded_low (table c.edits.new.numerals) (table c.coded.new.numerals) (value_view c.args.from.now) (value_view c.args.to.now) (view c.in_ok-as_written.as_written) (operations_of c.in_ok-changes.changes) (operations_of c.in_ok-guarded.guarded) 126
    c.requires.low c.requires.shallow again.grows c.in_ok-changes.ensures.edits again.stands again.document c.in_ok-guarded.ensures.guarded

pub returns : goal.returns
returns c =
    let again = c.in_ok-as_written.ensures in
    IfOk-weaker c.written.result _ _
    (λ s says. guarded_patch (numerals_in c.texts.result.now.items) (table c.edits.new.numerals) (table c.coded.new.numerals) (value_view c.args.from.now) (value_view c.args.to.now) (view c.in_ok-as_written.as_written) (operations_of c.in_ok-changes.changes)
    (operations_of c.in_ok-guarded.guarded) (string_bytes s) c.texts.ensures (apart_of c.in_ok-same_tree.field-0 (SameTree (value_view c.args.from.now) (value_view c.args.to.now)) c.in_ok-same_tree.ensures c.if-branch.false) again.grows c.in_ok-changes.ensures.edits again.stands
    again.document c.in_ok-guarded.ensures.whole c.in_ok-guarded.ensures.guarded says)
    c.written.ensures

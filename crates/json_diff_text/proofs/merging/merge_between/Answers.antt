use Rattle.std.proofs.Common.{string_bytes}
use Rattle.json.specs.Value.{value_view}
use Rattle.serde_json.specs.View.{view}
use Rattle.json_diff_text.specs.Merges.{AreSameObjects}
use Rattle.json_diff_text.specs.Tables.{numerals_in, table}
use Rattle.json_diff_text.proofs.Between.{apart_of}
use Rattle.json_diff_text.proofs.Coded.{stands_grown}
use Rattle.json_diff_text.proofs.Merges.{empty_between, none_between, patch_between, patch_low}
use Rattle.json_diff_text.proofs.merging.merge_between.Goals as goal

pub returns-then-branch : goal.returns-then-branch
returns-then-branch c = empty_between (value_view c.args.from.now) (value_view c.args.to.now) (string_bytes c.in_ok-from_str.field-0) c.in_ok-from_str.ensures.ok (c.in_ok-same_objects.ensures.0 c.if-branch.true)

pub written_value-requires-clause-shallow : goal.written_value-requires-clause-shallow
written_value-requires-clause-shallow c =
    patch_low (table c.coded-2.new.numerals) (value_view c.args.to.now) (view c.in_ok-old.old) (view c.in_ok-new.new) (view c.in-Some.patch) 128
    (stands_grown (table c.coded.new.numerals) (table c.coded-2.new.numerals) (view c.in_ok-new.new) (value_view c.args.to.now) c.in_ok-old.ensures.grows c.in_ok-new.ensures.stands) c.requires.shallow
    (rw c.in-Some.is at c.in_ok-patch.ensures.document) (rw c.in-Some.is at c.in_ok-patch.ensures.leads)

pub returns-in-Some : goal.returns-in-Some
returns-in-Some c =
    patch_between (numerals_in c.texts.result.now.items) (table c.coded-2.new.numerals) (value_view c.args.from.now) (value_view c.args.to.now) (view c.in_ok-old.old) (view c.in_ok-new.new) (view c.in-Some.patch) (string_bytes c.in_ok-written_value-in-Some.field-0) c.texts.ensures
    (apart_of c.in_ok-same_objects.field-0 (AreSameObjects (value_view c.args.from.now) (value_view c.args.to.now)) c.in_ok-same_objects.ensures c.if-branch.false) c.in_ok-old.ensures.stands
    (stands_grown (table c.coded.new.numerals) (table c.coded-2.new.numerals) (view c.in_ok-new.new) (value_view c.args.to.now) c.in_ok-old.ensures.grows c.in_ok-new.ensures.stands)
    (rw c.in-Some.is at c.in_ok-patch.ensures.document, rw c.in-Some.is at c.in_ok-patch.ensures.leads, rw c.in-Some.is at c.in_ok-patch.ensures.nothing) c.in_ok-written_value-in-Some.ensures

pub returns : goal.returns
returns c =
    none_between (table c.coded-2.new.numerals) (value_view c.args.from.now) (value_view c.args.to.now) (view c.in_ok-old.old) (view c.in_ok-new.new) c.in_ok-old.ensures.stands
    (stands_grown (table c.coded.new.numerals) (table c.coded-2.new.numerals) (view c.in_ok-new.new) (value_view c.args.to.now) c.in_ok-old.ensures.grows c.in_ok-new.ensures.stands) (c.in_ok-patch.ensures.wants_null.0 c.in-None.is)

use Rattle.std.proofs.Common.{string_bytes}
use Rattle.json.specs.Value.{value_view}
use Rattle.serde_json.specs.View.{view}
use Rattle.json_diff_text.specs.Tables.{numerals_in, table}
use Rattle.json_diff_text.proofs.Coded.{stands_grown}
use Rattle.json_diff_text.proofs.Merges.{both_between, both_low, none_of_both}
use Rattle.json_diff_text.proofs.composing.both.Goals as goal

pub written_value-requires-clause-shallow : goal.written_value-requires-clause-shallow
written_value-requires-clause-shallow c =
    both_low (table c.coded-2.new.numerals) (value_view c.args.first.now) (value_view c.args.then.now) (view c.in_ok-one.one) (view c.in_ok-next.next) (view c.in-Some.patch) 128
    (stands_grown (table c.coded.new.numerals) (table c.coded-2.new.numerals) (view c.in_ok-one.one) (value_view c.args.first.now) c.in_ok-next.ensures.grows c.in_ok-one.ensures.stands) c.in_ok-next.ensures.stands c.requires.shallow
    (rw c.in-Some.is at c.in_ok-patch.ensures.document) (rw c.in-Some.is at c.in_ok-patch.ensures.by_name)

pub returns-in-Some : goal.returns-in-Some
returns-in-Some c =
    both_between (numerals_in c.texts.result.now.items) (table c.coded-2.new.numerals) (value_view c.args.first.now) (value_view c.args.then.now) (view c.in_ok-one.one) (view c.in_ok-next.next) (view c.in-Some.patch) (string_bytes c.in_ok-written_value-in-Some.field-0) c.texts.ensures
    (stands_grown (table c.coded.new.numerals) (table c.coded-2.new.numerals) (view c.in_ok-one.one) (value_view c.args.first.now) c.in_ok-next.ensures.grows c.in_ok-one.ensures.stands) c.in_ok-next.ensures.stands
    (rw c.in-Some.is at c.in_ok-patch.ensures.document) (rw c.in-Some.is at c.in_ok-patch.ensures.by_name) c.in_ok-written_value-in-Some.ensures

pub returns : goal.returns
returns c =
    none_of_both (table c.coded-2.new.numerals) (value_view c.args.first.now) (value_view c.args.then.now) (view c.in_ok-one.one) (view c.in_ok-next.next)
    (stands_grown (table c.coded.new.numerals) (table c.coded-2.new.numerals) (view c.in_ok-one.one) (value_view c.args.first.now) c.in_ok-next.ensures.grows c.in_ok-one.ensures.stands) c.in_ok-next.ensures.stands (c.in_ok-patch.ensures.resets.0 c.in-None.is)

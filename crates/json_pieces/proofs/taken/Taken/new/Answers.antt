use Rattle.json_pieces.proofs.Calls.{made_taken, taken_value}
use Rattle.json_pieces.proofs.taken.Taken.new.Goals as goal

pub returns-clause-taken : goal.returns-clause-taken
returns-clause-taken c = made_taken c.as_str.result.now _ c.split_off_whitespace.result.1.now _ c.in_ok-made.field-0 c.in_ok-made.ensures c.as_str.ensures.shallow c.split_off_whitespace.ensures.value

pub returns-clause-text : goal.returns-clause-text
returns-clause-text c = taken_value c.as_str.result.now _ _ c.split_off_whitespace.result.1.now _ c.in_ok-made.field-0 c.as_str.ensures.text c.in_ok-made.ensures c.as_str.ensures.shallow c.split_off_whitespace.ensures.whole c.split_off_whitespace.ensures.value

use Rattle.json.specs.Value.{value_view}
use Rattle.json_diff_text.proofs.Merges.{both_nests, does_in_turn, no_both, none_resets}
use Rattle.json_diff_text.proofs.composing.merge_both_text.Goals as goal

pub returns-clause-in_turn : goal.returns-clause-in_turn
returns-clause-in_turn c = does_in_turn c.args.first.now c.args.then.now (value_view c.in-Ok.value) (value_view c.in-Ok-read.value) c.in_ok-both.field-0 c.in-Ok.ensures.says c.in-Ok-read.ensures.says c.in_ok-both.ensures

pub returns-clause-depth : goal.returns-clause-depth
returns-clause-depth c = both_nests c.args.first.now c.args.then.now (value_view c.in-Ok.value) (value_view c.in-Ok-read.value) c.in_ok-both.field-0 c.in-Ok.ensures.says c.in-Ok-read.ensures.says c.in_ok-both.ensures

pub returns-clause-impossible : goal.returns-clause-impossible
returns-clause-impossible c = no_both c.args.first.now c.args.then.now (value_view c.in-Ok.value) (value_view c.in-Ok-read.value) c.in_ok-both.field-0 c.in-Ok.ensures.says c.in-Ok-read.ensures.says c.in_ok-both.ensures

pub returns-clause-resets : goal.returns-clause-resets
returns-clause-resets c = none_resets c.args.first.now c.args.then.now (value_view c.in-Ok.value) (value_view c.in-Ok-read.value) c.in_ok-both.field-0 c.in-Ok.ensures.says c.in-Ok-read.ensures.says c.in_ok-both.ensures

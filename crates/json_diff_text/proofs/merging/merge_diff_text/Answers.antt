use Rattle.json.specs.Value.{value_view}
use Rattle.json_diff_text.proofs.Merges.{empty_exactly, merging_gives, nests_low, none_possible, none_wants}
use Rattle.json_diff_text.proofs.merging.merge_diff_text.Goals as goal

pub returns-clause-gives : goal.returns-clause-gives
returns-clause-gives c = merging_gives c.args.from.now c.args.to.now (value_view c.in-Ok.value) (value_view c.in-Ok-read.value) c.in_ok-merge_between.field-0 c.in-Ok.ensures.says c.in-Ok-read.ensures.says c.in_ok-merge_between.ensures

pub returns-clause-nothing : goal.returns-clause-nothing
returns-clause-nothing c = empty_exactly c.args.from.now c.args.to.now (value_view c.in-Ok.value) (value_view c.in-Ok-read.value) c.in_ok-merge_between.field-0 c.in-Ok.ensures.says c.in-Ok-read.ensures.says c.in_ok-merge_between.ensures

pub returns-clause-depth : goal.returns-clause-depth
returns-clause-depth c = nests_low c.args.from.now c.args.to.now (value_view c.in-Ok.value) (value_view c.in-Ok-read.value) c.in_ok-merge_between.field-0 c.in-Ok-read.ensures.says c.in_ok-merge_between.ensures

pub returns-clause-impossible : goal.returns-clause-impossible
returns-clause-impossible c = none_possible c.args.from.now c.args.to.now (value_view c.in-Ok.value) (value_view c.in-Ok-read.value) c.in_ok-merge_between.field-0 c.in-Ok.ensures.says c.in-Ok-read.ensures.says c.in_ok-merge_between.ensures

pub returns-clause-wants_null : goal.returns-clause-wants_null
returns-clause-wants_null c = none_wants c.args.from.now c.args.to.now (value_view c.in-Ok.value) (value_view c.in-Ok-read.value) c.in_ok-merge_between.field-0 c.in-Ok.ensures.says c.in-Ok-read.ensures.says c.in_ok-merge_between.ensures

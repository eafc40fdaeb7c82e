use Rattle.std.proofs.Common.{string_bytes}
use Rattle.json.specs.Value.{value_view}
use Rattle.json_diff_text.proofs.Guarded.{guarded_accepts, guarded_few_between, guarded_never, guarded_nothing_exactly, guarded_says, refused_elsewhere}
use Rattle.json_diff_text.proofs.guarding.guarded_diff_text.Goals as goal

pub returns-clause-leads : goal.returns-clause-leads
returns-clause-leads c = guarded_accepts c.args.from.now c.args.to.now (string_bytes c.in_ok-guarded_between.field-0) (value_view c.in-Ok.value) (value_view c.in-Ok-read.value) c.in-Ok.ensures.says c.in-Ok-read.ensures.says c.in_ok-guarded_between.ensures

pub returns-clause-guarded : goal.returns-clause-guarded
returns-clause-guarded c = guarded_says c.args.from.now (string_bytes c.in_ok-guarded_between.field-0) (value_view c.in-Ok.value) (value_view c.in-Ok-read.value) c.in-Ok.ensures.says c.in_ok-guarded_between.ensures

pub returns-clause-refused : goal.returns-clause-refused
returns-clause-refused c = refused_elsewhere c.args.from.now (string_bytes c.in_ok-guarded_between.field-0) (value_view c.in-Ok.value) (value_view c.in-Ok-read.value) c.in-Ok.ensures.says c.in_ok-guarded_between.ensures

pub returns-clause-nothing : goal.returns-clause-nothing
returns-clause-nothing c = guarded_nothing_exactly c.args.from.now c.args.to.now (string_bytes c.in_ok-guarded_between.field-0) (value_view c.in-Ok.value) (value_view c.in-Ok-read.value) c.in-Ok.ensures.says c.in-Ok-read.ensures.says c.in_ok-guarded_between.ensures

pub returns-clause-few : goal.returns-clause-few
returns-clause-few c = guarded_few_between c.args.from.now c.args.to.now (string_bytes c.in_ok-guarded_between.field-0) (value_view c.in-Ok.value) (value_view c.in-Ok-read.value) c.in-Ok.ensures.says c.in-Ok-read.ensures.says c.in_ok-guarded_between.ensures

pub returns-clause-never : goal.returns-clause-never
returns-clause-never c =
    let start = c.in-Ok.ensures in let end = c.in-Ok-read.ensures in
    guarded_never c.args.from.now c.args.to.now (string_bytes c.in_ok-guarded_between.field-0) (value_view c.in-Ok.value) (value_view c.in-Ok-read.value) start.says end.says start.shallow end.shallow c.in_ok-guarded_between.ensures

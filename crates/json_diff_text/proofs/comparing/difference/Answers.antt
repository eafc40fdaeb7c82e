use Rattle.std.proofs.Common.{arith, string_bytes}
use Rattle.json.specs.Value.{value_view}
use Rattle.json_diff_text.proofs.Between.{with_moves, without_moves}
use Rattle.json_diff_text.proofs.comparing.difference.Goals as goal

pub returns-then-branch-clause-text : goal.returns-then-branch-clause-text
returns-then-branch-clause-text c =
    let start = c.in-Ok.ensures in let end = c.in-Ok-read.ensures in
    with_moves c.args.moves c.args.from.now c.args.to.now (string_bytes c.in_ok-patch.patch) c.as_str.result.now (value_view c.in-Ok.value) (value_view c.in-Ok-read.value) c.levels.result c.levels-then-moves.result c.max-most.result
    c.if-moves.true c.as_str.ensures.value (omega (arith, c.max-most.ensures)) start.says end.says start.shallow end.shallow c.levels.ensures c.levels-then-moves.ensures c.in_ok-patch.ensures (c.in_ok-stays_within.ensures c.if-branch.true)

pub returns-clause-text : goal.returns-clause-text
returns-clause-text c =
    let start = c.in-Ok.ensures in let end = c.in-Ok-read.ensures in
    without_moves c.args.moves c.args.from.now c.args.to.now (string_bytes c.in_ok-between.field-0) (value_view c.in-Ok.value) (value_view c.in-Ok-read.value) start.says end.says start.shallow end.shallow c.in_ok-between.ensures

use Rattle.std.proofs.Common.{false}
use Rattle.json_text.proofs.growing.second.Goals as goal

pub part_at-requires-clause-ahead : goal.part_at-requires-clause-ahead
part_at-requires-clause-ahead c = c.first.ensures.ahead false

-- What was sent is the front of the line, and no write failed.
use Rattle.std.proofs.Common.{◌≡◌, ◌-◌, ◌≤◌, length, take, false}
use Rattle.std.specs.Io.KnownBytes.{Appends}
use Rattle.json_patch_tool.proofs.edge.write_line.Given as goal

abbrev pub invariant-loop-sent : goal.invariant-loop-sent
invariant-loop-sent g l = (l.sent ≤ length l.line) × Appends (g.W.Write.contents l.initial.writer.inner.now) (g.W.Write.contents l.writer.inner.now) (take l.sent l.line)
    × (l.writer.has_failed ≡ false) × (l.writer.inner.ghost_name ≡ l.initial.writer.inner.ghost_name)

abbrev pub decreases-loop-sent : goal.decreases-loop-sent
decreases-loop-sent g l = length l.line - l.sent

-- What is kept is what the reader gave so far, and is within the limit; it showed no end, and no read failed.
use Rattle.std.proofs.Common.{◌≡◌, ◌≤◌, vec_len, false}
use Rattle.std.specs.Io.KnownBytes.{Consumes}
use Rattle.json_patch_answers.specs.declared.input.TheConstants.{MAX_INPUT}
use Rattle.json_patch_tool.proofs.edge.read_input.Given as goal

abbrev pub invariant-loop : goal.invariant-loop
invariant-loop g l = Consumes (g.R.Read.remaining l.initial.reader.inner) (g.R.Read.remaining l.reader.inner) l.input.items
    × (vec_len l.input ≤ MAX_INPUT)
    × (l.reader.calls ≡ l.counter) × (l.reader.has_ended ≡ false) × (l.reader.has_failed ≡ false)

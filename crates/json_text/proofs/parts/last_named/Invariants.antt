use Rattle.std.proofs.Common.{◌≡◌, ◌≤◌, length, ◌-◌, List, true}
use Rattle.json_lexemes.specs.Places.{left_at}
use Rattle.json_text.specs.Rows.{Child, IsSolid, inside}
use Rattle.json_text.proofs.Rows.Reached.{AreNamed}
use Rattle.json_text.proofs.parts.last_named.Given as goal

abbrev pub invariant-loop-part : goal.invariant-loop-part
invariant-loop-part l = record {
  low : l.start ≤ length l.text;
  solid : IsSolid l.text l.start;
  passed : l.number ≤ l.start;
  ahead : (cs : List Child) → left_at l.text l.from ≡ inside true cs → AreNamed l.text l.name cs l.number l.start l.found;
}

abbrev pub decreases-loop-part : goal.decreases-loop-part
decreases-loop-part l = length l.text - l.start

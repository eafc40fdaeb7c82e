use Rattle.std.proofs.Common.{◌≡◌, ◌≤◌, length, drop, List, None}
use Rattle.json_text.specs.Rows.{Child, last_named}
use Rattle.json_pieces.specs.Nodes.{AreNames}
use Rattle.json_pieces.proofs.seams.last_in.Given as goal

abbrev pub invariant-loop-i : goal.invariant-loop-i
invariant-loop-i l = record {
  within : l.i ≤ length l.seams;
  none : (cs : List Child) → AreNames l.seams cs → last_named l.name (drop l.i cs) ≡ None;
}

abbrev pub decreases-loop-i : goal.decreases-loop-i
decreases-loop-i l = l.i

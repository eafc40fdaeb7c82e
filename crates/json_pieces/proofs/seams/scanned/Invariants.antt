use Rattle.std.proofs.Common.{◌≡◌, ◌≤◌, length, drop, take, List, None}
use Rattle.json_text.specs.Rows.{Child, last_named}
use Rattle.json_pieces.specs.Nodes.{AreNames}
use Rattle.long_vec.specs.Blocks.{items_in}
use Rattle.json_pieces.proofs.seams.scanned.Given as goal

abbrev pub invariant-loop-i : goal.invariant-loop-i
invariant-loop-i l = record {
  within : l.i ≤ length l.blocks;
  before : l.before ≡ length (items_in (take l.i l.blocks));
  none : (cs : List Child) → AreNames (items_in l.blocks) cs → last_named l.name (drop l.before cs) ≡ None;
}

abbrev pub decreases-loop-i : goal.decreases-loop-i
decreases-loop-i l = l.i

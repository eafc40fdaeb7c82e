use Rattle.std.proofs.Common.{◌≤◌, length, ◌-◌, List}
use Rattle.std.specs.Str.{IsUtf8, IsCharBoundary}
use Rattle.json_text.specs.Rows.{Child, IsInside, IsNext, IsSolid}
use Rattle.json_text.proofs.parts.last_part.Given as goal

abbrev pub invariant-loop-part : goal.invariant-loop-part
invariant-loop-part l = record {
  low : l.start ≤ length l.text;
  solid : IsSolid l.text l.start;
  order : l.before ≤ l.start;
  passed : l.number ≤ l.start;
  boundary : (IsUtf8 l.text → IsCharBoundary l.text l.from) → (IsUtf8 l.text → IsCharBoundary l.text l.before) × (IsUtf8 l.text → IsCharBoundary l.text l.start);
  reached : (cs : List Child) → IsInside l.text l.named cs l.from → IsNext l.text l.named cs l.number l.before l.start;
}

abbrev pub decreases-loop-part : goal.decreases-loop-part
decreases-loop-part l = length l.text - l.start

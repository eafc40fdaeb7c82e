use Rattle.std.proofs.Common.{◌≡◌, ◌≤◌, length, ◌-◌, List}
use Rattle.std.specs.Str.{IsUtf8, IsCharBoundary}
use Rattle.json.specs.Lex.{between}
use Rattle.json_lexemes.specs.Spelled.{Says}
use Rattle.json_text.specs.Listing.{AreListed}
use Rattle.json_lexemes.specs.Places.{mode_at}
use Rattle.json_text.specs.Rows.{Child, IsInside, IsSolid, tree_in}
use Rattle.json_text.proofs.listing.child_texts.Given as goal

abbrev pub invariant-loop-part : goal.invariant-loop-part
invariant-loop-part l = record {
  low : l.start ≤ length l.bytes;
  solid : IsSolid l.bytes l.start;
  boundary : IsUtf8 l.bytes × IsCharBoundary l.bytes l.start;
  listed : (cs : List Child) → Says l.bytes (tree_in l.row.named cs) → IsInside l.bytes l.row.named cs l.row.start → (mode_at l.bytes l.start ≡ between) × AreListed l.bytes l.row.named cs l.found.items l.start;
}

abbrev pub decreases-loop-part : goal.decreases-loop-part
decreases-loop-part l = length l.bytes - l.start

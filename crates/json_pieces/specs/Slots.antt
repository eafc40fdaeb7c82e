-- A part put into a row, with whitespace from a slot.
use Rattle.std.specs.Prelude.{◌≡◌, ◌<◌, ◌+◌, ℕ, List, length, ⊤}
use Rattle.std.specs.List.{insert}
use Rattle.long_vec.specs.Items.{items_of}
use Rattle.json_pieces.specs.Exchanges.{HasTrail, HasWhitespace, with_trail, with_whitespace}
use Rattle.json_pieces.specs.Lengths.{seam_length}
use Rattle.json_pieces.specs.Nodes.{tree_text, view}
use Rattle.json_pieces.specs.declared.node.Node.{Node}
use Rattle.json_pieces.specs.declared.node.Row.{Row}
use Rattle.json_pieces.specs.declared.row.Slot.{Slot}
use Rattle.json_pieces.specs.declared.row.Slot.TheVariants.{Hollow, Whitespace, Trail}
use Rattle.json_pieces.specs.declared.seams.Seam.{Seam}
use Rattle.json_pieces.specs.declared.text.Text.{Text}

abbrev pub commas_of : Slot → ℕ
commas_of Hollow = 0
commas_of (Whitespace n) = 1
commas_of (Trail n) = 1

-- it is a slot of a row of so many parts
abbrev pub IsSlotOf : Slot → ℕ → Type 0
IsSlotOf Hollow count = ⊤
IsSlotOf (Whitespace n) count = n < count
IsSlotOf (Trail n) count = n < count

-- of a row with the whitespace hollow and the seams olds, what is in the slot is exchanged for that of the seam s
abbrev pub AreSwapped : Slot → Seam → Text → List Seam → Seam → Text → List Seam → Type 0
AreSwapped Hollow s hollow olds t hollow2 news = (t ≡ with_trail hollow s) × (hollow2 ≡ s.trail) × (news ≡ olds)
AreSwapped (Whitespace n) s hollow olds t hollow2 news = (t ≡ with_whitespace t.whitespace s) × (hollow2 ≡ hollow) × HasWhitespace olds n s.whitespace t.whitespace news
AreSwapped (Trail n) s hollow olds t hollow2 news = (t ≡ with_trail t.trail s) × (hollow2 ≡ hollow) × HasTrail olds n s.trail t.trail news

-- the row new is old with the part given, value at this number, and its whitespace from the slot
pub record IsPut (slot : Slot) (number : ℕ) (old : Row) (given : Seam) (value : Node) (new : Row) : Type 0 where
  pub seam : Seam
  pub seams : List Seam
  pub swapped : AreSwapped slot given old.hollow (items_of old.seams.all) seam new.hollow seams
  pub seams_are : items_of new.seams.all ≡ insert seams number seam
  pub values_are : items_of new.values ≡ insert (items_of old.values) number value
  pub named : new.named ≡ old.named
  pub grown : new.length ≡ old.length + (seam_length given + length (tree_text (view value)) + commas_of slot)

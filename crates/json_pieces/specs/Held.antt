-- What a value in pieces holds: the very texts, and how much room each row has.
use Rattle.std.specs.Prelude.{ℕ, List, [], ◌∷◌, map, Bool}
use Rattle.long_vec.specs.Items.{capacity_of, items_of}
use Rattle.json_pieces.specs.declared.node.Node.{Node}
use Rattle.json_pieces.specs.declared.node.Node.TheOpen.{Node-F, Row-F}
use Rattle.json_pieces.specs.declared.node.Node.TheFolds.{fold-Node}
use Rattle.json_pieces.specs.declared.node.Row.{Row}
use Rattle.json_pieces.specs.declared.seams.Seam.{Seam}
use Rattle.json_pieces.specs.declared.text.Text.{Text}

-- a row but for its values
pub record Head : Type 0 where
  pub named : Bool
  pub length : ℕ
  pub seams_room : ℕ
  pub values_room : ℕ
  pub hollow : Text
  pub seams : List Seam

mutual
  pub data Held : Type 0 where
    held_text : Text → Held
    held_row : Head → Helds → Held

  pub data Helds : Type 0 where
    no_more : Helds
    and_more : Held → Helds → Helds

abbrev pub helds : List Held → Helds
helds [] = no_more
helds (t ∷ ts) = and_more t (helds ts)

abbrev pub held_step : Node-F Held Held → Held
held_step (Node-F.Closed s) = held_text s
held_step (Node-F.Open b) = b.value

abbrev pub row_held_step : Row-F Held Held → Held
row_held_step r = held_row (record { named = r.named; length = r.length; seams_room = capacity_of r.seams.all; values_room = capacity_of r.values; hollow = r.hollow; seams = items_of r.seams.all }) (helds (items_of r.values))

abbrev pub held : Node → Held
held = fold-Node Held Held held_step row_held_step

abbrev pub head_of : Row → Head
head_of r = record { named = r.named; length = r.length; seams_room = capacity_of r.seams.all; values_room = capacity_of r.values; hollow = r.hollow; seams = items_of r.seams.all }

abbrev pub row_held : Row → Held
row_held r = held_row (head_of r) (helds (map held (items_of r.values)))

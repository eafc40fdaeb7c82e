-- What is held, with more of it opened and with more room.
use Rattle.std.specs.Prelude.{◌≡◌, ◌≤◌, ⊤}
use Rattle.json_pieces.specs.Held.{Head, Held, Helds, and_more, held_row, held_text, no_more}
use Rattle.json_pieces.specs.Nodes.{IsSound, text_bytes, tree_of, tree_text}
use Rattle.json_pieces.specs.declared.text.Text.{Text}

pub record IsRoomier (g h : Head) : Type 0 where
  pub named : h.named ≡ g.named
  pub length : h.length ≡ g.length
  pub hollow : h.hollow ≡ g.hollow
  pub seams : h.seams ≡ g.seams
  pub seams_room : g.seams_room ≤ h.seams_room
  pub values_room : g.values_room ≤ h.values_room

-- what is opened makes the text
abbrev pub Opens : Text → Held → Type 0
Opens s u = (tree_text (tree_of u) ≡ text_bytes s) × IsSound (tree_of u)

-- u is t with more of it opened, and with more room
abbrev mutual
  pub IsOpenedFrom : Held → Held → Type 0
  IsOpenedFrom (held_text s) u = Opens s u
  IsOpenedFrom (held_row g ts) (held_text s) = ⊥
  IsOpenedFrom (held_row g ts) (held_row h us) = IsRoomier g h × AreOpenedFrom ts us

  pub AreOpenedFrom : Helds → Helds → Type 0
  AreOpenedFrom no_more no_more = ⊤
  AreOpenedFrom no_more (and_more u us) = ⊥
  AreOpenedFrom (and_more t ts) no_more = ⊥
  AreOpenedFrom (and_more t ts) (and_more u us) = IsOpenedFrom t u × AreOpenedFrom ts us

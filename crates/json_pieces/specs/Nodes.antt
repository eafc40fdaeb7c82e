-- A value in pieces as a tree, and the text that it makes.
use Rattle.std.specs.Prelude.{◌≡◌, ℕ, List, [], ◌∷◌, ◌++◌, length, map, Bool, true, false, ⊤}
use Rattle.json.specs.Json.{Json}
use Rattle.json_text.specs.Cuts.{AllSuit, IsWhitespace, Piece, opens, row_text}
use Rattle.json_text.specs.Less.{IsLeaf}
use Rattle.json_text.specs.Listing.{IsTextOf}
use Rattle.json_text.specs.Rows.{Child}
use Rattle.json_lexemes.specs.Spelled.{Says}
use Rattle.long_vec.specs.Items.{items_of}
pub use Rattle.json_pieces.specs.Names.{text_bytes, AreNames}
use Rattle.json_pieces.specs.declared.node.Node.{Node}
use Rattle.json_pieces.specs.Held.{Held, Helds, and_more, held, held_row, held_text, no_more}
use Rattle.json_pieces.specs.declared.node.Row.{Row}
use Rattle.json_pieces.specs.declared.seams.Seam.{Seam}

-- a part with this value
abbrev pub piece_with : Seam → List ℕ → Piece
piece_with s value = record { whitespace = text_bytes s.whitespace; name = text_bytes s.name; colons = text_bytes s.colons; value = value; trail = text_bytes s.trail }

-- A value is shut, or wide: a row of parts, with the length that is kept of it and the whitespace that it has where it is empty. Of as many
-- values as seams there are parts; else the row is torn.
mutual
  pub data Tree : Type 0 where
    shut : List ℕ → Tree
    wide : Bool → ℕ → List ℕ → Parts → Tree

  pub data Parts : Type 0 where
    none : Parts
    torn : Parts
    part : Seam → Tree → Parts → Parts

abbrev pub parts_of : List Seam → List Tree → Parts
parts_of [] [] = none
parts_of [] (t ∷ ts) = torn
parts_of (s ∷ ss) [] = torn
parts_of (s ∷ ss) (t ∷ ts) = part s t (parts_of ss ts)

abbrev mutual
  pub tree_of : Held → Tree
  tree_of (held_text s) = shut (text_bytes s)
  tree_of (held_row g ts) = wide g.named g.length (text_bytes g.hollow) (parts_of g.seams (trees_of ts))

  pub trees_of : Helds → List Tree
  trees_of no_more = []
  trees_of (and_more t ts) = tree_of t ∷ trees_of ts

abbrev pub view : Node → Tree
view n = tree_of (held n)

abbrev pub row_parts : Row → Parts
row_parts r = parts_of (items_of r.seams.all) (map view (items_of r.values))

abbrev pub row_view : Row → Tree
row_view r = wide r.named r.length (text_bytes r.hollow) (row_parts r)

-- ---- the text

abbrev mutual
  pub tree_text : Tree → List ℕ
  tree_text (shut s) = s
  tree_text (wide b n hollow ps) = row_text b hollow (pieces ps)

  pub pieces : Parts → List Piece
  pieces none = []
  pieces torn = []
  pieces (part s t ps) = piece_with s (tree_text t) ∷ pieces ps

-- ---- what is kept fits together

-- the parts are those of some members or elements, and n is the length of their text
pub record IsRow (b : Bool) (n : ℕ) (hollow : List ℕ) (ps : List Piece) : Type 0 where
  pub cs : List Child
  pub suit : AllSuit b cs ps
  pub whitespace : IsWhitespace hollow
  pub size : n ≡ length (row_text b hollow ps)

abbrev mutual
  pub IsSound : Tree → Type 0
  IsSound (shut s) = ⊤
  IsSound (wide b n hollow ps) = IsRow b n hollow (pieces ps) × AreSound ps

  pub AreSound : Parts → Type 0
  AreSound none = ⊤
  AreSound torn = ⊥
  AreSound (part s t ps) = IsSound t × AreSound ps

-- it makes the text of a value, with no whitespace at its front or end
abbrev pub IsWhole : Tree → Type 0
IsWhole t = IsSound t × ((j : Json) × IsTextOf (tree_text t) j)

-- before a part, the first or another: the bracket or a comma
abbrev pub mark_before : Bool → Bool → ℕ
mark_before b true = opens b
mark_before b false = 44

-- before its value
abbrev pub lead_of : Seam → List ℕ
lead_of s = text_bytes s.whitespace ++ (text_bytes s.name ++ text_bytes s.colons)

abbrev pub row_pieces : Row → List Piece
row_pieces r = pieces (row_parts r)

-- neither an object nor an array is shut in it
abbrev pub IsOpened : Tree → Type 0
IsOpened (shut s) = (j : Json) → Says s j → IsLeaf j
IsOpened (wide b n hollow ps) = ⊤

-- the row makes this text
abbrev pub IsRowOf : List ℕ → Row → Type 0
IsRowOf text r = IsSound (row_view r) × (tree_text (row_view r) ≡ text)

-- ---- a walk over its parts

abbrev pub AreSoundIn : List Seam → List Node → Type 0
AreSoundIn ss vs = AreSound (parts_of ss (map view vs))

-- s and v are the first of these seams and values, and the others are left
pub record IsFirstPart (ss : List Seam) (vs : List Node) (s : Seam) (v : Node) (seams : List Seam) (values : List Node) : Type 0 where
  pub seam : ss ≡ s ∷ seams
  pub value : vs ≡ v ∷ values
  pub sound : IsSound (view v)
  pub others : AreSoundIn seams values

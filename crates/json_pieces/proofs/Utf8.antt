-- The text that pieces make is UTF-8: each stretch of it is.
use Rattle.std.proofs.Common.{◌<◌, ℕ, zero, suc, arith, List, [], ◌∷◌, ◌++◌, Bool, true, false}
use Rattle.std.specs.Prelude.{IsUtf8, slice_index, ⊤}
use Rattle.std.proofs.lemmas.Str.{IsUtf8-append, IsUtf8-from_ascii, IsUtf8-had, IsUtf8-nil, IsUtf8-string_bytes}
use Rattle.json_text.specs.Cuts.{Piece, closes, opens, piece_text, pieces_text, row_text}
use Rattle.json_pieces.specs.Held.{Held, Helds, and_more, held, held_row, held_text, no_more}
use Rattle.json_pieces.specs.Nodes.{Parts, Tree, none, part, parts_of, piece_with, pieces, shut, text_bytes, torn, tree_of, tree_text, trees_of, view, wide}
use Rattle.json_pieces.specs.Whole.{text_of}
use Rattle.json_pieces.specs.declared.pieces.Pieces.{Pieces}
use Rattle.json_pieces.specs.declared.seams.Seam.{Seam}
use Rattle.json_pieces.specs.declared.text.Text.{Text}
use Rattle.json_pieces.specs.declared.text.Text.TheVariants.{Empty, Kept, Made}

text_utf8 : (t : Text) → IsUtf8 (text_bytes t)
text_utf8 Empty = IsUtf8-nil
text_utf8 (Kept l) = IsUtf8-had l.text.now l.utf8
text_utf8 (Made s) = IsUtf8-string_bytes s

one_ascii : (x : ℕ) → x < 128 → (i : ℕ) → slice_index (x ∷ []) i < 128
one_ascii x h zero = h
one_ascii x h (suc i) = omega arith

byte : (x : ℕ) → x < 128 → IsUtf8 (x ∷ [])
byte x h = IsUtf8-from_ascii (x ∷ []) (one_ascii x h)

-- ---- a row of texts

abbrev AllUtf8 : List Piece → Type 0
AllUtf8 [] = ⊤
AllUtf8 (p ∷ ps) = IsUtf8 (piece_text p) × AllUtf8 ps

parts_text : (x : ℕ) (ps : List Piece) → IsUtf8 (x ∷ []) → AllUtf8 ps → IsUtf8 (pieces_text x ps)
parts_text x [] h u = IsUtf8-nil
parts_text x (p ∷ ps) h u = IsUtf8-append (x ∷ []) (piece_text p ++ pieces_text 44 ps) h (IsUtf8-append (piece_text p) (pieces_text 44 ps) u.0 (parts_text 44 ps (byte 44 (omega arith)) u.1))

opening : (b : Bool) → IsUtf8 (opens b ∷ [])
opening true = byte 123 (omega arith)
opening false = byte 91 (omega arith)

closing : (b : Bool) → IsUtf8 (closes b ∷ [])
closing true = byte 125 (omega arith)
closing false = byte 93 (omega arith)

row_utf8 : (b : Bool) (hollow : List ℕ) (ps : List Piece) → IsUtf8 hollow → AllUtf8 ps → IsUtf8 (row_text b hollow ps)
row_utf8 b hollow [] h u = IsUtf8-append (opens b ∷ []) (hollow ++ closes b ∷ []) (opening b) (IsUtf8-append hollow (closes b ∷ []) h (closing b))
row_utf8 b hollow (p ∷ ps) h u = IsUtf8-append (pieces_text (opens b) (p ∷ ps)) (closes b ∷ []) (parts_text (opens b) (p ∷ ps) (opening b) u) (closing b)

piece_utf8 : (s : Seam) (v : List ℕ) → IsUtf8 v → IsUtf8 (piece_text (piece_with s v))
piece_utf8 s v h =
    IsUtf8-append (text_bytes s.whitespace) _ (text_utf8 s.whitespace) (IsUtf8-append (text_bytes s.name) _ (text_utf8 s.name)
    (IsUtf8-append (text_bytes s.colons) _ (text_utf8 s.colons) (IsUtf8-append v (text_bytes s.trail) h (text_utf8 s.trail))))

-- ---- a tree

abbrev mutual
  AreUtf8 : Tree → Type 0
  AreUtf8 (shut s) = IsUtf8 s
  AreUtf8 (wide b n hollow ps) = IsUtf8 hollow × HaveUtf8 ps

  HaveUtf8 : Parts → Type 0
  HaveUtf8 none = ⊤
  HaveUtf8 torn = ⊤
  HaveUtf8 (part s t ps) = AreUtf8 t × HaveUtf8 ps

mutual
  tree_utf8 : (t : Tree) → AreUtf8 t → IsUtf8 (tree_text t)
  tree_utf8 (shut s) h = h
  tree_utf8 (wide b n hollow ps) h = row_utf8 b hollow (pieces ps) h.0 (pieces_utf8 ps h.1)

  pieces_utf8 : (ps : Parts) → HaveUtf8 ps → AllUtf8 (pieces ps)
  pieces_utf8 none h = tt
  pieces_utf8 torn h = tt
  pieces_utf8 (part s t ps) h = (piece_utf8 s (tree_text t) (tree_utf8 t h.0), pieces_utf8 ps h.1)

abbrev TreesUtf8 : List Tree → Type 0
TreesUtf8 [] = ⊤
TreesUtf8 (t ∷ ts) = AreUtf8 t × TreesUtf8 ts

have_utf8 : (ss : List Seam) (ts : List Tree) → TreesUtf8 ts → HaveUtf8 (parts_of ss ts)
have_utf8 [] [] h = tt
have_utf8 [] (t ∷ ts) h = tt
have_utf8 (s ∷ ss) [] h = tt
have_utf8 (s ∷ ss) (t ∷ ts) h = (h.0, have_utf8 ss ts h.1)

-- ---- what is held

mutual
  held_utf8 : (h : Held) → AreUtf8 (tree_of h)
  held_utf8 (held_text s) = text_utf8 s
  held_utf8 (held_row g ts) = (text_utf8 g.hollow, have_utf8 g.seams (trees_of ts) (helds_utf8 ts))

  helds_utf8 : (ts : Helds) → TreesUtf8 (trees_of ts)
  helds_utf8 no_more = tt
  helds_utf8 (and_more t ts) = (held_utf8 t, helds_utf8 ts)

-- whatever the pieces are
pub made_utf8 : (p : Pieces) → IsUtf8 (text_of p)
made_utf8 p =
    IsUtf8-append (text_bytes p.before) (tree_text (view p.root) ++ text_bytes p.behind) (text_utf8 p.before)
    (IsUtf8-append (tree_text (view p.root)) (text_bytes p.behind) (tree_utf8 (view p.root) (held_utf8 (held p.root))) (text_utf8 p.behind))

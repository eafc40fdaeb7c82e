-- What takes back operations on a text, with the values as they stood in it; and its text.
use Rattle.std.specs.Prelude.{◌≡◌, ◌≤◌, ◌+◌, ℕ, List, [], ◌∷◌, ◌++◌, map, codes, reverse, Bool, true, false, Option, Some, None, String, option_map, if◌then◌else◌}
use Rattle.std.specs.String.{string_bytes}
use Rattle.std.specs.declared.alloc.Global.{Global}
use Rattle.json.specs.Json.{Json, max_depth}
use Rattle.json.specs.Print.{quoted}
use Rattle.jsonptr.specs.Text.{Pointer, text_of}
use Rattle.json_lexemes.specs.Skipped.{nesting}
use Rattle.json_lexemes.specs.Spelled.{Says}
use Rattle.json_patch_document.specs.ChangeComputed.{front_of}
use Rattle.json_patch_text.specs.Inverses.{undo_added}
use Rattle.json_patch_text.specs.Made.{Costs, IsMadeIn, Stands}
use Rattle.json_patch_text.specs.Operations.{TreeOperation, add, remove, replace}
use Rattle.json_patch_text.specs.declared.operation.TextOperation.{TextOperation}
use Rattle.json_patch_text.specs.declared.operation.TextOperation.TheVariants.{Add, Remove, Replace, Move, Copy, Test}
use Rattle.json_patch_text.specs.declared.undo.Undo.{Undo}
use Rattle.json_patch_text.specs.declared.undo.Undo.TheVariants as undo
use Rattle.json_text.specs.Cuts.{Piece, row_text}
use Rattle.json_text.specs.Listing.{shape_of}
use Rattle.json_text.specs.Pointed.{IsWrittenAt, tree_at}
use Rattle.json_text.specs.Removed.{IsRemoved}
use Rattle.json_text.specs.declared.listing.Shape.{Shape}
use Rattle.json_text.specs.declared.listing.Shape.TheVariants.{Object, Array as ArrayShape, String as StringShape, Atom}

-- ---- one operation

-- of a text that says i, it is this operation, and its value's text is what stands in the text where it is put
abbrev pub IsUndo : List ℕ → Json → Undo → TreeOperation → Type 0
IsUndo text i (undo.Add P s) (add Q w) = (Q ≡ P) × (tree_at P i ≡ Some w) × IsWrittenAt text i P (string_bytes s)
IsUndo text i (undo.Remove P) (remove Q) = Q ≡ P
IsUndo text i (undo.Replace P s) (replace Q w) = (Q ≡ P) × (tree_at P i ≡ Some w) × IsWrittenAt text i P (string_bytes s)
IsUndo text i u op = ⊥

-- u takes back an addition to the text at P
abbrev pub TakesBack : List ℕ → Pointer → Undo → Type 0
TakesBack text P u = (i : Json) × Says text i × IsUndo text i u (undo_added i P)

-- us puts back what stands in the text where P leads: exchanged for what stands there, or added
abbrev pub PutsBack : Bool → List ℕ → Pointer → List Undo → Type 0
PutsBack exchanged text P us = (s : String Global) × (us ≡ (if exchanged then undo.Replace P s else undo.Add P s) ∷ []) × Stands text P (string_bytes s)

-- us takes back a move: the value comes back to F, and before it to P what stood there in the text without it
abbrev pub IsMovedBack : List ℕ → Pointer → Pointer → List Undo → Type 0
IsMovedBack text F P us = (vs : List Undo) × (u : Undo) × (less : List ℕ) × (us ≡ vs ++ u ∷ []) × PutsBack false text F vs × IsRemoved text F less × TakesBack less P u

-- us takes back the operation, the last of us first, with the values that stand in the text before it
abbrev pub IsTakenFrom : List ℕ → TextOperation → List Undo → Type 0
IsTakenFrom text (Add P v) us = (u : Undo) × (us ≡ u ∷ []) × TakesBack text P u
IsTakenFrom text (Remove P) us = PutsBack false text P us
IsTakenFrom text (Replace P v) us = PutsBack true text P us
IsTakenFrom text (Move F P) us = IsMovedBack text F P us
IsTakenFrom text (Copy F P) us = (u : Undo) × (us ≡ u ∷ []) × TakesBack text P u
IsTakenFrom text (Test P v) us = us ≡ []

-- ---- a list of operations

-- new is the text with each operation made in turn, on a text of at most 128 levels, and us what takes them back, the last of us first;
-- each text on the way is so, and they cost n bytes in all
abbrev pub AreTakenFrom : (List ℕ → Type 0) → List ℕ → List TextOperation → List ℕ → List Undo → ℕ → Type 0
AreTakenFrom Fits text [] new us n = Fits text × (new ≡ text) × (us ≡ []) × (n ≡ 0)
AreTakenFrom Fits text (o ∷ os) new us n = Fits text × (nesting text ≤ max_depth) × ((next : List ℕ) × (vs : List Undo) × (ws : List Undo) × (m : ℕ) × (rest : ℕ) × IsMadeIn text o next × IsTakenFrom text o vs × Costs text o m × AreTakenFrom Fits next os new ws rest × (us ≡ vs ++ ws) × (n ≡ m + rest))

-- ---- its text

-- a member of this name, with this text of its value
abbrev pub member_text : List ℕ → List ℕ → Piece
member_text k s = record { whitespace = []; name = quoted k; colons = 58 ∷ []; value = s; trail = [] }

abbrev pub element_text : List ℕ → Piece
element_text s = record { whitespace = []; name = []; colons = []; value = s; trail = [] }

abbrev pub undo_members : Undo → List Piece
undo_members (undo.Add P s) = member_text (codes "op") (quoted (codes "add")) ∷ member_text (codes "path") (quoted (text_of P)) ∷ member_text (codes "value") (string_bytes s) ∷ []
undo_members (undo.Remove P) = member_text (codes "op") (quoted (codes "remove")) ∷ member_text (codes "path") (quoted (text_of P)) ∷ []
undo_members (undo.Replace P s) = member_text (codes "op") (quoted (codes "replace")) ∷ member_text (codes "path") (quoted (text_of P)) ∷ member_text (codes "value") (string_bytes s) ∷ []

-- an operation with no whitespace, and a list of them, the last one first
abbrev pub undo_text : Undo → List ℕ
undo_text u = row_text true [] (undo_members u)

abbrev pub backward_text : List (List ℕ) → List ℕ
backward_text ts = row_text false [] (map element_text (reverse ts))

abbrev pub undo_list : List Undo → List ℕ
undo_list us = backward_text (map undo_text us)

-- ---- for private clauses

abbrev pub is_array : Option Shape → Bool
is_array None = false
is_array (Some Object) = false
is_array (Some ArrayShape) = true
is_array (Some StringShape) = false
is_array (Some Atom) = false

-- the pointer is at a place in an array
abbrev pub in_array : Json → Pointer → Bool
in_array i [] = false
in_array i (t ∷ P) = is_array (option_map shape_of (tree_at (front_of t P) i))

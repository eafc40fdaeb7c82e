-- The text that operations work on.
use Rattle.std.specs.Prelude.{◌≡◌, ℕ, List, MatchOption, None, Option, String, ⊤}
use Rattle.std.specs.String.{string_bytes}
use Rattle.std.specs.declared.alloc.Global.{Global}
use Rattle.json.specs.Json.{Json}
use Rattle.json_lexemes.specs.Spelled.{IsShallowText}
use Rattle.json_patch_text.specs.declared.draft.Draft.{Draft}
use Rattle.json_patch_text.specs.declared.draft.Draft.TheVariants.{Whole, Pieces}
use Rattle.json_patch_text.specs.declared.draft.WholeText.{WholeText}
use Rattle.json_patch_text.specs.declared.draft.WholeText.TheVariants.{Kept, Made}
use Rattle.json_pieces.specs.Whole.{ArePieces, IsTaken, KeepsBack, taken_text, text_of}
use Rattle.json_pieces.specs.declared.taken.Taken.{Taken}
use Rattle.json_text.specs.Checked.{text_in}
use Rattle.json_text.specs.Pointed.{tree_at, IsWrittenAt}
use Rattle.jsonptr.specs.Text.{Pointer}

abbrev pub whole_text : WholeText → List ℕ
whole_text (Kept text) = text_in text
whole_text (Made text) = string_bytes text

abbrev pub draft_text : Draft → List ℕ
draft_text (Whole text) = whole_text text
draft_text (Pieces pieces) = text_of pieces

abbrev pub IsDraft : Draft → Type 0
IsDraft (Whole text) = ⊤
IsDraft (Pieces pieces) = ArePieces pieces

abbrev pub IsInPieces : Draft → Type 0
IsInPieces (Whole text) = ⊥
IsInPieces (Pieces pieces) = ⊤

-- a text in pieces stays one, and what it leads back to it still does
abbrev pub KeepsDraft : Draft → Draft → Type 0
KeepsDraft (Whole a) (Whole b) = ⊤
KeepsDraft (Whole a) (Pieces q) = ⊥
KeepsDraft (Pieces p) (Whole b) = ⊥
KeepsDraft (Pieces p) (Pieces q) = KeepsBack p q

-- found is the text of the value where P leads, as it is written, if any stands there
abbrev pub IsCopyOf : List ℕ → Pointer → Option (String Global) → Type 0
IsCopyOf text P found = (j : Json) × IsShallowText text j × MatchOption found (tree_at P j ≡ None) (λ s. IsWrittenAt text j P (string_bytes s))

-- it is the value where P leads in the text, as it is written there
abbrev pub IsTakenOut : List ℕ → Pointer → Taken → Type 0
IsTakenOut text P taken = IsTaken taken × ((j : Json) × IsShallowText text j × IsWrittenAt text j P (taken_text taken))

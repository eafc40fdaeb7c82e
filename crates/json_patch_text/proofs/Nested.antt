-- What a step tells of how deep a text nests.
use Rattle.std.proofs.Common.{◌≡◌, ◌≤◌, ◌<◌, ◌+◌, ◌⊎◌, inl, inr, ℕ, Bool, false, List, length, max, Option, Some, None, sym, ◌∙◌, arith}
use Rattle.json.specs.Json.{Json}
use Rattle.json_lexemes.specs.Skipped.{nesting}
use Rattle.json_lexemes.specs.Spelled.{IsShallowText}
use Rattle.json_text.specs.Added.{IsAdded}
use Rattle.json_text.specs.Pointed.{IsWrittenAt}
use Rattle.std.specs.Prelude.{◌↔◌, IfSome, IsTrue}
use Rattle.std.proofs.lemmas.Bool.{cases_lt, false≢true}
use Rattle.jsonptr.specs.Text.{Pointer}
use Rattle.json_patch_text.specs.Made.{IsNested}
use Rattle.json_text.specs.Removed.{IsRemoved}
use Rattle.json_text.proofs.Deeper.{added_nests, removed_nests, written_inside}

-- a value that doesn't reach deeper
pub reaches_within : (b : Bool) (levels n : ℕ) → IsTrue b ↔ (levels < n) → b ≡ false → n ≤ levels
reaches_within b levels n h e = by (cases_lt levels n)
  where
    by : (levels < n) ⊎ (n ≤ levels) → n ≤ levels
    by (inl l) = absurd (false≢true (sym e ∙ h.1 l))
    by (inr l) = l

-- where something is gone
pub removed_nested : (levels : ℕ) (text new : List ℕ) (P : Pointer) → IsRemoved text P new → IsNested levels text new (Some levels)
removed_nested levels text new P gone = λ under. let lower = removed_nests text new P gone in omega arith

-- where n levels are put into a text
pub nested_with : (o : Option ℕ) (levels n : ℕ) (text new : List ℕ) → IfSome o (λ most. (levels ≤ most) × (n ≤ most)) → nesting new ≤ max (nesting text) n → IsNested levels text new o
nested_with None levels n text new h e = tt
nested_with (Some most) levels n text new (low, reaches) e = λ under. omega arith

-- what was taken out, and put in elsewhere
pub moved_nested : (o : Option ℕ) (levels : ℕ) (text s less new : List ℕ) (F P : Pointer) → (j : Json) × IsShallowText text j × IsWrittenAt text j F s → IsRemoved text F less → IsAdded less P s new
    → IfSome o (λ most. (levels ≤ most) × (levels + length P ≤ most + length F)) → IsNested levels text new o
moved_nested None levels text s less new F P known gone put h = tt
moved_nested (Some most) levels text s less new F P (j, shallow, written) gone put (low, reaches) = λ under.
    let inside = written_inside text s j F shallow.0 written in
    let lower = removed_nests text less F gone in
    let higher = added_nests less s new P put in
    omega arith

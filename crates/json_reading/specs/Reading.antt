-- A text says what its numbers are, and documents have whole ones alone: what is read where a number isn't whole.
use Rattle.std.specs.Prelude.{◌≡◌, List, ℕ, Some}
use Rattle.serde_json.specs.Data.{Num}
use Rattle.serde_json.specs.Read.{number_of}
use Rattle.json_number.specs.Numbers.{SameNumber}
use Rattle.json_patch_document.specs.Document.{IsWhole}

-- a whole number of 64 bits for the text of each number (RFC 8259, section 6): its own where it spells one, and one and the
-- same for two texts of numbers that are equal (RFC 6902, section 4.6)
pub record Reading : Type 0 where
  pub of : List ℕ → Num
  pub whole : (s : List ℕ) → IsWhole (of s)
  pub honest : (s : List ℕ) (n : Num) → number_of s ≡ Some n → IsWhole n → of s ≡ n
  pub alike : (s t : List ℕ) → SameNumber s t → of s ≡ of t

-- The index that a text names in an array (RFC 6901, section 4).
use Rattle.std.specs.Prelude.{◌≡◌, ℕ, List, [], ◌<◌, ◌≤◌, ◌^◌, ◌⊎◌, ◌≢◌, length, slice_index, Some}
use Rattle.std.specs.Int.{IsInRange}
use Rattle.jsonptr.specs.declared.index.Index.{Index}
use Rattle.jsonptr.specs.declared.index.Index.TheVariants.{Num, Next}
use Rattle.jsonptr.specs.declared.index.OutOfBoundsError.{OutOfBoundsError}
use Rattle.jsonptr.specs.declared.index.ParseIndexError.{ParseIndexError}
use Rattle.jsonptr.specs.declared.index.ParseIndexError.TheVariants.{LeadingZeros, InvalidCharacter, InvalidInteger}
use Rattle.jsonptr.specs.Places.{place_of, next_token}

-- t names i: an index below 2^64, or by `-` the one after the last element
abbrev pub IsIndexText : List ℕ → Index → Type 0
IsIndexText t (Num n) = (place_of t ≡ Some n) × (n < 2 ^ 64)
IsIndexText t Next = t ≡ next_token

-- t names no index: it is not `-`, and names none below 2^64
pub record IsNoIndexText (t : List ℕ) : Type 0 where
  pub other : t ≢ next_token
  pub past : (i : ℕ) → place_of t ≡ Some i → 2 ^ 64 ≤ i

-- ---- why a text names no index

-- t has two bytes or more and begins with 0
abbrev pub HasLeadingZero : List ℕ → Type 0
HasLeadingZero t = (2 ≤ length t) × (slice_index t 0 ≡ 48)

-- at byte i the first character stands that is not one of 0 to 9
abbrev pub IsFirstNonDigit : List ℕ → ℕ → Type 0
IsFirstNonDigit t i = (i < length t) × ¬ (IsInRange 48 57 (slice_index t i))
    × ((k : ℕ) → k < i → IsInRange 48 57 (slice_index t k))

-- t is empty, or names an index of 2^64 or more
abbrev pub IsNoInteger : List ℕ → Type 0
IsNoInteger t = (t ≡ []) ⊎ ((i : ℕ) × (place_of t ≡ Some i) × (2 ^ 64 ≤ i))

-- e is why t names no index, the first that applies
abbrev pub IsIndexFault : List ℕ → ParseIndexError → Type 0
IsIndexFault t LeadingZeros = HasLeadingZero t
IsIndexFault t (InvalidCharacter i) = (t ≢ next_token) × ¬ HasLeadingZero t × IsFirstNonDigit t i
IsIndexFault t InvalidInteger = IsNoInteger t

-- ---- an index in an array of len elements

-- the number of an index there: for `-` it is the length
abbrev pub place_in : Index → ℕ → ℕ
place_in (Num n) len = n
place_in Next len = len

-- e tells the index and the array's length
abbrev pub IsOutOfBounds : Index → ℕ → OutOfBoundsError → Type 0
IsOutOfBounds i len e = (e.length ≡ len) × (e.index ≡ place_in i len)

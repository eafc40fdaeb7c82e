-- Why a text is not that of a pointer (RFC 6901, section 3).
use Rattle.std.specs.Prelude.{◌≡◌, ℕ, List, ◌+◌, ◌<◌, ◌≢◌, length, slice_index}
use Rattle.jsonptr.specs.declared.error.ParseError.{ParseError}
use Rattle.jsonptr.specs.declared.error.ParseError.TheVariants.{NoLeadingSlash, InvalidEncoding}
use Rattle.jsonptr.specs.declared.error.PointerFault.{PointerFault}
use Rattle.jsonptr.specs.declared.error.PointerFault.TheVariants.{Parse, Memory}

-- at byte i a ~ stands that neither 0 nor 1 follows
abbrev pub IsBareTilde : List ℕ → ℕ → Type 0
IsBareTilde t i = (i < length t) × (slice_index t i ≡ 126)
    × (slice_index t (i + 1) ≢ 48) × (slice_index t (i + 1) ≢ 49)

-- the text is empty, or begins with /
abbrev pub BeginsWell : List ℕ → Type 0
BeginsWell t = 0 < length t → slice_index t 0 ≡ 47

-- e is why t is not the text of a pointer: no / at its front, or else the first bare ~
abbrev pub IsFault : List ℕ → ParseError → Type 0
IsFault t NoLeadingSlash = (0 < length t) × (slice_index t 0 ≢ 47)
IsFault t (InvalidEncoding i) =
    BeginsWell t × IsBareTilde t i × ((k : ℕ) → k < i → ¬ IsBareTilde t k)

-- ---- the two faults of a pointer that owns its text

-- P holds of the fault of the text, if it is one
abbrev pub IfParse : PointerFault → (ParseError → Type 0) → Type 0
IfParse (Parse e) P = P e
IfParse (Memory m) P = Unit {0}

-- P holds where the text is at fault
abbrev pub OnParse : PointerFault → Type 0 → Type 0
OnParse (Parse e) P = P
OnParse (Memory m) P = Unit {0}

-- P holds where no memory was found
abbrev pub OnMemory : PointerFault → Type 0 → Type 0
OnMemory (Parse e) P = Unit {0}
OnMemory (Memory m) P = P

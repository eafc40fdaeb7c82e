-- The way back from a text to its tokens, byte by byte. Only the types' own invariants and private
-- contracts rest on these words; a public contract speaks of a text by `text_of` and `encoded`.
use Rattle.std.specs.Prelude.{◌≡◌, ℕ, List, [], ◌∷◌, ◌==◌, if◌then◌else◌, ◌⊎◌}
use Rattle.jsonptr.specs.Text.{decoded, decoded_byte, encoded, text_of}

-- x in front of a text that was scanned to s: up to its first / the text decodes to s.0, and from
-- there on it has the tokens s.1
abbrev pub scan : ℕ → List ℕ × List (List ℕ) → List ℕ × List (List ℕ)
scan x s = if x == 47 then ([], s.0 ∷ s.1) else (decoded_byte x s.0, s.1)

-- what a text up to its first / decodes to, and the tokens from there on
abbrev pub scanned : List ℕ → List ℕ × List (List ℕ)
scanned [] = ([], [])
scanned (x ∷ t) = scan x (scanned t)

-- the tokens of a pointer's text
abbrev pub tokens_of_text : List ℕ → List (List ℕ)
tokens_of_text t = (scanned t).1

-- the text is that of its own tokens, and so a pointer's
abbrev pub IsOfItsTokens : List ℕ → Type 0
IsOfItsTokens t = text_of (tokens_of_text t) ≡ t

-- the text is that of its own token, and so an encoded token
abbrev pub IsEncoded : List ℕ → Type 0
IsEncoded e = encoded (decoded e) ≡ e

-- ---- the parts of a pointer's text

-- the text is empty or begins with /
abbrev pub Starts : List ℕ → Type 0
Starts [] = Unit {0}
Starts (x ∷ t) = x ≡ 47

-- no / stands in the text
abbrev pub NoSlash : List ℕ → Type 0
NoSlash [] = Unit {0}
NoSlash (x ∷ t) = (x ≡ 47 → ⊥) × NoSlash t

-- the text begins with 0 or 1
abbrev pub StartsEscape : List ℕ → Type 0
StartsEscape [] = ⊥
StartsEscape (y ∷ t) = (y ≡ 48) ⊎ (y ≡ 49)

-- after each ~ stands a 0 or a 1
abbrev pub Escaped : List ℕ → Type 0
Escaped [] = Unit {0}
Escaped (x ∷ t) = (x ≡ 126 → StartsEscape t) × Escaped t

-- ---- the tokens of two pointers

-- P and Q begin with the same token, and A and B are what follows
abbrev pub BeginSame : List (List ℕ) → List (List ℕ) → List (List ℕ) → List (List ℕ) → Type 0
BeginSame P Q A B = (t : List ℕ) × (P ≡ t ∷ A) × (Q ≡ t ∷ B)

-- they don't begin with the same token
abbrev pub AreApart : List (List ℕ) → List (List ℕ) → Type 0
AreApart P Q = (A B : List (List ℕ)) → ¬ BeginSame P Q A B

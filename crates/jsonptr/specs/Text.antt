-- Pointers and their texts (RFC 6901, section 3). A text is a list of bytes in UTF-8: 47 is the
-- slash, 126 the tilde, 48 and 49 are `0` and `1`. No byte of a longer character is one of these.
use Rattle.std.specs.Prelude.{◌≡◌, ◌≢◌, ℕ, List, [], ◌∷◌, ◌++◌, ◌==◌, if◌then◌else◌}

-- a pointer: its tokens, each the text that it stands for
abbrev pub Pointer : Type 0
Pointer = List (List ℕ)

-- a byte of a token as it stands in a pointer's text: ~ is written ~0, and / is written ~1
abbrev pub encoded_byte : ℕ → List ℕ
encoded_byte x = if x == 126 then 126 ∷ 48 ∷ [] else (if x == 47 then 126 ∷ 49 ∷ [] else x ∷ [])

-- a token as it stands in a pointer's text
abbrev pub encoded : List ℕ → List ℕ
encoded [] = []
encoded (x ∷ t) = encoded_byte x ++ encoded t

-- the way back (section 4): what is left of a token after a ~, with its first byte read as an escape
abbrev pub after_tilde : List ℕ → List ℕ
after_tilde [] = 126 ∷ []
after_tilde (y ∷ t) = if y == 49 then 47 ∷ t else (if y == 48 then 126 ∷ t else 126 ∷ y ∷ t)

-- a byte of an encoded token, before what the rest of it decodes to
abbrev pub decoded_byte : ℕ → List ℕ → List ℕ
decoded_byte x t = if x == 126 then after_tilde t else x ∷ t

-- the token that an encoded token stands for: ~1 is read as /, and ~0 as ~
abbrev pub decoded : List ℕ → List ℕ
decoded [] = []
decoded (x ∷ t) = decoded_byte x (decoded t)

-- the text of a pointer: for each token / and the encoded token
abbrev pub text_of : List (List ℕ) → List ℕ
text_of [] = []
text_of (t ∷ P) = 47 ∷ (encoded t ++ text_of P)

-- t is the text of a pointer
abbrev pub IsPointerText : List ℕ → Type 0
IsPointerText t = (P : Pointer) × (text_of P ≡ t)

-- t is the text of no pointer
abbrev pub IsNoPointerText : List ℕ → Type 0
IsNoPointerText t = (P : Pointer) → text_of P ≢ t

-- the tokens of P begin those of Q
abbrev pub IsPrefix : Pointer → Pointer → Type 0
IsPrefix P Q = (R : Pointer) × (Q ≡ P ++ R)

-- the tokens of P begin those of Q, and at least one follows
abbrev pub IsProperPrefix : Pointer → Pointer → Type 0
IsProperPrefix P Q = (t : List ℕ) × (R : Pointer) × (Q ≡ P ++ t ∷ R)

-- S is the longest pointer whose tokens begin both those of P and those of Q
abbrev pub IsLongestShared : Pointer → Pointer → Pointer → Type 0
IsLongestShared P Q S =
    IsPrefix S P × IsPrefix S Q × ((R : Pointer) → IsPrefix R P → IsPrefix R Q → IsPrefix R S)

-- Q is P with t in place of its last token
abbrev pub ReplacesLast : Pointer → List ℕ → Pointer → Type 0
ReplacesLast P t Q =
    (front : Pointer) (last : List ℕ) → P ≡ front ++ last ∷ [] → Q ≡ front ++ t ∷ []

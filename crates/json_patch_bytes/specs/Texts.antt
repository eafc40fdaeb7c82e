-- What a pointer's text that comes from C says.
use Rattle.std.specs.Prelude.{◌≡◌, ℕ, List, IsUtf8}
use Rattle.jsonptr.specs.Text.{Pointer, text_of, IsNoPointerText}

-- the bytes are UTF-8, and the text of the pointer P (RFC 6901)
abbrev pub IsTextOfPointer : List ℕ → Pointer → Type 0
IsTextOfPointer text P = IsUtf8 text × (text_of P ≡ text)

-- the bytes are no pointer's text
abbrev pub IsNoPointer : List ℕ → Type 0
IsNoPointer text = IsUtf8 text → IsNoPointerText text

-- The text of a pointer that owns it, for the model of that type.
use Rattle.std.specs.Prelude.{ℕ, List, [], Option, Some, None, String, string_bytes}
use Rattle.std.specs.declared.alloc.Global.{Global}

-- the root holds no string, and its text is empty
abbrev pub owned_text : Option (String Global) → List ℕ
owned_text None = []
owned_text (Some s) = string_bytes s

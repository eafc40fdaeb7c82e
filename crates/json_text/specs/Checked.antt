-- A text that was checked.
use Rattle.std.specs.Prelude.{ℕ, List}
use Rattle.json_text.specs.declared.checked.CheckedText.{CheckedText}

-- the text that it is
abbrev pub text_in : CheckedText → List ℕ
text_in c = c.text.now

use Rattle.json_patch_operation.proofs.Common.{◌≡◌, ℕ, List, ◌++◌, chars, flat_map, IsUtf8, character_text, HasWritten}
use Rattle.json_patch_operation.proofs.Common.{IsPlainFormatter, chars_rest}
use Rattle.json_patch_operation.proofs.printing.write_text.Given as goal

-- what is written, and the characters that are left, are the whole string
abbrev pub invariant-loop-character : goal.invariant-loop-character
invariant-loop-character g l =
    IsUtf8 (chars_rest l.character-iterator)
    × (IsPlainFormatter l.initial.f → (done : List ℕ) × HasWritten g.W.Write.write_str_gives l.initial.f done l.f
    × (done ++ flat_map character_text (chars (chars_rest l.character-iterator)) ≡ flat_map character_text (chars l.text)))

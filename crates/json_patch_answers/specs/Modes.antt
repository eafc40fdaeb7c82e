-- The words of the command line.
use Rattle.std.specs.Prelude.{◌≡◌, ℕ, List, [], ◌∷◌, codes}
use Rattle.json_patch_answers.specs.declared.mode.Mode.{Mode}
use Rattle.json_patch_answers.specs.declared.mode.Mode.TheVariants.{Patch, Record, Merge, Edit}

-- the word that names a mode
abbrev pub word_of : Mode → List ℕ
word_of Patch = codes "patch"
word_of Record = codes "record"
word_of Merge = codes "merge"
word_of Edit = codes "edit"

-- the words, of which the first is the program's name, ask for a mode: by one word, which names it
abbrev pub AsksFor : List (List ℕ) → Mode → Type 0
AsksFor (program ∷ word ∷ []) mode = word ≡ word_of mode
AsksFor _ mode = ⊥

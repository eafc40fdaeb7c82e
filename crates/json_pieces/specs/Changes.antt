-- What a change leaves of a text, by whether it is made.
use Rattle.std.specs.Prelude.{◌≡◌, ℕ, List, [], Bool, true, false}
use Rattle.json.specs.Json.{Json}
use Rattle.json_lexemes.specs.Spelled.{IsShallowText, Says}
use Rattle.jsonptr.specs.Text.{Pointer}
use Rattle.json_text.specs.Added.{HasNoPlace, IsAdded}
use Rattle.json_text.specs.Pointed.{IsWrittenAt}
use Rattle.json_text.specs.Removed.{HasNothingToRemove, IsRemoved}
use Rattle.json_text.specs.Replaced.{IsReplaced, LeadsNowhere}

abbrev pub Replaces : List ℕ → Pointer → List ℕ → List ℕ → Bool → Type 0
Replaces text P value new true = IsReplaced text P value new
Replaces text P value new false = LeadsNowhere text P × (new ≡ text)

abbrev pub Removes : List ℕ → Pointer → List ℕ → Bool → Type 0
Removes text P new true = IsRemoved text P new
Removes text P new false = HasNothingToRemove text P × (new ≡ text)

abbrev pub Adds : List ℕ → Pointer → List ℕ → List ℕ → Bool → Type 0
Adds text P value new true = IsAdded text P value new
Adds text P value new false = HasNoPlace text P × (new ≡ text)

-- s is the value that the text says, as it is written in it
abbrev pub IsValueIn : List ℕ → List ℕ → Type 0
IsValueIn text s = (w : Json) × IsShallowText text w × IsWrittenAt text w [] s × Says s w

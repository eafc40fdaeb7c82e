-- One member or element less, in a row and in its text.
use Rattle.std.specs.Prelude.{◌≡◌, ℕ, suc, List, Bool, true, false, Some, ⊤}
use Rattle.json.specs.Json.{Json, null, boolean, number, string, array, object}
use Rattle.jsonptr.specs.Places.{place_of}
use Rattle.json_text.specs.Changed.{remove_child, without}
use Rattle.json_text.specs.Removed.{AreCutOut, IsCutOut}
use Rattle.json_text.specs.Rows.{Child, IsInside, last_named, tree_in}
use Rattle.json_lexemes.specs.Spelled.{Says}
use Rattle.json_text.specs.declared.parts.Row.{Row}

-- t names the child of this number, if there is one
abbrev pub IsNumberOf : Bool → List Child → List ℕ → ℕ → Type 0
IsNumberOf true cs t n = last_named t cs ≡ Some n
IsNumberOf false cs t n = place_of t ≡ Some n

-- the text, which says v, has an inside at o
abbrev pub HasInside : List ℕ → Json → Row → Type 0
HasInside text v o = (cs : List Child) × (v ≡ tree_in o.named cs) × IsInside text o.named cs o.start

-- w is v with one of the children less that t names: of an object there may be more
abbrev pub IsLess : List ℕ → Json → Json → Type 0
IsLess t (object ms) (object ns) = without t ns ≡ without t ms
IsLess t (array js) w = w ≡ remove_child t (array js)
IsLess t v w = ⊥

-- new says such a tree, and is the text with a piece cut out
abbrev pub IsLessText : List ℕ → Json → List ℕ → List ℕ → Type 0
IsLessText text v t new = IsCutOut text v t new × (w : Json) × Says new w × IsLess t v w

-- neither an object nor an array
abbrev pub IsLeaf : Json → Type 0
IsLeaf null = ⊤
IsLeaf (boolean b) = ⊤
IsLeaf (number s) = ⊤
IsLeaf (string s) = ⊤
IsLeaf (array js) = ⊥
IsLeaf (object ms) = ⊥

abbrev pub IsObject : Json → Type 0
IsObject null = ⊥
IsObject (boolean b) = ⊥
IsObject (number s) = ⊥
IsObject (string s) = ⊥
IsObject (array js) = ⊥
IsObject (object ms) = ⊤

-- new is the text with pieces cut out for all that t names
abbrev pub IsWithout : List ℕ → Json → List ℕ → List ℕ → Type 0
IsWithout text v t new = ((n : ℕ) × AreCutOut (suc n) text v t new) × Says new (remove_child t v)

-- new is the text with some cut out for t
abbrev pub AreLess : List ℕ → Json → List ℕ → List ℕ → Type 0
AreLess text v t new = ((n : ℕ) × AreCutOut (suc n) text v t new) × (w : Json) × Says new w × IsLess t v w

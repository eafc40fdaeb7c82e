-- Where a pointer leads in a document (RFC 6901, section 4), and where it would put a value (RFC 6902, section 4.1).
use Rattle.std.specs.Prelude.{◌≡◌, ◌≤◌, ◌⊎◌, ℕ, List, [], ◌∷◌, ◌++◌, Some}
use Rattle.serde_json.specs.Data.{Data, array, object}
use Rattle.serde_json.specs.Events.{items_len}
use Rattle.jsonptr.specs.Text.{Pointer}
use Rattle.jsonptr.specs.Places.{place_of, next_token}
use Rattle.json_patch_document.specs.Document.{Segment, key, place, child}

-- a token names this step into a document: a member by its name, or an element by its index
abbrev pub Names : Data → List ℕ → Segment → Type 0
Names (object ms) t (key k) = t ≡ k
Names (array ds) t (place i) = place_of t ≡ Some i
Names d t s = ⊥

-- the pointer resolves in d, to the location L, where e stands
abbrev pub Resolves : Data → Pointer → List Segment → Data → Type 0
Resolves d [] [] e = d ≡ e
Resolves d (t ∷ P) (s ∷ L) e = (c : Data) × Names d t s × (child s d ≡ Some c) × Resolves c P L e
Resolves d P L e = ⊥

-- a token names this step as one at which a value may be put: a member's name, the index of an element, or
-- the one after the last
abbrev pub Aims : Data → List ℕ → Segment → Type 0
Aims (object ms) t (key k) = t ≡ k
Aims (array ds) t (place i) = ((place_of t ≡ Some i) × (i ≤ items_len ds)) ⊎ ((t ≡ next_token) × (i ≡ items_len ds))
Aims d t s = ⊥

-- where the pointer would put a value: at the step s from the location L, where its parent p stands
pub record HasTarget (d : Data) (P : Pointer) (L : List Segment) (s : Segment) : Type 0 where
  pub front : Pointer
  pub last : List ℕ
  pub whole : P ≡ front ++ last ∷ []
  pub parent : Data
  pub resolves : Resolves d front L parent
  pub aims : Aims parent last s

-- v stands in d where P leads
abbrev pub StandsAt : Data → Pointer → Data → Type 0
StandsAt d P v = (L : List Segment) × Resolves d P L v

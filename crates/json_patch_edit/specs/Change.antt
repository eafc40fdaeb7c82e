-- What add, remove and replace leave (RFC 6902, sections 4.1 to 4.3), by what is seen at every location afterwards.
use Rattle.std.specs.Prelude.{◌≡◌, ◌≤◌, ℕ, List, [], ◌∷◌, ◌++◌, suc}
use Rattle.serde_json.specs.Data.{Data}
use Rattle.jsonptr.specs.Text.{Pointer}
use Rattle.json_patch_document.specs.Document.{IsDocument, Segment, key, place, look}
use Rattle.json_patch_document.specs.Sight.{Sight}
use Rattle.json_patch_document.specs.Resolve.{Resolves, HasTarget}

-- X is not at or under the member or the element at the step s from L, nor at or under a later element
abbrev pub IsBeside : List Segment → Segment → List Segment → Type 0
IsBeside L (key k) X = (R : List Segment) → X ≡ L ++ key k ∷ R → ⊥
IsBeside L (place i) X = (j : ℕ) (R : List Segment) → i ≤ j → X ≡ L ++ place j ∷ R → ⊥

-- the elements of d from the index i on stand one place later in e
abbrev pub ShiftsUp : Data → Data → List Segment → Segment → Type 0
ShiftsUp d e L (key k) = Unit {0}
ShiftsUp d e L (place i) = (j : ℕ) (R : List Segment) → i ≤ j → look e (L ++ place (suc j) ∷ R) ≡ look d (L ++ place j ∷ R)

-- the member is gone, or the elements of d after the index i stand one place earlier in e
abbrev pub ShiftsDown : Data → Data → List Segment → Segment → Type 0
ShiftsDown d e L (key k) = (R : List Segment) → look e (L ++ key k ∷ R) ≡ Sight.nothing
ShiftsDown d e L (place i) = (j : ℕ) (R : List Segment) → i ≤ j → look e (L ++ place j ∷ R) ≡ look d (L ++ place (suc j) ∷ R)

-- v stands at the step s from L, later elements moved up by one, and all else looks as in d
pub record PutsAt (d e v : Data) (L : List Segment) (s : Segment) : Type 0 where
  pub here : (R : List Segment) → look e (L ++ s ∷ R) ≡ look v R
  pub later : ShiftsUp d e L s
  pub elsewhere : (X : List Segment) → IsBeside L s X → look e X ≡ look d X

-- what stood at the step s from L is gone, and all else looks as in d: `later` says that the member is gone,
-- or that later elements moved down by one
pub record TakesAt (d e : Data) (L : List Segment) (s : Segment) : Type 0 where
  pub later : ShiftsDown d e L s
  pub elsewhere : (X : List Segment) → IsBeside L s X → look e X ≡ look d X

-- v stands at L, and all that is not at or under L looks as in d
pub record SetsAt (d e v : Data) (L : List Segment) : Type 0 where
  pub here : (R : List Segment) → look e (L ++ R) ≡ look v R
  pub elsewhere : (X : List Segment) → ((R : List Segment) → X ≡ L ++ R → ⊥) → look e X ≡ look d X

-- e is d with v added at P
abbrev pub IsAdded : Data → Pointer → Data → Data → Type 0
IsAdded d [] v e = e ≡ v
IsAdded d (t ∷ P) v e = (L : List Segment) × (s : Segment) × HasTarget d (t ∷ P) L s × IsDocument e × PutsAt d e v L s

-- e is d with what stands at P removed, and P is not the root
abbrev pub IsRemoved : Data → Pointer → Data → Type 0
IsRemoved d P e = (L : List Segment) × (s : Segment) × (c : Data) × Resolves d P (L ++ s ∷ []) c × IsDocument e × TakesAt d e L s

-- e is d with v in place of what stands at P
abbrev pub IsReplaced : Data → Pointer → Data → Data → Type 0
IsReplaced d P v e = (L : List Segment) × (c : Data) × Resolves d P L c × IsDocument e × SetsAt d e v L

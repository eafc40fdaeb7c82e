-- For private clauses: what a change finds, what it makes, and how far the members of an object are merged.
use Rattle.std.specs.Prelude.{◌≡◌, ℕ, List, [], ◌∷◌, ◌++◌, Option, Some}
use Rattle.json.specs.Find.{get_member}
use Rattle.json.specs.Json.{Json, object, Members}
use Rattle.jsonptr.specs.Text.{Pointer}
use Rattle.json_merge_text.specs.Changes.{AreMade, IsMade, TextChange}
use Rattle.json_merge_text.specs.Merging.{IsWrittenIn, MergesObject}
use Rattle.json_text.specs.Pointed.{tree_at}
use Rattle.json_lexemes.specs.Spelled.{IsShallowText}

-- ---- what stands in a text

-- in what the text says v stands at P
abbrev pub StandsAt : List ℕ → Pointer → Json → Type 0
StandsAt text P v = (j : Json) × IsShallowText text j × (tree_at P j ≡ Some v)

-- P leads to a member of an object there, and was is what stands at it, if anything does
abbrev pub MayStandAt : List ℕ → Pointer → Option Json → Type 0
MayStandAt text P was = (j : Json) × (F : Pointer) × (k : List ℕ) × (ms : Members) × IsShallowText text j × (P ≡ F ++ k ∷ []) × (tree_at F j ≡ Some (object ms)) × (get_member k ms ≡ was)

-- at the names of ps both have the same
abbrev pub Agrees : Members → Members → Members → Type 0
Agrees ps is ms = (k : List ℕ) (q : Json) → get_member k ps ≡ Some q → get_member k ms ≡ get_member k is

-- an object stands at P there, which at the names of ps has what is has
abbrev pub AgreesAt : List ℕ → Pointer → Members → Members → Type 0
AgreesAt text P ps is = (j : Json) × (ms : Members) × IsShallowText text j × (tree_at P j ≡ Some (object ms)) × Agrees ps is ms

-- ---- changes

-- new is the text with what the patch has at P put in by a change
abbrev pub IsPutIn : List ℕ → Pointer → (List ℕ → TextChange) → List ℕ → List ℕ → Type 0
IsPutIn patch P change text new = (s : List ℕ) × IsWrittenIn patch P s × IsMade text (change s) new

-- changes have made now of the text, and with any that are as Ahead says they are as All says
abbrev pub IsMadeUpTo : List ℕ → List ℕ → (List TextChange → Type 0) → (List TextChange → Type 0) → Type 0
IsMadeUpTo text now All Ahead = (done : List TextChange) × AreMade text done now × ((rest : List TextChange) → Ahead rest → All (done ++ rest))

-- the members all of the patch's object at P are merged into the object is there but for those of ps, which are ahead
pub record IsUpTo (patch : List ℕ) (P : Pointer) (is all ps : Members) (text now : List ℕ) : Type 0 where
  pub agrees : AgreesAt now P ps is
  pub made : IsMadeUpTo text now (MergesObject patch P is all) (MergesObject patch P is ps)

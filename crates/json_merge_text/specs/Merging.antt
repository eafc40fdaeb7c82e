-- The changes by which a merge patch is merged into a text, each at its place (RFC 7396, section 2).
use Rattle.std.specs.Prelude.{◌≡◌, ◌⊎◌, ℕ, List, [], ◌∷◌, ◌++◌, Option, MatchOption}
use Rattle.json.specs.Find.{as_object, get_member}
use Rattle.json.specs.Json.{Json, null, object, Members, no_members, member}
use Rattle.jsonptr.specs.Text.{Pointer}
use Rattle.json_merge_text.specs.Changes.{AreMade, TextChange, add, remove, replace}
use Rattle.json_reading.specs.Same.{SameTree}
use Rattle.json_text.specs.Pointed.{IsWrittenAt}
use Rattle.json_lexemes.specs.Spelled.{Says}

-- s is what the patch's text has at P, as it is written there
abbrev pub IsWrittenIn : List ℕ → Pointer → List ℕ → Type 0
IsWrittenIn patch P s = (p : Json) × Says patch p × IsWrittenAt patch p P s

-- first what the patch has at P is put in, as it is written there; then comes what Rest says
abbrev pub PutsIn : List ℕ → Pointer → (List ℕ → TextChange) → (List TextChange → Type 0) → List TextChange → Type 0
PutsIn patch P change Rest cs = (s : List ℕ) × (rest : List TextChange) × IsWrittenIn patch P s × Rest rest × (cs ≡ change s ∷ rest)

-- what First says, and then what Rest says
abbrev pub InTurn : (List TextChange → Type 0) → (List TextChange → Type 0) → List TextChange → Type 0
InTurn First Rest cs = (first : List TextChange) × (rest : List TextChange) × First first × Rest rest × (cs ≡ first ++ rest)

-- Into i is to merge the patch's q at P into i. A q that is null removes what stands there; any other is merged into that, or added
-- where nothing stands, and then merged into itself
abbrev pub MergesMember : List ℕ → Pointer → Option Json → Json → (Json → List TextChange → Type 0) → List TextChange → Type 0
MergesMember patch P was null Into cs = MatchOption was (cs ≡ []) (λ i. cs ≡ remove P ∷ [])
MergesMember patch P was q Into cs = MatchOption was (PutsIn patch P (add P) (Into q) cs) (λ i. Into i cs)

abbrev mutual
  -- the changes cs merge the patch's p at P into i, which stands at P in the text
  pub MergesInto : List ℕ → Pointer → Json → Json → List TextChange → Type 0
  -- an object into an object, member by member; in place of anything else it is put in, and then merged into itself: its null members go
  MergesInto patch P i (object ps) cs = MatchOption (as_object i) (PutsIn patch P (replace P) (MergesObject patch P ps ps) cs) (λ is. MergesObject patch P is ps cs)
  -- what is no object is put in, unless the same stands there
  MergesInto patch P i p cs = (SameTree i p × (cs ≡ [])) ⊎ ((SameTree i p → ⊥) × PutsIn patch P (replace P) (λ rest. rest ≡ []) cs)

  -- the members of an object, in their order; of several of one name the last alone
  pub MergesObject : List ℕ → Pointer → Members → Members → List TextChange → Type 0
  MergesObject patch P is no_members cs = cs ≡ []
  MergesObject patch P is (member k q ps) cs = let Q = P ++ k ∷ [] in
      MatchOption (get_member k ps) (InTurn (MergesMember patch Q (get_member k is) q (λ i. MergesInto patch Q i q)) (MergesObject patch P is ps) cs) (λ later. MergesObject patch P is ps cs)

-- new is the text with some changes that are as Are says
abbrev pub IsChanged : List ℕ → List ℕ → (List TextChange → Type 0) → Type 0
IsChanged text new Are = (cs : List TextChange) × Are cs × AreMade text cs new

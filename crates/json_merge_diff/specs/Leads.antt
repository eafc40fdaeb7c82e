-- Merge patches that lead from one document to another, and one that does what two in turn do.
use Rattle.std.specs.Prelude.{◌≡◌, ◌≢◌, ℕ, List, [], ◌∷◌}
use Rattle.serde_json.specs.Data.{Data}
use Rattle.json_patch_document.specs.Document.{Segment, key, IsDocument, look}
use Rattle.json_patch_document.specs.Sight.{Sight}
use Rattle.json_patch_merge.specs.Merged.{IsMerged}

-- the location to which these names lead
abbrev pub under : List (List ℕ) → List Segment
under [] = []
under (k ∷ ks) = key k ∷ under ks

-- what is seen in p is seen in q at the same location
abbrev pub IsPartOf : Data → Data → Type 0
IsPartOf p q = (L : List Segment) → look p L ≢ Sight.nothing → look q L ≡ look p L

-- under some names, at least one, e has a null, and d has none there
abbrev pub WantsNull : Data → Data → Type 0
WantsNull d e = (k : List ℕ) × (ks : List (List ℕ)) × (look e (under (k ∷ ks)) ≡ Sight.null) × (look d (under (k ∷ ks)) ≢ Sight.null)

-- r leaves of each document what p and then q leave of it
abbrev pub DoesBoth : Data → Data → Data → Type 0
DoesBoth p q r = (d c e : Data) → IsDocument d → IsDocument c → IsDocument e → IsMerged d p c → IsMerged c q e → IsMerged d r e

-- under some names, or none, q has an object, and p a value that is none
abbrev pub Resets : Data → Data → Type 0
Resets p q = (ks : List (List ℕ)) × (look q (under ks) ≡ Sight.object) × (look p (under ks) ≢ Sight.object) × (look p (under ks) ≢ Sight.nothing)

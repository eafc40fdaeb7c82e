-- The merge patch between two texts, one that does what two do in turn (RFC 7396), and when there is none.
use Rattle.std.specs.Prelude.{◌↔◌, ℕ, List}
use Rattle.json_diff_text.specs.Differences.{SaySame}
use Rattle.json_diff_text.specs.Merges.{IsLedByEmpty, SaysBoth, SaysEmpty, TextResets, TextWantsNull}
use Rattle.json_merge_text.specs.Merged.{SaysMerged}
use Rattle.json_patch.specs.Limits.{Limits}
use Rattle.json_patch_text_bytes.specs.Texts.{IsJsonText}

-- the merge patch leads from what the one text says to what the other says, both of at most so many levels
pub record IsMergeDifference (l : Limits) (from to patch : List ℕ) : Type 0 where
  pub first : IsJsonText l.depth from
  pub second : IsJsonText l.depth to
  pub leads : SaysMerged from patch to
  -- a text that is left by it says the same as the other
  pub gives : (new : List ℕ) → SaysMerged from patch new → SaySame new to
  -- it says {} exactly where that leads there
  pub nothing : SaysEmpty patch ↔ IsLedByEmpty from to
  -- so it can be handed in
  pub again : IsJsonText l.depth patch

-- none does: under objects alone the other has a null where the one has none
pub record HasNoMergeDifference (l : Limits) (from to : List ℕ) : Type 0 where
  pub first : IsJsonText l.depth from
  pub second : IsJsonText l.depth to
  pub impossible : (patch : List ℕ) → ¬ SaysMerged from patch to
  pub wants_null : TextWantsNull from to

-- the merge patch does what two do, the one and then the other, both of at most so many levels
pub record IsJoined (l : Limits) (first then patch : List ℕ) : Type 0 where
  pub earlier : IsJsonText l.depth first
  pub later : IsJsonText l.depth then
  pub both : SaysBoth first then patch
  -- also to texts
  pub in_turn : (text mid new : List ℕ) → SaysMerged text first mid → SaysMerged mid then new → SaysMerged text patch new
  -- so it can be handed in
  pub again : IsJsonText l.depth patch

-- none does: the other has an object where the one has a value that is none
pub record AreNeverJoined (l : Limits) (first then : List ℕ) : Type 0 where
  pub earlier : IsJsonText l.depth first
  pub later : IsJsonText l.depth then
  pub impossible : (patch : List ℕ) → ¬ SaysBoth first then patch
  pub resets : TextResets first then

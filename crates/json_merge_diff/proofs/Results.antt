-- What the least patch, or none, promises.
use Rattle.std.proofs.Common.{◌≡◌, ◌↔◌, Option, Some, None, refl, IfSome}
use Rattle.serde_json.specs.Data.{Data, object, no_members}
use Rattle.serde_json.specs.View.{view}
use Rattle.serde_json.specs.declared.value.Value.{Value}
use Rattle.json_patch_document.specs.Document.{IsDocument}
use Rattle.json_patch_merge.specs.Merged.{IsMerged}
use Rattle.json_patch_merge.specs.MergedComputed.{members_of}
use Rattle.json_merge_diff.specs.Leads.{IsPartOf, WantsNull}
use Rattle.json_merge_diff.specs.Least.{IsLeastOrNone}
use Rattle.json_patch_limits.specs.OverLimits.{size}
use Rattle.json_merge_diff.proofs.Sizes.{part_size}
use Rattle.std.proofs.Common.{◌≤◌}
use Rattle.json_merge_diff.proofs.Leading.{leads, part, none_leads, empty_exactly}

pub is_document : (d e : Data) (o : Option Value) → IsLeastOrNone d e o → IfSome o (λ p. IsDocument (view p))
is_document d e None h = tt
is_document d e (Some p) h = h.1

pub it_leads : (d e : Data) (o : Option Value) → IsLeastOrNone d e o → IfSome o (λ p. IsMerged d (view p) e)
it_leads d e None h = tt
it_leads d e (Some p) h = leads h.0

pub it_is_least : (d e : Data) (o : Option Value) → IsLeastOrNone d e o → IfSome o (λ p. (q : Data) → IsMerged d q e → IsPartOf (view p) q)
it_is_least d e None h = tt
it_is_least d e (Some p) h = part h.0

pub it_is_empty : (d e : Data) (o : Option Value) → IsDocument d → IsDocument e → IsLeastOrNone d e o → IfSome o (λ p. (view p ≡ object no_members) ↔ (e ≡ object (members_of d)))
it_is_empty d e None hd he h = tt
it_is_empty d e (Some p) hd he h = empty_exactly d e (view p) hd he h.0

pub wanted : (d e q : Data) → WantsNull d e → IsMerged d q e → ⊥
wanted d e q w h = none_leads w.0 w.1 h w.2 w.3

pub it_is_impossible : (d e : Data) (o : Option Value) → IsLeastOrNone d e o → o ≡ None → (q : Data) → IsMerged d q e → ⊥
it_is_impossible d e None h is q x = wanted d e q h x
it_is_impossible d e (Some p) h is q x = cc

pub it_wants : (d e : Data) (o : Option Value) → IsLeastOrNone d e o → (o ≡ None) ↔ WantsNull d e
it_wants d e None h = (λ is. h, λ w. refl)
it_wants d e (Some p) h = (λ is. cc, λ w. absurd (wanted d e (view p) w (leads h.0)))

pub it_is_small : (d e : Data) (o : Option Value) → IsLeastOrNone d e o → IfSome o (λ p. (q : Data) → IsDocument q → IsMerged d q e → size (view p) ≤ size q)
it_is_small d e None h = tt
it_is_small d e (Some p) h = λ q hq leads. part_size (view p) q h.1 hq (part h.0 q leads)

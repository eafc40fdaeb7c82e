-- A run that is refused names one error, for the proofs of the crates above.
use Rattle.std.specs.Prelude.{◌≡◌, ℕ, List, [], ◌∷◌, Some, option_map, slice_get}
use Rattle.std.proofs.Common.{zero, suc, inl, inr, refl, sym, ap, ◌∙◌}
use Rattle.serde_json.specs.Data.{Data}
use Rattle.json_patch_operation.specs.Operation.{Operation, path_of}
use Rattle.json_patch.specs.Refusal.{NamesFirst}
use Rattle.json_patch_laws.specs.Run.{Ends, RefusesAt}
use Rattle.json_patch_operation.specs.declared.error.PatchError.{PatchError}
use Rattle.json_patch_operation.specs.declared.error.PatchErrorKind.{PatchErrorKind}

same_error : (ops : List Operation) (x y : PatchError) → x.operation ≡ y.operation → x.kind ≡ y.kind
    → option_map path_of (slice_get ops x.operation) ≡ Some x.path → option_map path_of (slice_get ops y.operation) ≡ Some y.path → x ≡ y
same_error ops x y n k p q =
    let r : Some x.path ≡ Some y.path = sym p ∙ ap (λ i. option_map path_of (slice_get ops i)) n ∙ q in
    let s : x.path ≡ y.path = cc in
    λ i. record { operation = n i; path = s i; kind = k i }

pub one_refusal : (d : Data) (ops : List Operation) (x y : PatchError) → Ends d ops → NamesFirst d ops x → NamesFirst d ops y → x ≡ y
one_refusal d ops x y (inl (m, a)) h k = absurd (a.nowhere x.operation x.kind h.0)
one_refusal d ops x y (inr (n, kind, r)) h k =
    let s : (x.operation ≡ n) × (x.kind ≡ kind) = r.here x.operation x.kind h.0 in
    let t : (y.operation ≡ n) × (y.kind ≡ kind) = r.here y.operation y.kind k.0 in
    same_error ops x y (s.0 ∙ sym t.0) (s.1 ∙ sym t.1) h.1 k.1

-- the operation that is refused has a path
path_at : (d : Data) (ops : List Operation) (k : ℕ) (kind : PatchErrorKind) → RefusesAt d ops k kind
    → (P : List (List ℕ)) × (option_map path_of (slice_get ops k) ≡ Some P)
path_at d [] k kind h = absurd h
path_at d (op ∷ ops) zero kind h = (path_of op, refl)
path_at d (op ∷ ops) (suc k) kind h = path_at h.0 ops k kind h.2

pub refusal_named : (d : Data) (ops : List Operation) (k : ℕ) (kind : PatchErrorKind) → RefusesAt d ops k kind → (e : PatchError) × NamesFirst d ops e
refusal_named d ops k kind h =
    let p : (P : List (List ℕ)) × (option_map path_of (slice_get ops k) ≡ Some P) = path_at d ops k kind h in
    (record { operation = k; path = p.0; kind = kind }, (h, p.1))

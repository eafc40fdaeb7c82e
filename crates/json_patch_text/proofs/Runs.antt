-- A list of operations on a tree: made one by one, ended in one way, and refused for one reason.
use Rattle.std.proofs.Common.{◌≡◌, ◌⊎◌, ◌↔◌, inl, inr, ℕ, zero, suc, List, [], ◌∷◌, take, Option, Some, None, Result, Ok, Err, refl, sym, ap, ◌∙◌, subst}
use Rattle.json.specs.Json.{Json}
use Rattle.jsonptr.specs.Text.{Pointer}
use Rattle.serde_json.specs.Data.{Data}
use Rattle.json_patch_document.proofs.SameDocuments.{AreSame-document}
use Rattle.json_patch_edit.proofs.StepOutcomes.{leaves_stepped, refuses_stepped, stepped_leaves, stepped_refuses}
use Rattle.json_patch_edit.specs.RunComputed.{after_step}
use Rattle.json_patch_edit.specs.Step.{Leaves, Refuses}
use Rattle.json_patch_laws.specs.Run.{Accepts, RefusesAt}
use Rattle.json_patch_operation.specs.Operation.{IsWholeOp}
use Rattle.json_patch_operation.specs.declared.error.PatchErrorKind.{PatchErrorKind}
use Rattle.json_patch_text.specs.Operations.{TreeOperation, add, remove, replace, move, copy, test, under, all_under}
use Rattle.json_patch_text.specs.Run.{AcceptsTree, RefusesTreeAt}
use Rattle.json_patch_text.specs.Step.{ComesTo, Tests}
use Rattle.json_patch_text.proofs.Outcomes.{comes_ok, comes_err, comes_kind, comes}
use Rattle.json_reading.specs.Reading.{Reading}
use Rattle.json_reading.specs.Same.{SameTree}
use Rattle.json_reading.specs.Trees.{data_of}
use Rattle.json_reading.proofs.Documents.{IsDocument-data_of}
use Rattle.json_reading.proofs.Trees.{same_exactly}
use Rattle.json_text.specs.Pointed.{tree_at}

pub whole : (r : Reading) (op : TreeOperation) → IsWholeOp (under r op)
whole r (add P w) = IsDocument-data_of r w
whole r (remove P) = tt
whole r (replace P w) = IsDocument-data_of r w
whole r (move F P) = tt
whole r (copy F P) = tt
whole r (test P w) = IsDocument-data_of r w

-- ---- one operation

pub leaves : (r : Reading) (i : Json) (op : TreeOperation) (j : Json) → ComesTo i op (Ok j) → Leaves (data_of r i) (under r op) (data_of r j)
leaves r i op j h = stepped_leaves (data_of r i) (under r op) (data_of r j) (IsDocument-data_of r i) (whole r op) (comes_ok r i op j h)

refuses : (i : Json) (op : TreeOperation) (kind : PatchErrorKind) → ComesTo i op (Err kind) → (r : Reading) × Refuses (data_of r i) (under r op) kind
refuses i op kind h = let (r, e) = comes_err i op kind h in (r, stepped_refuses (data_of r i) (under r op) kind (IsDocument-data_of r i) (whole r op) e)

left : (r : Reading) (i : Json) (op : TreeOperation) (e : Data) → Leaves (data_of r i) (under r op) e → after_step (data_of r i) (under r op) ≡ Ok e
left r i op e h = leaves_stepped (data_of r i) (under r op) e (IsDocument-data_of r i) (whole r op) h

refused : (r : Reading) (i : Json) (op : TreeOperation) (kind : PatchErrorKind) → Refuses (data_of r i) (under r op) kind → after_step (data_of r i) (under r op) ≡ Err kind
refused r i op kind h = refuses_stepped (data_of r i) (under r op) kind (IsDocument-data_of r i) (whole r op) h

-- what it leaves under a reading is the document of what it comes to
one_left : (r : Reading) (i : Json) (op : TreeOperation) (m : Json) (e : Data) → ComesTo i op (Ok m) → Leaves (data_of r i) (under r op) e → e ≡ data_of r m
one_left r i op m e h l = let a = left r i op e l in let b = comes_ok r i op m h in cc

-- ---- a list, made one by one

pub accepts_next : (i m j : Json) (op : TreeOperation) (ops : List TreeOperation) → ComesTo i op (Ok m) → AcceptsTree m ops j → AcceptsTree i (op ∷ ops) j
accepts_next i m j op ops h a r = (data_of r m, leaves r i op m h, a r)

pub refuses_here : (i : Json) (op : TreeOperation) (ops : List TreeOperation) (kind : PatchErrorKind) → ComesTo i op (Err kind) → RefusesTreeAt i (op ∷ ops) 0 kind
refuses_here i op ops kind h = ((i, λ r. refl), refuses i op kind h)

pub refuses_next : (i m : Json) (op : TreeOperation) (ops : List TreeOperation) (k : ℕ) (kind : PatchErrorKind) → ComesTo i op (Ok m) → RefusesTreeAt m ops k kind → RefusesTreeAt i (op ∷ ops) (suc k) kind
refuses_next i m op ops k kind h ((n, before), (r, at)) = ((n, λ s. (data_of s m, leaves s i op m h, before s)), (r, (data_of r m, leaves r i op m h, at)))

abbrev EndsTree : Json → List TreeOperation → Type 0
EndsTree i ops = ((j : Json) × AcceptsTree i ops j) ⊎ ((k : ℕ) × (kind : PatchErrorKind) × RefusesTreeAt i ops k kind)

ends_step : (i : Json) (op : TreeOperation) (ops : List TreeOperation) (o : Result Json PatchErrorKind) → ComesTo i op o → ((m : Json) → EndsTree m ops) → EndsTree i (op ∷ ops)
ends_step i op ops (Ok m) h more = by (more m)
  where
    by : EndsTree m ops → EndsTree i (op ∷ ops)
    by (inl (j, a)) = inl (j, accepts_next i m j op ops h a)
    by (inr (k, kind, a)) = inr (suc k, kind, refuses_next i m op ops k kind h a)
ends_step i op ops (Err kind) h more = inr (0, kind, refuses_here i op ops kind h)

pub ends : (i : Json) (ops : List TreeOperation) → EndsTree i ops
ends i [] = inl (i, λ r. refl)
ends i (op ∷ ops) = let (o, h) = comes i op in ends_step i op ops o h (λ m. ends m ops)

-- ---- in one way

-- an operation isn't both accepted and refused
not_both : (r : Reading) (i : Json) (op : TreeOperation) (e : Data) (kind : PatchErrorKind) → Leaves (data_of r i) (under r op) e → Refuses (data_of r i) (under r op) kind → ⊥
not_both r i op e kind l n = let a = left r i op e l in let b = refused r i op kind n in cc

-- what is accepted under each reading comes to a tree
comes_to : (i : Json) (op : TreeOperation) → ((r : Reading) → (e : Data) × Leaves (data_of r i) (under r op) e) → (m : Json) × ComesTo i op (Ok m)
comes_to i op each = by (comes i op)
  where
    by : (o : Result Json PatchErrorKind) × ComesTo i op o → (m : Json) × ComesTo i op (Ok m)
    by (Ok m, h) = (m, h)
    by (Err kind, h) = let (r, n) = refuses i op kind h in let (e, l) = each r in absurd (not_both r i op e kind l n)

-- the rest of what is accepted, from the tree that the first leaves
pub accepts_rest : (i m j : Json) (op : TreeOperation) (ops : List TreeOperation) → ComesTo i op (Ok m) → AcceptsTree i (op ∷ ops) j → AcceptsTree m ops j
accepts_rest i m j op ops h a r = let (e, l, rest) = a r in subst (λ d. Accepts d (all_under r ops) (data_of r j)) (one_left r i op m e h l) rest

refuses_rest : (r : Reading) (i m : Json) (op : TreeOperation) (ops : List TreeOperation) (k : ℕ) (kind : PatchErrorKind) → ComesTo i op (Ok m) → RefusesAt (data_of r i) (all_under r (op ∷ ops)) (suc k) kind
    → RefusesAt (data_of r m) (all_under r ops) k kind
refuses_rest r i m op ops k kind h (e, l, rest) = subst (λ d. RefusesAt d (all_under r ops) k kind) (one_left r i op m e h l) rest

pub first_accepted : (i j : Json) (op : TreeOperation) (ops : List TreeOperation) → AcceptsTree i (op ∷ ops) j → (m : Json) × ComesTo i op (Ok m)
first_accepted i j op ops a = comes_to i op (λ r. let (e, l, rest) = a r in (e, l))

pub not_refused : (i j : Json) (ops : List TreeOperation) (k : ℕ) (kind : PatchErrorKind) (r : Reading) → AcceptsTree i ops j → RefusesAt (data_of r i) (all_under r ops) k kind → ⊥
not_refused i j [] k kind r a n = n
not_refused i j (op ∷ ops) zero kind r a n = let (e, l, rest) = a r in not_both r i op e kind l n
not_refused i j (op ∷ ops) (suc k) kind r a n =
    let (m, h) = first_accepted i j op ops a in
    not_refused m j ops k kind r (accepts_rest i m j op ops h a) (refuses_rest r i m op ops k kind h n)

-- under a reading the operations lead to one document
pub one_document_left : (i j : Json) (ops : List TreeOperation) (r : Reading) (e : Data) → AcceptsTree i ops j → Accepts (data_of r i) (all_under r ops) e → data_of r j ≡ e
one_document_left i j [] r e a h = sym (a r) ∙ h
one_document_left i j (op ∷ ops) r e a (d, l, rest) =
    let (m, h) = first_accepted i j op ops a in
    one_document_left m j ops r e (accepts_rest i m j op ops h a) (subst (λ d. Accepts d (all_under r ops) e) (one_left r i op m d h l) rest)

pub one_end : (i j k : Json) (ops : List TreeOperation) → AcceptsTree i ops j → AcceptsTree i ops k → SameTree j k
one_end i j k ops a b = (same_exactly j k).1 (λ r. (AreSame-document (data_of r j) (data_of r k) (IsDocument-data_of r j)).1 (one_document_left i j ops r (data_of r k) a (b r)))

one_kind : (i : Json) (op : TreeOperation) (r s : Reading) (kind other : PatchErrorKind) → Refuses (data_of r i) (under r op) kind → Refuses (data_of s i) (under s op) other → other ≡ kind
one_kind i op r s kind other n o = by (comes i op)
  where
    by : (c : Result Json PatchErrorKind) × ComesTo i op c → other ≡ kind
    by (Ok m, h) = absurd (not_both r i op (data_of r m) kind (leaves r i op m h) n)
    by (Err k, h) = comes_kind s i op k other h (refused s i op other o) ∙ sym (comes_kind r i op k kind h (refused r i op kind n))

abbrev Same : ℕ → PatchErrorKind → ℕ → PatchErrorKind → Type 0
Same k kind l other = (l ≡ k) × (other ≡ kind)

pub one_refusal : (i : Json) (ops : List TreeOperation) (k l : ℕ) (kind other : PatchErrorKind) → RefusesTreeAt i ops k kind → RefusesTreeAt i ops l other → Same k kind l other
one_refusal i [] k l kind other (a, (r, n)) b = absurd n
one_refusal i (op ∷ ops) zero zero kind other (a, (r, n)) (b, (s, o)) = (refl, one_kind i op r s kind other n o)
one_refusal i (op ∷ ops) zero (suc l) kind other (a, (r, n)) ((m, before), o) = let (e, leave, rest) = before r in absurd (not_both r i op e kind leave n)
one_refusal i (op ∷ ops) (suc k) zero kind other ((m, before), n) (b, (s, o)) = let (e, leave, rest) = before s in absurd (not_both s i op e other leave o)
one_refusal i (op ∷ ops) (suc k) (suc l) kind other ((x, before), (r, n)) ((y, earlier), (s, o)) =
    let (m, h) = first_accepted i x op (take k ops) before in
    let both = one_refusal m ops k l kind other
    ((x, accepts_rest i m x op (take k ops) h before), (r, refuses_rest r i m op ops k kind h n))
    ((y, accepts_rest i m y op (take l ops) h earlier), (s, refuses_rest s i m op ops l other h o)) in
    (ap suc both.0, both.1)

-- ---- a test

test_is : (i w m : Json) (o : Option Json) → Tests i w o (Ok m) → (v : Json) × (o ≡ Some v) × SameTree v w
test_is i w m None h = cc
test_is i w m (Some v) h = (v, refl, h.0)

pub tests : (i w : Json) (P : Pointer) → AcceptsTree i (test P w ∷ []) i ↔ ((v : Json) × (tree_at P i ≡ Some v) × SameTree v w)
tests i w P = (λ a. let (m, h) = first_accepted i i (test P w) [] a in test_is i w m (tree_at P i) h, λ h. let (v, at, s) = h in passes v at s)
  where
    passes : (v : Json) → tree_at P i ≡ Some v → SameTree v w → AcceptsTree i (test P w ∷ []) i
    passes v at s = accepts_next i i i (test P w) [] (subst (λ o. Tests i w o (Ok i)) (sym at) (s, refl)) (λ r. refl)

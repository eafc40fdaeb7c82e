-- A run ends exactly where it is computed to end; joined lists.
use Rattle.json_patch_laws.proofs.Common.{common_steps, ◌≡◌, ◌+◌, inl, inr, ℕ, suc, List, [], ◌∷◌, ◌++◌, length, Result, Ok}
use Rattle.json_patch_laws.proofs.Common.{Err, refl, sym, ap, ◌∙◌, subst, arith, rules, Data, IsDocument, Operation, test}
use Rattle.json_patch_laws.proofs.Common.{IsWholeOp, AreWhole, PatchErrorKind, Accepts, RefusesAt, IsAccepted, IsRefused}
use Rattle.json_patch_laws.proofs.Common.{Ends, AreTests, Outcome, fault, one_later, then_run, after_step, after_run}
use Rattle.json_patch_edit.proofs.StepOutcomes.{leaves_stepped, refuses_stepped, stepped_leaves, stepped_refuses}
use Rattle.json_patch_edit.proofs.StepOutcomes.{leaves_document}

pub accepts_ran : (d : Data) (ops : List Operation) (e : Data) → IsDocument d → AreWhole ops → Accepts d ops e → after_run d ops ≡ Ok e
accepts_ran d [] e hd hv h = ap Ok h
accepts_ran d (op ∷ ops) e hd hv h =
    rw (leaves_stepped d op h.0 hd hv.0 h.1, accepts_ran h.0 ops e (leaves_document d op h.0 hd hv.0 h.1) hv.1 h.2) refl

pub refuses_ran : (d : Data) (ops : List Operation) (k : ℕ) (kind : PatchErrorKind) → IsDocument d → AreWhole ops → RefusesAt d ops k kind → after_run d ops ≡ Err (fault k kind)
refuses_ran d (op ∷ ops) (suc k) kind hd hv h =
    rw (leaves_stepped d op h.0 hd hv.0 h.1, refuses_ran h.0 ops k kind (leaves_document d op h.0 hd hv.0 h.1) hv.1 h.2) refl
refuses_ran d ops k kind hd hv h = search (rules, refuses_stepped)

-- ---- where a run ends, found out

counted_err : (o : Outcome) (k : ℕ) (kind : PatchErrorKind) → one_later o ≡ Err (fault k kind) → (j : ℕ) × (k ≡ suc j) × (o ≡ Err (fault j kind))
counted_err o k kind h = search rules

module _ (d : Data) (op : Operation) (ops : List Operation) (hd : IsDocument d) (hv : IsWholeOp op) where
  accepts_on : (r : Result Data PatchErrorKind) (e : Data) → after_step d op ≡ r → ((m : Data) → IsDocument m → after_run m ops ≡ Ok e → Accepts m ops e)
      → then_run r (λ m. after_run m ops) ≡ Ok e → Accepts d (op ∷ ops) e
  accepts_on (Ok m) e is more h = search (rules, stepped_leaves d op m hd hv is, leaves_document d op m hd hv, stepped_leaves, leaves_document)
  accepts_on (Err kind) e is more h = cc

  refuses_on : (r : Result Data PatchErrorKind) (k : ℕ) (kind : PatchErrorKind) → after_step d op ≡ r → ((m : Data) (j : ℕ) → IsDocument m → after_run m ops ≡ Err (fault j kind) → RefusesAt m ops j kind)
      → then_run r (λ m. after_run m ops) ≡ Err (fault k kind) → RefusesAt d (op ∷ ops) k kind
  refuses_on (Ok m) k kind is more h = search (rules, stepped_leaves d op m hd hv is, counted_err (after_run m ops) k kind h, leaves_document d op m hd hv, stepped_leaves, counted_err, leaves_document)
  refuses_on r k kind is more h = search (rules, stepped_refuses)

pub ran_accepts : (d : Data) (ops : List Operation) (e : Data) → IsDocument d → AreWhole ops → after_run d ops ≡ Ok e → Accepts d ops e
ran_accepts d [] e hd hv is = cc
ran_accepts d (op ∷ ops) e hd hv is = accepts_on d op ops hd hv.0 (after_step d op) e refl (λ m hm at. ran_accepts m ops e hm hv.1 at) is

pub ran_refuses : (d : Data) (ops : List Operation) (k : ℕ) (kind : PatchErrorKind) → IsDocument d → AreWhole ops → after_run d ops ≡ Err (fault k kind) → RefusesAt d ops k kind
ran_refuses d [] k kind hd hv is = cc
ran_refuses d (op ∷ ops) k kind hd hv is = refuses_on d op ops hd hv.0 (after_step d op) k kind refl (λ m j hm at. ran_refuses m ops j kind hm hv.1 at) is

-- ---- one end alone

module _ (d : Data) (ops : List Operation) (hd : IsDocument d) (hv : AreWhole ops) where
  pub accepted : (e : Data) → after_run d ops ≡ Ok e → IsAccepted d ops e
  accepted e is = search (rules, ran_accepts, accepts_ran, refuses_ran)

  refused : (k : ℕ) (kind : PatchErrorKind) → after_run d ops ≡ Err (fault k kind) → IsRefused d ops k kind
  refused k kind is = search (rules, ran_refuses, refuses_ran, accepts_ran)

  on_outcome : (o : Outcome) → after_run d ops ≡ o → Ends d ops
  on_outcome (Ok e) is = inl (e, accepted e is)
  on_outcome (Err (fault k kind)) is = inr (k, kind, refused k kind is)

pub ends : (d : Data) (ops : List Operation) → IsDocument d → AreWhole ops → Ends d ops
ends d ops hd hv = on_outcome d ops hd hv (after_run d ops) refl

pub accepts_document : (d : Data) (ops : List Operation) (e : Data) → IsDocument d → AreWhole ops → Accepts d ops e → IsDocument e
accepts_document d [] e hd hv h = subst IsDocument h hd
accepts_document d (op ∷ ops) e hd hv h = accepts_document h.0 ops e (leaves_document d op h.0 hd hv.0 h.1) hv.1 h.2

-- ---- joined lists

pub accepts_joined : (d : Data) (xs ys : List Operation) (m e : Data) → Accepts d xs m → Accepts m ys e → Accepts d (xs ++ ys) e
accepts_joined d [] ys m e h g = subst (λ x. Accepts x ys e) (sym h) g
accepts_joined d (op ∷ xs) ys m e h g = (h.0, h.1, accepts_joined h.0 xs ys m e h.2 g)

pub accepts_split : (d : Data) (xs ys : List Operation) (e : Data) → Accepts d (xs ++ ys) e → (m : Data) × Accepts d xs m × Accepts m ys e
accepts_split d [] ys e h = (d, refl, h)
accepts_split d (op ∷ xs) ys e h = grind (arith, common_steps, accepts_split h.0 xs ys e h.2)

pub refuses_second : (d : Data) (xs ys : List Operation) (m : Data) (j : ℕ) (kind : PatchErrorKind) → Accepts d xs m → RefusesAt m ys j kind → RefusesAt d (xs ++ ys) (length xs + j) kind
refuses_second d (op ∷ xs) ys m j kind h g = grind (arith, common_steps, refuses_second h.0 xs ys m j kind h.2 g)
refuses_second d xs ys m j kind h g = search rules

pub refuses_first : (d : Data) (xs ys : List Operation) (k : ℕ) (kind : PatchErrorKind) → RefusesAt d xs k kind → RefusesAt d (xs ++ ys) k kind
refuses_first d (op ∷ xs) ys (suc k) kind h = (h.0, h.1, refuses_first h.0 xs ys k kind h.2)
refuses_first d xs ys k kind h = search rules

pub tests_end : (d : Data) (ops : List Operation) (e : Data) → AreTests ops → Accepts d ops e → e ≡ d
tests_end d (test P v ∷ ops) e t h = tests_end h.0 ops e t h.2 ∙ h.1.1
tests_end d ops e t h = search rules

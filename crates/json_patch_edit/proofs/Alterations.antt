-- What `after_change` leaves, at every location.
use Rattle.json_patch_edit.proofs.Common.{◌≡◌, ℕ, List, [], ◌∷◌, ◌++◌, ⊎_elim, Option, Some, option_and_then, refl, sym, ap, ◌∙◌, subst, rules, option_and_then_some, Data, IsDocument, Segment, child, look, sight, value_at, Resolves, segment_of, set_child, after_change, option_map, Pointer}
use Rattle.json_patch_document.proofs.Members.{child_document, child_set, child_set_other, sight_set, set_document, step_cases}
use Rattle.json_patch_edit.proofs.Places.{IsApart}
use Rattle.json_patch_edit.proofs.Locations.{option_map_some, names_step}

-- e is d with q in place of p, which stands at L
pub record Grafts (d e : Data) (L : List Segment) (p q : Data) : Type 0 where
  pub before : (R : List Segment) → look d (L ++ R) ≡ look p R
  pub after : (R : List Segment) → look e (L ++ R) ≡ look q R
  pub apart : (X : List Segment) → IsApart L X → look e X ≡ look d X

pub record IsAltered (f : Data → Option Data) (d : Data) (P : List (List ℕ)) (e : Data) : Type 0 where
  pub L : List Segment
  pub p : Data
  pub q : Data
  pub resolves : Resolves d P L p
  pub result : f p ≡ Some q
  pub grafts : Grafts d e L p q
  pub keeps : IsDocument d → (IsDocument p → IsDocument q) → IsDocument e

look_child : (s : Segment) (d c : Data) (R : List Segment) → child s d ≡ Some c → look d (s ∷ R) ≡ look c R
look_child s d c R is = ap (λ o. sight (option_and_then (λ x. value_at x R) o)) is

module _ (s : Segment) (d c e : Data) (L : List Segment) (p q : Data) (is : child s d ≡ Some c) (g : Grafts c e L p q) where
  apart_step : (X : List Segment) → IsApart (s ∷ L) X → look (set_child s e d) X ≡ look d X
  apart_step [] out = sight_set s d e
  apart_step (r ∷ Y) out =
      ⊎_elim
      (λ (same : r ≡ s). subst (λ x. IsApart (s ∷ L) (x ∷ Y) → look (set_child s e d) (x ∷ Y) ≡ look d (x ∷ Y)) (sym same) (search (rules, look_child, child_set)) out)
      (λ (other : r ≡ s → ⊥). ap (λ o. sight (option_and_then (λ x. value_at x Y) o)) (child_set_other r s d e other)) (step_cases r s)

altered_step : (f : Data → Option Data) (d : Data) (t : List ℕ) (P : List (List ℕ)) (s : Segment) (c b : Data) → segment_of d t ≡ Some s → child s d ≡ Some c
    → IsAltered f c P b → IsAltered f d (t ∷ P) (set_child s b d)
altered_step f d t P s c b named is a = record {
  L = s ∷ a.L;
  p = a.p;
  q = a.q;
  resolves = (c, (search rules), is, a.resolves);
  result = a.result;
  grafts = (search (rules, look_child, child_set, apart_step));
  keeps = λ hd keep. set_document s d b hd (a.keeps (child_document s d c hd is) keep);
}

pub altered_is : (f : Data → Option Data) (d : Data) (P : List (List ℕ)) (e : Data) → after_change f d P ≡ Some e → IsAltered f d P e
altered_is f d [] e is = record {
  L = [];
  p = d;
  q = e;
  resolves = refl;
  result = is;
  grafts = record { before = λ R. refl; after = λ R. refl; apart = λ X out. absurd (out X refl) };
  keeps = λ hd keep. keep hd;
}
altered_is f d (t ∷ P) e is =
    option_and_then_some _ (segment_of d t) e is (λ s named more.
    option_and_then_some _ (child s d) e more (λ c stands rest.
    option_map_some _ (after_change f c P) e rest (λ b inner whole.
    subst (IsAltered f d (t ∷ P)) whole (altered_step f d t P s c b named stands (altered_is f c P b inner)))))

pub altered_some : (f : Data → Option Data) (d : Data) (P : List (List ℕ)) (L : List Segment) (p q : Data) → Resolves d P L p → f p ≡ Some q → (e : Data) × (after_change f d P ≡ Some e)
altered_some f d [] [] p q h is = (q, ap f h ∙ is)
altered_some f d (t ∷ P) (s ∷ L) p q h is =
    let i : (e : Data) × (after_change f h.0 P ≡ Some e) = altered_some f h.0 P L p q h.3 is in
    (set_child s i.0 d, rw (names_step d t s h.1, h.2, i.1))
altered_some f d P L p q h is = search rules

-- ---- at a pointer in two parts

pub altered_append : (f : Data → Option Data) (d : Data) (P Q : Pointer) → after_change f d (P ++ Q) ≡ after_change (λ c. after_change f c Q) d P
altered_append f d [] Q = refl
altered_append f d (t ∷ P) Q =
    λ i. option_and_then (λ s. option_and_then (λ c. option_map (λ e. set_child s e d) (altered_append f c P Q i)) (child s d)) (segment_of d t)

-- What undoes a list is apart from what the list is apart from.
use Rattle.json_patch_laws.proofs.Common.{◌≡◌, ℕ, List, [], ◌∷◌, ◌++◌, ⊎_elim, Option, Some, None, refl, sym, ap, ◌∙◌, subst}
use Rattle.json_patch_laws.proofs.Common.{rules, Bool, true, bytes_eq, bytes_eq-Decides, if◌then◌else◌, Data, Items, array}
use Rattle.json_patch_laws.proofs.Common.{object, IsDocument, Segment, place, Aims, pointee, put_in, after_add, front_of}
use Rattle.json_patch_laws.proofs.Common.{last_of, place_of, next_token, Pointer, IsPrefix, Operation, add, remove, replace}
use Rattle.json_patch_laws.proofs.Common.{move, copy, test, IsWholeOp, AreWhole, Leaves, Accepts, IsAccepted, IsInverse}
use Rattle.json_patch_laws.proofs.Common.{block, inverse, undo_in, undo_add, undo_at, settled_token}
use Rattle.std.specs.Prelude.{◌||◌}
use Rattle.json_patch_apart.specs.Apart.{may_be_place, reach, changed_by, read_by, DivergesFrom, AllDiverge, IsApart}
use Rattle.json_patch_apart.specs.Apart.{IsApartFrom, AreApart}
use Rattle.json_patch_edit.proofs.Changes.{added_exact, removed_exact}
use Rattle.json_patch_edit.proofs.Locations.{resolves_found}
use Rattle.json_patch_edit.proofs.Alterations.{IsAltered, altered_is}
use Rattle.json_patch_edit.proofs.Slots.{PutsIn, put_in_puts}
use Rattle.json_patch_edit.proofs.StepOutcomes.{front_append, last_append, leaves_document, stands_found, stands_document}
use Rattle.json_patch_edit.proofs.StepOutcomes.{removed_document}
use Rattle.json_patch_laws.proofs.Runs.{accepted, accepts_document, accepts_ran}
use Rattle.json_patch_laws.proofs.Blocks.{inverse_step, inverse_whole, inverse_back, inverse_only, settled}
use Rattle.json_patch_laws.proofs.ApartOutcomes.{itself, reach_begins, reach_whole, diverges_longer}
use Rattle.json_patch_laws.proofs.ApartRuns.{both_ways, lists_back}

-- ---- z changes one pointer alone, at or below P, and reads nothing

record IsUnder (P : Pointer) (z : Operation) : Type 0 where
  R : Pointer
  changes : changed_by z ≡ R ∷ []
  reads : read_by z ≡ []
  longer : IsPrefix P R

no_reads : (Ps : List Pointer) → AllDiverge Ps []
no_reads [] = tt
no_reads (P ∷ Ps) = (tt, no_reads Ps)

under_apart : (P : Pointer) (z y : Operation) → IsUnder P z → DivergesFrom P (changed_by y) → DivergesFrom P (read_by y) → IsApart z y
under_apart P z y u h g = record {
  changes = subst (λ Ps. AllDiverge Ps (changed_by y)) (sym u.changes) (diverges_longer P u.R (changed_by y) u.longer h, tt);
  first = subst (λ Ps. AllDiverge Ps (read_by y)) (sym u.changes) (diverges_longer P u.R (read_by y) u.longer g, tt);
  second = subst (AllDiverge (changed_by y)) (sym u.reads) (no_reads (changed_by y));
}

under_one : (P : Pointer) (z : Operation) → changed_by z ≡ P ∷ [] → read_by z ≡ [] → IsUnder P z
under_one P z c r = record { R = P; changes = c; reads = r; longer = itself P }

-- ---- what undoes an add works in the add's reach

place_may : (t : List ℕ) (i : ℕ) → place_of t ≡ Some i → may_be_place t ≡ true
place_may t i h = rw h (or_true (bytes_eq t next_token))
  where
    or_true : (b : Bool) → b || true ≡ true
    or_true b = search rules

aims_may : (t : List ℕ) (ds : Items) (i : ℕ) → Aims (array ds) t (place i) → may_be_place t ≡ true
aims_may t ds i h = ⊎_elim (λ a. place_may t i a.0) (λ a. rw ((bytes_eq-Decides t next_token).1 a.0) refl) h

reach_is : (A : Pointer) (t : List ℕ) → may_be_place t ≡ true → reach (A ++ t ∷ []) ≡ A
reach_is [] t h = rw h refl
reach_is (a ∷ A) t h = reach_whole a (A ++ t ∷ []) ∙ rw (last_append a t A, h) (front_append a t A)

undo_at_under : (P : Pointer) (o : Option Data) → IsUnder (reach P) (undo_at P o)
undo_at_under P None = under_one (reach P) (remove P) refl refl
undo_at_under P (Some w) = record { R = P; changes = refl; reads = refl; longer = reach_begins P }

undo_in_under : (d : Data) (t : List ℕ) (P : Pointer) (p : Data) (s : Segment) → Aims p (last_of t P) s → IsUnder (reach (t ∷ P)) (undo_in d (front_of t P) (last_of t P) (t ∷ P) (Some p))
undo_in_under d t P (array ds) (place i) h =
    let u : List ℕ = settled_token (Some (array ds)) (last_of t P) in
    let here : reach (t ∷ P) ≡ front_of t P = reach_whole t P ∙ ap (λ b. if b then front_of t P else t ∷ P) (aims_may (last_of t P) ds i h) in
    under_one (reach (t ∷ P)) (remove (front_of t P ++ u ∷ []))
    (ap (λ R. R ∷ []) (reach_is (front_of t P) u (place_may u i (settled (last_of t P) ds i h)) ∙ sym here)) refl
undo_in_under d t P (object ms) s h = undo_at_under (t ∷ P) (pointee d (t ∷ P))
undo_in_under d t P p s h = absurd h

undo_under : (d : Data) (P : Pointer) (v e : Data) → after_add d P v ≡ Some e → IsUnder (reach P) (undo_add d P)
undo_under d [] v e is = under_one [] (replace [] d) refl refl
undo_under d (t ∷ P) v e is =
    let a : IsAltered (put_in v (last_of t P)) d (front_of t P) e = altered_is (put_in v (last_of t P)) d (front_of t P) e is in
    let i : PutsIn v (last_of t P) a.p a.q = put_in_puts v (last_of t P) a.p a.q a.result in
    let at : pointee d (front_of t P) ≡ Some a.p = resolves_found d (front_of t P) a.L a.p a.resolves in
    subst (λ o. IsUnder (reach (t ∷ P)) (undo_in d (front_of t P) (last_of t P) (t ∷ P) o)) (sym at) (undo_in_under d t P a.p i.s i.aims)

-- ---- blocks

abbrev BlockApart : Data → Operation → Operation → Type 0
BlockApart d x y = AreApart (block d x) (y ∷ [])

one : (P : Pointer) (z y : Operation) → IsUnder P z → DivergesFrom P (changed_by y) → DivergesFrom P (read_by y) → IsApartFrom z (y ∷ [])
one P z y u h g = (under_apart P z y u h g, tt)

block_apart : (d : Data) (x y : Operation) (e : Data) → IsDocument d → IsWholeOp x → Leaves d x e → IsApart x y → BlockApart d x y
block_apart d (add P v) y e hd hv h a = (one (reach P) (undo_add d P) y (undo_under d P v e (added_exact d P v e hd hv h)) a.changes.0 a.first.0, tt)
block_apart d (remove P) y e hd hv h a =
    rw (resolves_found d P _ h.2 h.3) (one (reach P) (add P h.2) y (under_one (reach P) (add P h.2) refl refl) a.changes.0 a.first.0, tt)
block_apart d (replace P v) y e hd hv h a =
    rw (resolves_found d P h.0 h.1 h.2) (one P (replace P h.1) y (under_one P (replace P h.1) refl refl) a.changes.0 a.first.0, tt)
block_apart d (move F P) y e hd hv h a =
    let v = h.1.0 in let m = h.1.1 in
    let hw : IsDocument v = stands_document d F v hd h.1.2 in
    let hm : IsDocument m = removed_document d F m h.1.3 in
    rw (stands_found d F v h.1.2, removed_exact d F m hd h.1.3) (
      one (reach P) (undo_add m P) y (undo_under m P v e (added_exact m P v e hm hw h.1.4)) a.changes.1.0 a.first.1.0,
      (one (reach F) (add F v) y (under_one (reach F) (add F v) refl refl) a.changes.0 a.first.0, tt),
    )
block_apart d (copy F P) y e hd hv h a =
    (one (reach P) (undo_add d P) y (undo_under d P h.0 e (added_exact d P h.0 e hd (stands_document d F h.0 hd h.1) h.2)) a.changes.0 a.first.0, tt)
block_apart d (test P v) y e hd hv h a = tt

-- ---- lists

no_list : (zs : List Operation) → AreApart zs []
no_list [] = tt
no_list (z ∷ zs) = (tt, no_list zs)

more_list : (zs : List Operation) (y : Operation) (ys : List Operation) → AreApart zs (y ∷ []) → AreApart zs ys → AreApart zs (y ∷ ys)
more_list [] y ys h g = tt
more_list (z ∷ zs) y ys h g = ((h.0.0, g.0), more_list zs y ys h.1 g.1)

block_list : (d : Data) (x : Operation) (ys : List Operation) (e : Data) → IsDocument d → IsWholeOp x → Leaves d x e → IsApartFrom x ys → AreApart (block d x) ys
block_list d x [] e hd hv h a = no_list (block d x)
block_list d x (y ∷ ys) e hd hv h a = more_list (block d x) y ys (block_apart d x y e hd hv h a.0) (block_list d x ys e hd hv h a.1)

joined_apart : (ws zs ys : List Operation) → AreApart ws ys → AreApart zs ys → AreApart (ws ++ zs) ys
joined_apart [] zs ys h g = g
joined_apart (w ∷ ws) zs ys h g = (h.0, joined_apart ws zs ys h.1 g)

pub apart_joined : (xs ys zs : List Operation) → AreApart xs ys → AreApart xs zs → AreApart xs (ys ++ zs)
apart_joined xs ys zs h g = lists_back (ys ++ zs) xs (joined_apart ys zs xs (lists_back xs ys h) (lists_back xs zs g))

pub inverse_apart : (d : Data) (xs ys : List Operation) (m : Data) → IsDocument d → AreWhole xs → Accepts d xs m → AreApart xs ys → AreApart (inverse d xs) ys
inverse_apart d [] ys m hd hv h a = tt
inverse_apart d (x ∷ xs) ys m hd hv h a =
    subst (λ I. AreApart I ys) (sym (inverse_step d x xs h.0 hd hv.0 h.1))
    (joined_apart (inverse h.0 xs) (block d x) ys (inverse_apart h.0 xs ys m (leaves_document d x h.0 hd hv.0 h.1) hv.1 h.2 a.1) (block_list d x ys h.0 hd hv.0 h.1 a.0))

-- after xs and then ys, the inverse of xs is accepted, and leads to the end of ys alone
pub undo_keeps : (d : Data) (xs ys I : List Operation) (m e : Data) → IsDocument d → AreWhole xs → AreWhole ys → AreApart xs ys → IsInverse d xs I → Accepts d xs m → Accepts m ys e
    → (n : Data) × Accepts d ys n × IsAccepted e I n
undo_keeps d xs ys I m e hd hx hy a inv h g =
    let J : List Operation = inverse d xs in
    let hm : IsDocument m = accepts_document d xs m hd hx h in
    let he : IsDocument e = accepts_document m ys e hm hy g in
    let w : AreWhole J = inverse_whole d xs m hd hx h in
    let c : (n : Data) × Accepts d ys n × Accepts e J n = both_ways m J ys hm w hy (inverse_apart d xs ys m hd hx h a) d e (inverse_back d xs m hd hx h) g in
    (c.0, c.1, subst (λ I. IsAccepted e I c.0) (sym (inverse_only d xs I hd hx inv)) (accepted e J he w c.0 (accepts_ran e J c.0 he w c.2)))

-- The blocks and the inverse that are computed are those that the definitions name, and no others are.
use Rattle.json_patch_laws.proofs.Common.{◌≡◌, ◌≤◌, ◌*◌, ℕ, List, [], ◌∷◌, ◌++◌, length, length-append, append_assoc}
use Rattle.json_patch_laws.proofs.Common.{append-nil, Option, Some, Ok, refl, sym, ap, ◌∙◌, arith, rules, subst, Data}
use Rattle.json_patch_laws.proofs.Common.{Pointer, IsDocument, Operation, add, remove, replace, move, copy, test, IsWholeOp}
use Rattle.json_patch_laws.proofs.Common.{AreWhole, InvalidPointer, Leaves, Accepts, pointee, after_remove, or_refused}
use Rattle.json_patch_laws.proofs.Common.{after_step, after_run, undo_in, undo_add, with_left, block, inverse, inl, inr}
use Rattle.json_patch_laws.proofs.Common.{⊎_elim, bytes_eq, None, array, object, Items, place_of, next_token, Segment, key}
use Rattle.json_patch_laws.proofs.Common.{place, Aims, after_add, front_of, last_of, put_in, settled_token, undo_at}
use Rattle.json_patch_laws.proofs.Common.{place_is_token, ◌↔◌, Err, look, Resolves, IsReplaced, PatchErrorKind, Refuses}
use Rattle.json_patch_laws.proofs.Common.{RefusesAt, fault, TakesBack, UndoesAdd, IsBlock, IsInverse}
use Rattle.json_patch_edit.proofs.Changes.{added_exact, removed_exact, replaced_exact}
use Rattle.json_patch_edit.proofs.Locations.{resolves_found, found_resolves, split_whole, split_is, resolves_same}
use Rattle.json_patch_edit.proofs.Alterations.{IsAltered, altered_is}
use Rattle.json_patch_edit.proofs.Slots.{PutsIn, put_in_puts}
use Rattle.json_patch_edit.proofs.StepOutcomes.{stands_found, stands_document, removed_document, leaves_stepped}
use Rattle.json_patch_edit.proofs.StepOutcomes.{leaves_document, found_never, never_found, stepped_leaves, refuses_stepped}
use Rattle.json_patch_edit.proofs.StepOutcomes.{stepped_refuses}
use Rattle.json_patch_laws.proofs.Runs.{ran_accepts, accepts_document, accepts_joined, accepts_ran, refuses_ran, ran_refuses}
use Rattle.json_patch_laws.proofs.Runs.{accepts_split}
use Rattle.json_patch_edit.proofs.Locations.{found_document}
use Rattle.json_patch_edit.proofs.BlocksLeadBack.{undo_added, undo_removed, undo_replaced, settled_place}

-- ---- the inverse of an accepted list leads back, through every state

ran_one : (u : Operation) (e d : Data) → after_step e u ≡ Ok d → after_run e (u ∷ []) ≡ Ok d
ran_one u e d is = rw is refl

ran_two : (u w : Operation) (e m d : Data) → after_step e u ≡ Ok m → after_step m w ≡ Ok d → after_run e (u ∷ w ∷ []) ≡ Ok d
ran_two u w e m d is next = rw (is, next) refl

-- on the document that the operation left, its block leads to the one before
block_ran : (d : Data) (op : Operation) (e : Data) → IsDocument d → IsWholeOp op → Leaves d op e → after_run e (block d op) ≡ Ok d
block_ran d (add P v) e hd hv h = ran_one (undo_add d P) e d (undo_added d P v e hd hv (added_exact d P v e hd hv h))
block_ran d (remove P) e hd hv h =
    let was : pointee d P ≡ Some h.2 = resolves_found d P _ h.2 h.3 in
    rw was (ran_one (add P h.2) e d (ap (or_refused InvalidPointer) (undo_removed d P h.2 e hd (removed_exact d P e hd h) was).1))
block_ran d (replace P v) e hd hv h =
    let was : pointee d P ≡ Some h.1 = resolves_found d P h.0 h.1 h.2 in
    rw was (ran_one (replace P h.1) e d (ap (or_refused InvalidPointer) (undo_replaced d P v h.1 e hd hv (replaced_exact d P v e hd hv h) was)))
block_ran d (move F P) e hd hv h =
    let v = h.1.0 in let m = h.1.1 in
    let hw : IsDocument v = stands_document d F v hd h.1.2 in
    let hm : IsDocument m = removed_document d F m h.1.3 in
    let was : pointee d F ≡ Some v = stands_found d F v h.1.2 in
    let left : after_remove d F ≡ Some m = removed_exact d F m hd h.1.3 in
    rw (was, left)
    (ran_two (undo_add m P) (add F v) e m d (undo_added m P v e hm hw (added_exact m P v e hm hw h.1.4)) (ap (or_refused InvalidPointer) (undo_removed d F v m hd left was).1))
block_ran d (copy F P) e hd hv h =
    let hw : IsDocument h.0 = stands_document d F h.0 hd h.1 in
    ran_one (undo_add d P) e d (undo_added d P h.0 e hd hw (added_exact d P h.0 e hd hw h.2))
block_ran d (test P v) e hd hv h = ap Ok h.1

-- ---- the block's values are documents

undo_in_whole : (d : Data) (front : Pointer) (last : List ℕ) (P : Pointer) (o : Option Data) → IsDocument d → IsWholeOp (undo_in d front last P o)
undo_in_whole d front last P o hd = search (rules, found_document)

pub block_whole : (d : Data) (op : Operation) (e : Data) → IsDocument d → IsWholeOp op → Leaves d op e → AreWhole (block d op)
block_whole d (move F P) e hd hv h =
    rw (stands_found d F h.1.0 h.1.2, removed_exact d F h.1.1 hd h.1.3)
    ((search (rules, undo_in_whole)), (stands_document d F h.1.0 hd h.1.2, tt))
block_whole d op e hd hv h = search (rules, undo_in_whole, resolves_found, found_document)

pub block_back : (d : Data) (op : Operation) (e : Data) → IsDocument d → IsWholeOp op → Leaves d op e → Accepts e (block d op) d
block_back d op e hd hv h = ran_accepts e (block d op) d (leaves_document d op e hd hv h) (block_whole d op e hd hv h) (block_ran d op e hd hv h)

-- ---- lists

pub whole_joined : (xs ys : List Operation) → AreWhole xs → AreWhole ys → AreWhole (xs ++ ys)
whole_joined [] ys h g = g
whole_joined (op ∷ xs) ys h g = (h.0, whole_joined xs ys h.1 g)

pub inverse_step : (d : Data) (op : Operation) (ops : List Operation) (m : Data) → IsDocument d → IsWholeOp op → Leaves d op m → inverse d (op ∷ ops) ≡ inverse m ops ++ block d op
inverse_step d op ops m hd hv h = ap (λ r. with_left r (λ m. inverse m ops) ++ block d op) (leaves_stepped d op m hd hv h)

pub inverse_whole : (d : Data) (ops : List Operation) (e : Data) → IsDocument d → AreWhole ops → Accepts d ops e → AreWhole (inverse d ops)
inverse_whole d [] e hd hv h = tt
inverse_whole d (op ∷ ops) e hd hv h =
    subst AreWhole (sym (inverse_step d op ops h.0 hd hv.0 h.1))
    (whole_joined (inverse h.0 ops) (block d op) (inverse_whole h.0 ops e (leaves_document d op h.0 hd hv.0 h.1) hv.1 h.2) (block_whole d op h.0 hd hv.0 h.1))

-- the inverse is accepted on the end, and leads to the first document
pub inverse_back : (d : Data) (ops : List Operation) (e : Data) → IsDocument d → AreWhole ops → Accepts d ops e → Accepts e (inverse d ops) d
inverse_back d [] e hd hv h = sym h
inverse_back d (op ∷ ops) e hd hv h =
    subst (λ I. Accepts e I d) (sym (inverse_step d op ops h.0 hd hv.0 h.1))
    (accepts_joined e (inverse h.0 ops) (block d op) h.0 d (inverse_back h.0 ops e (leaves_document d op h.0 hd hv.0 h.1) hv.1 h.2) (block_back d op h.0 hd hv.0 h.1))

-- the inverse of a joined list: what leads back over the second part stands first
pub inverse_joined : (d : Data) (xs ys : List Operation) (m : Data) → IsDocument d → AreWhole xs → Accepts d xs m → inverse d (xs ++ ys) ≡ inverse m ys ++ inverse d xs
inverse_joined d [] ys m hd hv h = ap (λ x. inverse x ys) h ∙ sym (append-nil (inverse m ys))
inverse_joined d (op ∷ xs) ys m hd hv h =
    inverse_step d op (xs ++ ys) h.0 hd hv.0 h.1 ∙ ap (λ I. I ++ block d op) (inverse_joined h.0 xs ys m (leaves_document d op h.0 hd hv.0 h.1) hv.1 h.2)
    ∙ append_assoc (inverse m ys) (inverse h.0 xs) (block d op) ∙ ap (λ I. inverse m ys ++ I) (sym (inverse_step d op xs h.0 hd hv.0 h.1))

-- the inverse of the inverse is accepted on the first document, and leads to the end
pub inverse_twice : (d : Data) (ops : List Operation) (e : Data) → IsDocument d → AreWhole ops → Accepts d ops e → Accepts d (inverse e (inverse d ops)) e
inverse_twice d ops e hd hv h = inverse_back e (inverse d ops) d (accepts_document d ops e hd hv h) (inverse_whole d ops e hd hv h) (inverse_back d ops e hd hv h)

-- ---- its length

pub inverse_length : (ops : List Operation) (d : Data) → length (inverse d ops) ≤ 2 * length ops
inverse_length [] d = omega arith
inverse_length (op ∷ ops) d = search (rules, length-append, inverse_length ops)

-- ---- a last token as a number

pub settled : (t : List ℕ) (ds : Items) (i : ℕ) → Aims (array ds) t (place i) → place_of (settled_token (Some (array ds)) t) ≡ Some i
settled t ds i h = settled_place (bytes_eq t next_token) t ds i refl h

pub settled_only : (t : List ℕ) (ds : Items) (i : ℕ) (u : List ℕ) → Aims (array ds) t (place i) → place_of u ≡ Some i → u ≡ settled_token (Some (array ds)) t
settled_only t ds i u h is = (place_is_token u i).0 is ∙ sym ((place_is_token (settled_token (Some (array ds)) t) i).0 (settled t ds i h))

-- ---- what undoes an add

module _ (d : Data) (P : Pointer) where
  member_back : (k : List ℕ) (o : Option Data) → pointee d P ≡ o → TakesBack d P (key k) (undo_at P o)
  member_back k None is = inl (found_never d P is, refl)
  member_back k (Some w) is = inr (w, found_resolves d P w is, refl)

module _ (d : Data) (t : List ℕ) (P : Pointer) where
  takes_back : (p : Data) (s : Segment) → Aims p (last_of t P) s → TakesBack d (t ∷ P) s (undo_in d (front_of t P) (last_of t P) (t ∷ P) (Some p))
  takes_back (array ds) (place i) aims = search (rules, split_whole t P, settled (last_of t P) ds i aims)
  takes_back (object ms) (key k) aims = member_back d (t ∷ P) k (pointee d (t ∷ P)) refl
  takes_back p s aims = absurd aims

  back_only : (p : Data) (s : Segment) (u : Operation) → Aims p (last_of t P) s → TakesBack d (t ∷ P) s u → u ≡ undo_in d (front_of t P) (last_of t P) (t ∷ P) (Some p)
  back_only (object ms) (key k) u aims h =
      ⊎_elim (λ n. n.1 ∙ ap (undo_at (t ∷ P)) (sym (never_found d (t ∷ P) n.0))) (λ w. w.2 ∙ ap (undo_at (t ∷ P)) (sym (stands_found d (t ∷ P) w.0 w.1))) h
  back_only p s u aims h = search (rules, split_is, settled_only)

undoes_beyond : (d : Data) (t : List ℕ) (P : Pointer) (v e : Data) → after_add d (t ∷ P) v ≡ Some e → UndoesAdd d (t ∷ P) (undo_add d (t ∷ P))
undoes_beyond d t P v e is =
    let a : IsAltered (put_in v (last_of t P)) d (front_of t P) e = altered_is (put_in v (last_of t P)) d (front_of t P) e is in
    let i : PutsIn v (last_of t P) a.p a.q = put_in_puts v (last_of t P) a.p a.q a.result in
    let at : pointee d (front_of t P) ≡ Some a.p = resolves_found d (front_of t P) a.L a.p a.resolves in (
      a.L,
      i.s,
      record { front = front_of t P; last = last_of t P; whole = split_whole t P; parent = a.p; resolves = a.resolves; aims = i.aims },
      subst (λ o. TakesBack d (t ∷ P) i.s (undo_in d (front_of t P) (last_of t P) (t ∷ P) o)) (sym at) (takes_back d t P a.p i.s i.aims),
    )

undoes_is : (d : Data) (P : Pointer) (v e : Data) → after_add d P v ≡ Some e → UndoesAdd d P (undo_add d P)
undoes_is d [] v e is = refl
undoes_is d (t ∷ P) v e is = undoes_beyond d t P v e is

undoes_only : (d : Data) (P : Pointer) (u : Operation) → UndoesAdd d P u → u ≡ undo_add d P
undoes_only d P u h = search (rules, split_is, resolves_found, back_only)

-- ---- blocks

pub block_is : (d : Data) (op : Operation) (e : Data) → IsDocument d → IsWholeOp op → Leaves d op e → IsBlock d op (block d op)
block_is d (move F P) e hd hv h =
    let v = h.1.0 in let m = h.1.1 in
    let hw : IsDocument v = stands_document d F v hd h.1.2 in
    let hm : IsDocument m = removed_document d F m h.1.3 in
    rw (stands_found d F v h.1.2, removed_exact d F m hd h.1.3)
    (v, m, undo_add m P, h.1.2, h.1.3, undoes_is m P v e (added_exact m P v e hm hw h.1.4), refl)
block_is d (copy F P) e hd hv h =
    (undo_add d P, undoes_is d P h.0 e (added_exact d P h.0 e hd (stands_document d F h.0 hd h.1) h.2), refl)
block_is d op e hd hv h = search (rules, undoes_is, added_exact, resolves_found, found_resolves)

pub block_only : (d : Data) (op : Operation) (B : List Operation) → IsDocument d → IsBlock d op B → B ≡ block d op
block_only d (add P v) B hd h = h.2 ∙ ap (λ u. u ∷ []) (undoes_only d P h.0 h.1)
block_only d (remove P) B hd h = rw (stands_found d P h.0 h.1) h.2
block_only d (replace P v) B hd h = rw (stands_found d P h.0 h.1) h.2
block_only d (move F P) B hd h =
    rw (stands_found d F h.0 h.3, removed_exact d F h.1 hd h.4) (h.6 ∙ ap (λ u. u ∷ add F h.0 ∷ []) (undoes_only h.1 P h.2 h.5))
block_only d (copy F P) B hd h = h.2 ∙ ap (λ u. u ∷ []) (undoes_only d P h.0 h.1)
block_only d (test P v) B hd h = h

-- ---- lists

pub inverse_is : (d : Data) (ops : List Operation) (e : Data) → IsDocument d → AreWhole ops → Accepts d ops e → IsInverse d ops (inverse d ops)
inverse_is d [] e hd hv h = refl
inverse_is d (op ∷ ops) e hd hv h =
    (h.0, inverse h.0 ops, block d op, h.1, inverse_is h.0 ops e (leaves_document d op h.0 hd hv.0 h.1) hv.1 h.2, block_is d op h.0 hd hv.0 h.1, inverse_step d op ops h.0 hd hv.0 h.1)

pub inverse_only : (d : Data) (ops : List Operation) (I : List Operation) → IsDocument d → AreWhole ops → IsInverse d ops I → I ≡ inverse d ops
inverse_only d [] I hd hv h = h
inverse_only d (op ∷ ops) I hd hv h =
    h.6 ∙ ap (λ J. J ++ h.2) (inverse_only h.0 ops h.1 (leaves_document d op h.0 hd hv.0 h.3) hv.1 h.4)
    ∙ ap (λ B. inverse h.0 ops ++ B) (block_only d op h.2 hd h.5) ∙ sym (inverse_step d op ops h.0 hd hv.0 h.3)

pub inverse_accepted : (d : Data) (ops : List Operation) (I : List Operation) → IsInverse d ops I → (e : Data) × Accepts d ops e
inverse_accepted d [] I h = (d, refl)
inverse_accepted d (op ∷ ops) I h = let i : (e : Data) × Accepts h.0 ops e = inverse_accepted h.0 ops h.1 h.4 in (i.0, (h.0, h.3, i.1))

-- ---- the blocks and the inverse that are computed are those that the definitions name, and no others are

module _ (d : Data) (op : Operation) (hd : IsDocument d) (hv : IsWholeOp op) where
  pub step_left : (e : Data) → Leaves d op e ↔ (after_step d op ≡ Ok e)
  step_left e = (λ h. leaves_stepped d op e hd hv h, λ h. stepped_leaves d op e hd hv h)

  pub step_refused : (kind : PatchErrorKind) → Refuses d op kind ↔ (after_step d op ≡ Err kind)
  step_refused kind = (λ h. refuses_stepped d op kind hd hv h, λ h. stepped_refuses d op kind hd hv h)

module _ (d : Data) (ops : List Operation) (hd : IsDocument d) (hv : AreWhole ops) where
  pub run_accepted : (e : Data) → Accepts d ops e ↔ (after_run d ops ≡ Ok e)
  run_accepted e = (λ h. accepts_ran d ops e hd hv h, λ h. ran_accepts d ops e hd hv h)

  pub run_refused : (k : ℕ) (kind : PatchErrorKind) → RefusesAt d ops k kind ↔ (after_run d ops ≡ Err (fault k kind))
  run_refused k kind = (λ h. refuses_ran d ops k kind hd hv h, λ h. ran_refuses d ops k kind hd hv h)

pub joined : (d : Data) (xs ys : List Operation) (e : Data) → Accepts d (xs ++ ys) e ↔ ((m : Data) × Accepts d xs m × Accepts m ys e)
joined d xs ys e = (λ h. accepts_split d xs ys e h, λ h. accepts_joined d xs ys h.0 e h.1 h.2)

-- ---- blocks and inverses

module _ (d : Data) (op : Operation) (e : Data) (hd : IsDocument d) (hv : IsWholeOp op) (h : Leaves d op e) where
  pub block_exactly : (B : List Operation) → IsBlock d op B ↔ (block d op ≡ B)
  block_exactly B = (λ g. sym (block_only d op B hd g), λ g. subst (IsBlock d op) g (block_is d op e hd hv h))

  pub block_leads_back : (B : List Operation) → IsBlock d op B → AreWhole B × (length B ≤ 2) × Accepts e B d
  block_leads_back B g = search (rules, block_only, block_whole, block_back)

module _ (d : Data) (ops : List Operation) (hd : IsDocument d) (hv : AreWhole ops) where
  pub inverse_exactly : (e : Data) → Accepts d ops e → (I : List Operation) → IsInverse d ops I ↔ (inverse d ops ≡ I)
  inverse_exactly e h I = (λ g. sym (inverse_only d ops I hd hv g), λ g. subst (IsInverse d ops) g (inverse_is d ops e hd hv h))

  pub inverse_leads_back : (e : Data) (I : List Operation) → Accepts d ops e → IsInverse d ops I → AreWhole I × (length I ≤ 2 * length ops) × Accepts e I d
  inverse_leads_back e I h g = search (rules, inverse_only, inverse_whole, inverse_length, inverse_back)

  -- the inverse of the inverse leads from the first document to the end
  pub inverse_again : (e : Data) (I J : List Operation) → Accepts d ops e → IsInverse d ops I → IsInverse e I J → Accepts d J e
  inverse_again e I J h g k = search (rules, inverse_only, accepts_document, inverse_whole, inverse_twice)

-- the inverse of a joined list is the inverse of the second part, which leads back to the state between, and then that of the first
pub passes_back : (d : Data) (xs ys : List Operation) (m e : Data) (I : List Operation) → IsDocument d → AreWhole xs → AreWhole ys → Accepts d xs m → Accepts m ys e → IsInverse d (xs ++ ys) I
    → (J K : List Operation) × IsInverse m ys J × IsInverse d xs K × (I ≡ J ++ K) × Accepts e J m × Accepts m K d
passes_back d xs ys m e I hd hx hy h g i = search (rules, accepts_document, inverse_is, inverse_only, whole_joined, inverse_joined, inverse_back)

-- ---- replace

pub replace_elsewhere : (d : Data) (P : Pointer) (v e : Data) (L : List Segment) (c : Data) (X : List Segment) → IsReplaced d P v e → Resolves d P L c → ((R : List Segment) → X ≡ L ++ R → ⊥) → look e X ≡ look d X
replace_elsewhere d P v e L c X h r out = search (rules, resolves_same)

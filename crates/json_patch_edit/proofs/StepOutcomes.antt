-- An operation leaves, or is refused for, exactly what is computed.
use Rattle.json_patch_edit.proofs.Common.{◌≡◌, ℕ, List, [], ◌∷◌, ◌++◌, Option, Some, option_map, option_and_then, refl, ap}
use Rattle.json_patch_edit.proofs.Common.{rules, Data, Segment, child, segment_of, set_child, pointee, after_change}
use Rattle.json_patch_edit.proofs.Common.{after_replace, front_of, last_of, ◌&&◌, Bool, true, false, bytes_eq, if◌then◌else◌}
use Rattle.json_patch_edit.proofs.Common.{None, Ok, Err, sym, ◌∙◌, subst, bytes_eq-Decides, Pointer, IsProperPrefix}
use Rattle.json_patch_edit.proofs.Common.{IsDocument, IsAdded, IsRemoved, IsReplaced, Operation, add, remove, replace, move}
use Rattle.json_patch_edit.proofs.Common.{copy, test, IsWholeOp, PatchErrorKind, TestFailed, InvalidFromPointer}
use Rattle.json_patch_edit.proofs.Common.{InvalidPointer, CannotMoveInsideItself, StandsAt, Never, Leaves, Refuses}
use Rattle.json_patch_edit.proofs.Common.{after_add, after_remove, begins, or_refused, after_move, after_copy, after_test}
use Rattle.json_patch_edit.proofs.Common.{after_step, same}
use Rattle.json_patch_edit.proofs.Changes.{added_is, added_none, IsAdded_document, removed_is, removed_none, replaced_is}
use Rattle.json_patch_edit.proofs.Changes.{replaced_none, added_exact, removed_exact, replaced_exact}
use Rattle.json_patch_edit.proofs.Locations.{resolves_document, found_resolves, resolves_found}
use Rattle.json_patch_document.proofs.SameDocuments.{same-is, same-refl}

-- ---- an operation as a walk to the parent, a change there, and the parent put back

again : (o : Option Data) → o ≡ option_and_then (λ q. Some q) o
again o = search rules

abbrev Walks : (Data → Option Data) → Data → List (List ℕ) → Type 0
Walks f d P = after_change f d P ≡ option_and_then (λ p. option_and_then (λ q. after_replace d P q) (f p)) (pointee d P)

module _ (f : Data → Option Data) (d : Data) (P : List (List ℕ)) (more : (c : Data) → Walks f c P) where
  at_step : (o : Option Segment) → option_and_then (λ s. option_and_then (λ c. option_map (λ e. set_child s e d) (after_change f c P)) (child s d)) o
      ≡ option_and_then (λ p. option_and_then (λ q. option_and_then (λ s. option_and_then (λ c. option_map (λ e. set_child s e d) (after_replace c P q)) (child s d)) o) (f p))
      (option_and_then (λ s. option_and_then (λ c. pointee c P) (child s d)) o)
  at_step o = search rules

pub altered_walks : (f : Data → Option Data) (d : Data) (P : List (List ℕ)) → Walks f d P
altered_walks f d [] = again (f d)
altered_walks f d (t ∷ P) = at_step f d P (λ c. altered_walks f c P) (segment_of d t)

pub front_append : (u t : List ℕ) (P : List (List ℕ)) → front_of u (P ++ t ∷ []) ≡ u ∷ P
front_append u t [] = refl
front_append u t (w ∷ P) = ap (λ Q. u ∷ Q) (front_append w t P)

pub last_append : (u t : List ℕ) (P : List (List ℕ)) → last_of u (P ++ t ∷ []) ≡ t
last_append u t [] = refl
last_append u t (w ∷ P) = last_append w t P

-- ---- proper prefixes

both : (a b : Bool) → a && b ≡ true → (a ≡ true) × (b ≡ true)
both a b h = search rules

pub begins_prefix : (P Q : Pointer) → begins P Q ≡ true → IsProperPrefix P Q
begins_prefix (t ∷ P) (u ∷ Q) h = search (rules, both, bytes_eq, bytes_eq-Decides, begins_prefix P Q)
begins_prefix P Q h = search rules

begins_long : (P : Pointer) (t : List ℕ) (R : Pointer) → begins P (P ++ t ∷ R) ≡ true
begins_long [] t R = refl
begins_long (u ∷ P) t R = rw ((bytes_eq-Decides u u).1 refl) (begins_long P t R)

pub prefix_begins : (P Q : Pointer) → IsProperPrefix P Q → begins P Q ≡ true
prefix_begins P Q h = ap (begins P) h.2 ∙ begins_long P h.0 h.1

is_false : (b : Bool) → (b ≡ true → ⊥) → b ≡ false
is_false b h = search rules

pub not_begins : (P Q : Pointer) → (IsProperPrefix P Q → ⊥) → begins P Q ≡ false
not_begins P Q h = is_false (begins P Q) (λ e. h (begins_prefix P Q e))

not_prefix : (P Q : Pointer) → begins P Q ≡ false → IsProperPrefix P Q → ⊥
not_prefix P Q is h = let a : begins P Q ≡ true = prefix_begins P Q h in cc

-- ---- options

none_of : {A : Type 0} (o : Option A) → ((e : A) → o ≡ Some e → ⊥) → o ≡ None
none_of o h = search rules

pub or_ok : (kind : PatchErrorKind) (o : Option Data) (e : Data) → or_refused kind o ≡ Ok e → o ≡ Some e
or_ok kind o e h = search rules

pub or_err : (kind other : PatchErrorKind) (o : Option Data) → or_refused kind o ≡ Err other → (o ≡ None) × (kind ≡ other)
or_err kind other o h = search rules

-- ---- what stands, and what is never left

pub stands_found : (d : Data) (P : Pointer) (v : Data) → StandsAt d P v → pointee d P ≡ Some v
stands_found d P v h = resolves_found d P h.0 v h.1

pub stands_document : (d : Data) (P : Pointer) (v : Data) → IsDocument d → StandsAt d P v → IsDocument v
stands_document d P v hd h = resolves_document d P h.0 v hd h.1

pub never_found : (d : Data) (P : Pointer) → Never (StandsAt d P) → pointee d P ≡ None
never_found d P h = none_of (pointee d P) (λ v is. h v (found_resolves d P v is))

pub found_never : (d : Data) (P : Pointer) → pointee d P ≡ None → Never (StandsAt d P)
found_never d P is v h = let a : pointee d P ≡ Some v = stands_found d P v h in cc

never_added : (d : Data) (P : Pointer) (v : Data) → IsDocument d → IsDocument v → Never (IsAdded d P v) → after_add d P v ≡ None
never_added d P v hd hv h = none_of (after_add d P v) (λ e is. h e (added_is d P v e hd hv is))

never_removed : (d : Data) (P : Pointer) → IsDocument d → Never (IsRemoved d P) → after_remove d P ≡ None
never_removed d P hd h = none_of (after_remove d P) (λ e is. h e (removed_is d P e hd is))

never_replaced : (d : Data) (P : Pointer) (v : Data) → IsDocument d → IsDocument v → Never (IsReplaced d P v) → after_replace d P v ≡ None
never_replaced d P v hd hv h = none_of (after_replace d P v) (λ e is. h e (replaced_is d P v e hd hv is))

pub removed_document : (d : Data) (P : Pointer) (m : Data) → IsRemoved d P m → IsDocument m
removed_document d P m h = h.4

-- nothing stands there, so nothing is removed
nothing_removed : (d : Data) (P : Pointer) → pointee d P ≡ None → Never (IsRemoved d P)
nothing_removed d P is e h = found_never d P is h.2 (h.0 ++ h.1 ∷ [], h.3)

-- ---- from the relation

same_other : (w v : Data) → IsDocument v → (w ≡ v → ⊥) → same w v ≡ false
same_other w v hv other = is_false (same w v) (λ h. other (same-is w v hv h))

moved_none : (P : Pointer) (o : Option Data) → after_move P o None ≡ Err InvalidFromPointer
moved_none P o = search rules

pub leaves_stepped : (d : Data) (op : Operation) (e : Data) → IsDocument d → IsWholeOp op → Leaves d op e → after_step d op ≡ Ok e
leaves_stepped d (add P v) e hd hv h = ap (or_refused InvalidPointer) (added_exact d P v e hd hv h)
leaves_stepped d (remove P) e hd hv h = ap (or_refused InvalidPointer) (removed_exact d P e hd h)
leaves_stepped d (replace P v) e hd hv h = ap (or_refused InvalidPointer) (replaced_exact d P v e hd hv h)
leaves_stepped d (move F P) e hd hv h =
    let v = h.1.0 in let m = h.1.1 in
    let hm : IsDocument m = removed_document d F m h.1.3 in
    rw (not_begins F P h.0, stands_found d F v h.1.2, removed_exact d F m hd h.1.3, added_exact m P v e hm (stands_document d F v hd h.1.2) h.1.4) refl
leaves_stepped d (copy F P) e hd hv h =
    rw (stands_found d F h.0 h.1, added_exact d P h.0 e hd (stands_document d F h.0 hd h.1) h.2) refl
leaves_stepped d (test P v) e hd hv h = rw (stands_found d P v h.0, same-refl v) (ap Ok (sym h.1))

pub refuses_stepped : (d : Data) (op : Operation) (kind : PatchErrorKind) → IsDocument d → IsWholeOp op → Refuses d op kind → after_step d op ≡ Err kind
refuses_stepped d (add P v) InvalidPointer hd hv h = ap (or_refused InvalidPointer) (never_added d P v hd hv h)
refuses_stepped d (remove P) InvalidPointer hd hv h = ap (or_refused InvalidPointer) (never_removed d P hd h)
refuses_stepped d (replace P v) InvalidPointer hd hv h = ap (or_refused InvalidPointer) (never_replaced d P v hd hv h)
refuses_stepped d (move F P) CannotMoveInsideItself hd hv h = rw (prefix_begins F P h) refl
refuses_stepped d (move F P) InvalidFromPointer hd hv h = rw (not_begins F P h.0, never_removed d F hd h.1) (moved_none P (pointee d F))
refuses_stepped d (move F P) InvalidPointer hd hv h =
    let v = h.1.0 in let m = h.1.1 in
    let hm : IsDocument m = removed_document d F m h.1.3 in
    rw (not_begins F P h.0, stands_found d F v h.1.2, removed_exact d F m hd h.1.3, never_added m P v hm (stands_document d F v hd h.1.2) h.1.4) refl
refuses_stepped d (copy F P) InvalidFromPointer hd hv h = rw (never_found d F h) refl
refuses_stepped d (copy F P) InvalidPointer hd hv h =
    rw (stands_found d F h.0 h.1, never_added d P h.0 hd (stands_document d F h.0 hd h.1) h.2) refl
refuses_stepped d (test P v) InvalidPointer hd hv h = rw (never_found d P h) refl
refuses_stepped d (test P v) TestFailed hd hv h = rw (stands_found d P h.0 h.1, same_other h.0 v hv h.2) refl
refuses_stepped d op kind hd hv h = absurd h

-- ---- to the relation

added_leaves : (d : Data) (P : Pointer) (v e : Data) → IsDocument d → IsDocument v → or_refused InvalidPointer (after_add d P v) ≡ Ok e → IsAdded d P v e
added_leaves d P v e hd hv is = added_is d P v e hd hv (or_ok InvalidPointer (after_add d P v) e is)

added_refused : (d : Data) (P : Pointer) (v : Data) (kind : PatchErrorKind) → or_refused InvalidPointer (after_add d P v) ≡ Err kind → (InvalidPointer ≡ kind) × Never (IsAdded d P v)
added_refused d P v kind is = search (rules, or_err, added_none)

module _ (d : Data) (F P : Pointer) (hd : IsDocument d) where
  move_leaves : (b : Bool) (o p : Option Data) (e : Data) → begins F P ≡ b → pointee d F ≡ o → after_remove d F ≡ p → (if b then Err CannotMoveInsideItself else after_move P o p) ≡ Ok e
      → Leaves d (move F P) e
  move_leaves false (Some v) (Some m) e b f r is =
      let s : StandsAt d F v = found_resolves d F v f in
      let g : IsRemoved d F m = removed_is d F m hd r in
      (not_prefix F P b, (v, m, s, g, added_leaves m P v e (removed_document d F m g) (stands_document d F v hd s) is))
  move_leaves b o p e h f r is = search rules

  move_refused : (b : Bool) (o p : Option Data) (kind : PatchErrorKind) → begins F P ≡ b → pointee d F ≡ o → after_remove d F ≡ p → (if b then Err CannotMoveInsideItself else after_move P o p) ≡ Err kind
      → Refuses d (move F P) kind
  move_refused true o p kind b f r is = let e : CannotMoveInsideItself ≡ kind = cc in subst (Refuses d (move F P)) e (begins_prefix F P b)
  move_refused false None p kind b f r is = search (rules, not_prefix F P b, nothing_removed d F f, not_prefix, nothing_removed)
  move_refused false (Some v) None kind b f r is =
      let e : InvalidFromPointer ≡ kind = cc in subst (Refuses d (move F P)) e (not_prefix F P b, λ m. removed_none d F m r)
  move_refused false (Some v) (Some m) kind b f r is = search (rules, found_resolves, removed_is, added_refused, not_prefix)

  copy_leaves : (o : Option Data) (e : Data) → pointee d F ≡ o → after_copy d P o ≡ Ok e → Leaves d (copy F P) e
  copy_leaves None e f is = cc
  copy_leaves (Some v) e f is =
      let s : StandsAt d F v = found_resolves d F v f in (v, s, added_leaves d P v e hd (stands_document d F v hd s) is)

  copy_refused : (o : Option Data) (kind : PatchErrorKind) → pointee d F ≡ o → after_copy d P o ≡ Err kind → Refuses d (copy F P) kind
  copy_refused None kind f is = let e : InvalidFromPointer ≡ kind = cc in subst (Refuses d (copy F P)) e (found_never d F f)
  copy_refused (Some v) kind f is = search (rules, found_resolves d F v f, added_refused d P v kind is, found_resolves, added_refused)

module _ (d : Data) (P : Pointer) (v : Data) where
  test_leaves : (b : Bool) (w e : Data) → IsDocument v → pointee d P ≡ Some w → same w v ≡ b → (if b then Ok d else Err TestFailed) ≡ Ok e → Leaves d (test P v) e
  test_leaves b w e hv f s is = search (rules, found_resolves, same-is)

  test_leaves_at : (o : Option Data) (e : Data) → IsDocument v → pointee d P ≡ o → after_test d v o ≡ Ok e → Leaves d (test P v) e
  test_leaves_at o e hv f is = search (rules, test_leaves)

  test_refused : (b : Bool) (w : Data) (kind : PatchErrorKind) → IsDocument v → pointee d P ≡ Some w → same w v ≡ b → (if b then Ok d else Err TestFailed) ≡ Err kind → Refuses d (test P v) kind
  test_refused true w kind hv f s is = cc
  test_refused false w kind hv f s is = search (rules, found_resolves d P w f, same-refl v, found_resolves, same-refl)

  test_refused_at : (o : Option Data) (kind : PatchErrorKind) → IsDocument v → pointee d P ≡ o → after_test d v o ≡ Err kind → Refuses d (test P v) kind
  test_refused_at None kind hv f is = let e : InvalidPointer ≡ kind = cc in subst (Refuses d (test P v)) e (found_never d P f)
  test_refused_at (Some w) kind hv f is = test_refused (same w v) w kind hv f refl is

pub stepped_leaves : (d : Data) (op : Operation) (e : Data) → IsDocument d → IsWholeOp op → after_step d op ≡ Ok e → Leaves d op e
stepped_leaves d op e hd hv is = search (rules, added_leaves, removed_is, or_ok, replaced_is, move_leaves, copy_leaves, test_leaves_at)

pub stepped_refuses : (d : Data) (op : Operation) (kind : PatchErrorKind) → IsDocument d → IsWholeOp op → after_step d op ≡ Err kind → Refuses d op kind
stepped_refuses d (add P v) kind hd hv is = let h = added_refused d P v kind is in subst (Refuses d (add P v)) h.0 h.1
stepped_refuses d (remove P) kind hd hv is =
    let h = or_err InvalidPointer kind (after_remove d P) is in subst (Refuses d (remove P)) h.1 (λ e. removed_none d P e h.0)
stepped_refuses d (replace P v) kind hd hv is =
    let h = or_err InvalidPointer kind (after_replace d P v) is in subst (Refuses d (replace P v)) h.1 (λ e. replaced_none d P v e h.0)
stepped_refuses d (move F P) kind hd hv is = move_refused d F P hd (begins F P) (pointee d F) (after_remove d F) kind refl refl refl is
stepped_refuses d (copy F P) kind hd hv is = copy_refused d F P hd (pointee d F) kind refl is
stepped_refuses d (test P v) kind hd hv is = test_refused_at d P v (pointee d P) kind hv refl is

pub leaves_document : (d : Data) (op : Operation) (e : Data) → IsDocument d → IsWholeOp op → Leaves d op e → IsDocument e
leaves_document d (move F P) e hd hv h = IsAdded_document h.1.1 P h.1.0 e (stands_document d F h.1.0 hd h.1.2) h.1.4
leaves_document d (copy F P) e hd hv h = IsAdded_document d P h.0 e (stands_document d F h.0 hd h.1) h.2
leaves_document d op e hd hv h = search (rules, IsAdded_document)

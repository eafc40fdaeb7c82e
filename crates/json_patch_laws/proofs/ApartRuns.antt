-- Operations that are apart commute, and lists of them.
use Rattle.json_patch_laws.proofs.Common.{arith, ◌≡◌, ◌↔◌, ℕ, ◌+◌, zero, suc, length, List, [], ◌∷◌, ◌++◌, Option, Some, None, Result, Ok, Err, refl, sym, ap, ◌∙◌, subst, rules, Bool, true, false, if◌then◌else◌, Data, IsDocument, pointee, after_add, after_remove, after_replace, Pointer, Operation, add, remove, replace, move, copy, test, IsWholeOp, AreWhole, PatchErrorKind, TestFailed, InvalidPointer, InvalidFromPointer, CannotMoveInsideItself, begins, or_refused, after_move, after_copy, after_test, after_step, same, Outcome, Leaves, fault, one_later, then_run, after_run, Accepts, RefusesAt}
use Rattle.json_patch_edit.specs.RunComputed.{Fault}
use Rattle.json_patch_apart.specs.Apart.{Diverge, reach, changed_by, read_by, DivergesFrom, AllDiverge, IsApart, IsApartFrom, AreApart}
use Rattle.json_patch_edit.proofs.Changes.{removed_is, added_exact, removed_exact, replaced_exact}
use Rattle.json_patch_edit.proofs.StepOutcomes.{leaves_document, stepped_leaves, or_ok, stands_document, removed_document}
use Rattle.json_patch_laws.proofs.Runs.{accepts_document, accepts_joined, accepts_split, accepts_ran, ran_accepts, refuses_ran, ran_refuses, refuses_second}
use Rattle.json_patch_edit.proofs.Locations.{found_document}
use Rattle.json_patch_laws.proofs.ApartChanges.{Acts, Cross, acts_cross, acts_found}
use Rattle.json_patch_laws.proofs.ApartOutcomes.{add_acts, remove_acts, replace_acts, fork, reach_begins, diverge_longer, diverges_longer}
use Rattle.json_patch_apart.proofs.Divergence.{diverge_back, diverges_nil, diverges_cons, all_back}

-- ---- the two orders of two parts of a run

-- where both are accepted, either order leads to one document; where one alone is, the other is refused after
-- it as it is without it
abbrev pub Meets : {A B : Type 0} → (Data → Result Data A) → (Data → Result Data B) → Result Data A → Result Data B → Type 0
Meets F G (Ok m) (Ok n) = (e : Data) × (G m ≡ Ok e) × (F n ≡ Ok e)
Meets F G (Ok m) (Err k) = G m ≡ Err k
Meets F G (Err j) (Ok n) = F n ≡ Err j
Meets F G (Err j) (Err k) = Unit {0}

abbrev pub Swaps : {A B : Type 0} → (Data → Result Data A) → (Data → Result Data B) → Type 0
Swaps F G = (d : Data) → IsDocument d → Meets F G (F d) (G d)

back_at : {A B : Type 0} (F : Data → Result Data A) (G : Data → Result Data B) (a : Result Data A) (b : Result Data B) → Meets F G a b → Meets G F b a
back_at F G (Ok m) (Ok n) h = (h.0, h.2, h.1)
back_at F G (Ok m) (Err k) h = h
back_at F G (Err j) (Ok n) h = h
back_at F G (Err j) (Err k) h = tt

pub swaps_back : {A B : Type 0} (F : Data → Result Data A) (G : Data → Result Data B) → Swaps F G → Swaps G F
swaps_back F G h d hd = back_at F G (F d) (G d) (h d hd)

-- this holds of E where it holds of F, which has the same outcome on d and on what G leaves of d
meets_like : {A B : Type 0} (E F : Data → Result Data A) (G : Data → Result Data B) (d : Data) (a : Result Data A) (b : Result Data B) → G d ≡ b → ((n : Data) → G d ≡ Ok n → E n ≡ F n) → Meets F G a b → Meets E G a b
meets_like E F G d (Ok m) (Ok n) gb like h = (h.0, h.1, like n gb ∙ h.2)
meets_like E F G d (Ok m) (Err k) gb like h = h
meets_like E F G d (Err j) (Ok n) gb like h = like n gb ∙ h
meets_like E F G d (Err j) (Err k) gb like h = tt

pub like_at : {A B : Type 0} (E F : Data → Result Data A) (G : Data → Result Data B) (d : Data) → E d ≡ F d → ((n : Data) → G d ≡ Ok n → E n ≡ F n) → Meets F G (F d) (G d) → Meets E G (E d) (G d)
like_at E F G d here like h = meets_like E F G d (E d) (G d) refl like (subst (λ a. Meets F G a (G d)) (sym here) h)

refused_meets : {A B : Type 0} (k : A) (G : Data → Result Data B) (b : Result Data B) → Meets (λ x. Err k) G (Err k) b
refused_meets k G (Ok n) = refl
refused_meets k G (Err j) = tt

idle_meets : (A : Type 0) {B : Type 0} (d : Data) (G : Data → Result Data B) (b : Result Data B) → G d ≡ b → Meets {A = A} (λ x. Ok x) G (Ok d) b
idle_meets A d G (Ok n) is = (n, is, refl)
idle_meets A d G (Err j) is = is

-- E on what the first part left; a refusal of the first part is passed on by f
abbrev pub chain : {A C : Type 0} → (A → C) → Result Data A → (Data → Result Data C) → Result Data C
chain f (Ok m) E = E m
chain f (Err k) E = Err (f k)

module _ {A B C : Type 0} (f : A → C) (F : Data → Result Data A) (E : Data → Result Data C) (G : Data → Result Data B) (d : Data) where
  chained : (a : Result Data A) (b : Result Data B) → F d ≡ a → G d ≡ b → Meets F G a b → ((m : Data) → F d ≡ Ok m → Meets E G (E m) (G m)) → Meets (λ x. chain f (F x) E) G (chain f a E) b
  chained (Err k) (Ok n) fa gb h more = rw h refl
  chained (Err k) (Err j) fa gb h more = tt
  chained (Ok m) (Ok n) fa gb h more =
      end (E m) (subst (Meets E G (E m)) h.1 (more m fa))
    where
      end : (c : Result Data C) → Meets E G c (Ok h.0) → Meets (λ x. chain f (F x) E) G c (Ok n)
      end (Ok z) g = (g.0, g.1, ap (λ a. chain f a E) h.2 ∙ g.2)
      end (Err k) g = ap (λ a. chain f a E) h.2 ∙ g
  chained (Ok m) (Err j) fa gb h more =
      end (E m) (subst (Meets E G (E m)) h (more m fa))
    where
      end : (c : Result Data C) → Meets E G c (Err j) → Meets (λ x. chain f (F x) E) G c (Err j)
      end (Ok z) g = g
      end (Err k) g = tt

  pub chain_meets : Meets F G (F d) (G d) → ((m : Data) → F d ≡ Ok m → Meets E G (E m) (G m)) → Meets (λ x. chain f (F x) E) G (chain f (F d) E) (G d)
  chain_meets h more = chained (F d) (G d) refl refl h more

-- ---- changes

abbrev pub tries : PatchErrorKind → (Data → Option Data) → Data → Result Data PatchErrorKind
tries kind C d = or_refused kind (C d)

cross_meets : (j k : PatchErrorKind) (C D : Data → Option Data) (a b : Option Data) → Cross C D a b → Meets (tries j C) (tries k D) (or_refused j a) (or_refused k b)
cross_meets j k C D (Some m) (Some n) h = (h.0, ap (or_refused k) h.1, ap (or_refused j) h.2)
cross_meets j k C D (Some m) None h = ap (or_refused k) h
cross_meets j k C D None (Some n) h = ap (or_refused j) h
cross_meets j k C D None None h = tt

changes_swap : (j k : PatchErrorKind) (C D : Data → Option Data) (P Q : Pointer) → Acts C P → Acts D Q → Diverge P Q → Swaps (tries j C) (tries k D)
changes_swap j k C D P Q c e h d hd = cross_meets j k C D (C d) (D d) (acts_cross C D P Q c e (fork P Q h) d hd)

-- ---- what an operation needs of what is to commute with it

-- what G leaves has at P what was there
abbrev Stays : {B : Type 0} → (Data → Result Data B) → Pointer → Type 0
Stays G P = (d n : Data) → IsDocument d → G d ≡ Ok n → pointee n P ≡ pointee d P

abbrev adds : Pointer → Data → Data → Result Data PatchErrorKind
adds P v d = or_refused InvalidPointer (after_add d P v)

abbrev removes : PatchErrorKind → Pointer → Data → Result Data PatchErrorKind
removes kind P d = or_refused kind (after_remove d P)

abbrev replaces : Pointer → Data → Data → Result Data PatchErrorKind
replaces P v d = or_refused InvalidPointer (after_replace d P v)

abbrev Clears : {B : Type 0} → (Data → Result Data B) → Operation → Type 0
Clears G (add P v) = Swaps (adds P v) G
Clears G (remove P) = Swaps (removes InvalidPointer P) G
Clears G (replace P v) = Swaps (replaces P v) G
Clears G (move F P) = Stays G F × Swaps (removes InvalidFromPointer F) G × ((v : Data) → IsDocument v → Swaps (adds P v) G)
Clears G (copy F P) = Stays G F × ((v : Data) → IsDocument v → Swaps (adds P v) G)
Clears G (test P v) = Stays G P

module _ {B : Type 0} (G : Data → Result Data B) (d : Data) (hd : IsDocument d) where
  moved_none : (P : Pointer) (o : Option Data) → after_move P None o ≡ Err InvalidFromPointer
  moved_none P o = search rules

  moved_chain : (P : Pointer) (v : Data) (o : Option Data) → after_move P (Some v) o ≡ chain (λ k. k) (or_refused InvalidFromPointer o) (adds P v)
  moved_chain P v o = search rules

  copied : (P : Pointer) (o : Option Data) → ((v : Data) → o ≡ Some v → Swaps (adds P v) G) → Meets (λ x. after_copy x P o) G (after_copy d P o) (G d)
  copied P None more = refused_meets InvalidFromPointer G (G d)
  copied P (Some v) more = more v refl d hd

  tested : (b : Bool) → Meets (λ x. if b then Ok x else Err TestFailed) G (if b then Ok d else Err TestFailed) (G d)
  tested true = idle_meets PatchErrorKind d G (G d) refl
  tested false = refused_meets TestFailed G (G d)

  test_meets : (v : Data) (o : Option Data) → Meets (λ x. after_test x v o) G (after_test d v o) (G d)
  test_meets v None = refused_meets InvalidPointer G (G d)
  test_meets v (Some w) = tested (same w v)

  move_meets : (F P : Pointer) (o : Option Data) → Swaps (removes InvalidFromPointer F) G → ((v : Data) → o ≡ Some v → Swaps (adds P v) G) → Meets (λ x. after_move P o (after_remove x F)) G (after_move P o (after_remove d F)) (G d)
  move_meets F P None out more =
      like_at (λ x. after_move P None (after_remove x F)) (λ x. Err InvalidFromPointer) G d (moved_none P (after_remove d F)) (λ n is. moved_none P (after_remove n F))
      (refused_meets InvalidFromPointer G (G d))
  move_meets F P (Some v) out more =
      like_at (λ x. after_move P (Some v) (after_remove x F)) (λ x. chain (λ k. k) (removes InvalidFromPointer F x) (adds P v)) G d (moved_chain P v (after_remove d F)) (λ n is. moved_chain P v (after_remove n F))
      (chain_meets (λ k. k) (removes InvalidFromPointer F) (adds P v) G d (out d hd) (λ m is. more v refl m (left m is)))
    where
      left : (m : Data) → removes InvalidFromPointer F d ≡ Ok m → IsDocument m
      left m is = (removed_is d F m hd (or_ok InvalidFromPointer (after_remove d F) m is)).4

  guarded : (b : Bool) (E : Data → Result Data PatchErrorKind) → Meets E G (E d) (G d) → Meets (λ x. if b then Err CannotMoveInsideItself else E x) G (if b then Err CannotMoveInsideItself else E d) (G d)
  guarded true E h = refused_meets CannotMoveInsideItself G (G d)
  guarded false E h = h

  pub op_meets : (op : Operation) → Clears G op → Meets (λ x. after_step x op) G (after_step d op) (G d)
  op_meets (add P v) h = h d hd
  op_meets (remove P) h = h d hd
  op_meets (replace P v) h = h d hd
  op_meets (move F P) h =
      guarded (begins F P) (λ x. after_move P (pointee x F) (after_remove x F))
      (like_at (λ x. after_move P (pointee x F) (after_remove x F)) (λ x. after_move P (pointee d F) (after_remove x F)) G d refl (λ n is. ap (λ o. after_move P o (after_remove n F)) (h.0 d n hd is))
      (move_meets F P (pointee d F) h.1 (λ v at. h.2 v (found_document d F v hd at))))
  op_meets (copy F P) h =
      like_at (λ x. after_copy x P (pointee x F)) (λ x. after_copy x P (pointee d F)) G d refl (λ n is. ap (after_copy n P) (h.0 d n hd is))
      (copied P (pointee d F) (λ v at. h.1 v (found_document d F v hd at)))
  op_meets (test P v) h =
      like_at (λ x. after_test x v (pointee x P)) (λ x. after_test x v (pointee d P)) G d refl (λ n is. ap (after_test n v) (h d n hd is))
      (test_meets v (pointee d P))

pub op_swaps : {B : Type 0} (G : Data → Result Data B) (op : Operation) → Clears G op → Swaps (λ x. after_step x op) G
op_swaps G op h d hd = op_meets G d hd op h

-- ---- a change and an operation

change_stays : (kind : PatchErrorKind) (C : Data → Option Data) (P Q : Pointer) → Acts C P → Diverge P Q → Stays (tries kind C) Q
change_stays kind C P Q c h d n hd is = acts_found C P Q c (fork P Q h) d n hd (or_ok kind (C d) n is)

change_clears : (kind : PatchErrorKind) (C : Data → Option Data) (P : Pointer) (op : Operation) → Acts C P → IsWholeOp op → DivergesFrom P (changed_by op) → DivergesFrom P (read_by op) → Clears (tries kind C) op
change_clears kind C P (add Q v) c hv h g = changes_swap InvalidPointer kind (λ d. after_add d Q v) C (reach Q) P (add_acts Q v hv) c (diverge_back P (reach Q) h.0)
change_clears kind C P (remove Q) c hv h g = changes_swap InvalidPointer kind (λ d. after_remove d Q) C (reach Q) P (remove_acts Q) c (diverge_back P (reach Q) h.0)
change_clears kind C P (replace Q v) c hv h g = changes_swap InvalidPointer kind (λ d. after_replace d Q v) C Q P (replace_acts Q v hv) c (diverge_back P Q h.0)
change_clears kind C P (move F Q) c hv h g = (
  change_stays kind C P F c (diverge_back F P (diverge_longer (reach F) F P (reach_begins F) (diverge_back P (reach F) h.0))),
  changes_swap InvalidFromPointer kind (λ d. after_remove d F) C (reach F) P (remove_acts F) c (diverge_back P (reach F) h.0),
  λ v hw. changes_swap InvalidPointer kind (λ d. after_add d Q v) C (reach Q) P (add_acts Q v hw) c (diverge_back P (reach Q) h.1.0),
)
change_clears kind C P (copy F Q) c hv h g = (
  change_stays kind C P F c g.0,
  λ v hw. changes_swap InvalidPointer kind (λ d. after_add d Q v) C (reach Q) P (add_acts Q v hw) c (diverge_back P (reach Q) h.0),
)
change_clears kind C P (test Q v) c hv h g = change_stays kind C P Q c g.0

pub change_swaps : (kind : PatchErrorKind) (C : Data → Option Data) (P : Pointer) (op : Operation) → Acts C P → IsWholeOp op → DivergesFrom P (changed_by op) → DivergesFrom P (read_by op) → Swaps (tries kind C) (λ d. after_step d op)
change_swaps kind C P op c hv h g = swaps_back (λ d. after_step d op) (tries kind C) (op_swaps (tries kind C) op (change_clears kind C P op c hv h g))

-- ---- two operations

-- an operation leaves what stands where it changes nothing
op_stays : (op : Operation) (Q : Pointer) → IsWholeOp op → AllDiverge (changed_by op) (Q ∷ []) → Stays (λ d. after_step d op) Q
op_stays op Q hv h d n hd is = by_case op hv h (stepped_leaves d op n hd hv is)
  where
    by_case : (op : Operation) → IsWholeOp op → AllDiverge (changed_by op) (Q ∷ []) → Leaves d op n → pointee n Q ≡ pointee d Q
    by_case (add P v) hv h l = acts_found (λ x. after_add x P v) (reach P) Q (add_acts P v hv) (fork (reach P) Q h.0.0) d n hd (added_exact d P v n hd hv l)
    by_case (remove P) hv h l = acts_found (λ x. after_remove x P) (reach P) Q (remove_acts P) (fork (reach P) Q h.0.0) d n hd (removed_exact d P n hd l)
    by_case (replace P v) hv h l = acts_found (λ x. after_replace x P v) P Q (replace_acts P v hv) (fork P Q h.0.0) d n hd (replaced_exact d P v n hd hv l)
    by_case (move F P) hv h l =
        let v = l.1.0 in let m = l.1.1 in
        let hm : IsDocument m = removed_document d F m l.1.3 in
        let hw : IsDocument v = stands_document d F v hd l.1.2 in
        acts_found (λ x. after_add x P v) (reach P) Q (add_acts P v hw) (fork (reach P) Q h.1.0.0) m n hm (added_exact m P v n hm hw l.1.4)
        ∙ acts_found (λ x. after_remove x F) (reach F) Q (remove_acts F) (fork (reach F) Q h.0.0) d m hd (removed_exact d F m hd l.1.3)
    by_case (copy F P) hv h l =
        let hw : IsDocument l.0 = stands_document d F l.0 hd l.1 in
        acts_found (λ x. after_add x P l.0) (reach P) Q (add_acts P l.0 hw) (fork (reach P) Q h.0.0) d n hd (added_exact d P l.0 n hd hw l.2)
    by_case (test P v) hv h l = ap (λ x. pointee x Q) l.1

op_clears : (x y : Operation) → IsWholeOp x → IsWholeOp y → IsApart x y → Clears (λ d. after_step d y) x
op_clears (add P v) y hx hy a = change_swaps InvalidPointer (λ d. after_add d P v) (reach P) y (add_acts P v hx) hy a.changes.0 a.first.0
op_clears (remove P) y hx hy a = change_swaps InvalidPointer (λ d. after_remove d P) (reach P) y (remove_acts P) hy a.changes.0 a.first.0
op_clears (replace P v) y hx hy a = change_swaps InvalidPointer (λ d. after_replace d P v) P y (replace_acts P v hx) hy a.changes.0 a.first.0
op_clears (move F P) y hx hy a = (
  op_stays y F hy (diverges_cons F (changed_by y) [] (diverges_longer (reach F) F (changed_by y) (reach_begins F) a.changes.0) (diverges_nil (changed_by y))),
  change_swaps InvalidFromPointer (λ d. after_remove d F) (reach F) y (remove_acts F) hy a.changes.0 a.first.0,
  λ v hw. change_swaps InvalidPointer (λ d. after_add d P v) (reach P) y (add_acts P v hw) hy a.changes.1.0 a.first.1.0,
)
op_clears (copy F P) y hx hy a = (
  op_stays y F hy a.second,
  λ v hw. change_swaps InvalidPointer (λ d. after_add d P v) (reach P) y (add_acts P v hw) hy a.changes.0 a.first.0,
)
op_clears (test P v) y hx hy a = op_stays y P hy a.second

pub ops_swap : (x y : Operation) → IsWholeOp x → IsWholeOp y → IsApart x y → Swaps (λ d. after_step d x) (λ d. after_step d y)
ops_swap x y hx hy a = op_swaps (λ d. after_step d y) x (op_clears x y hx hy a)

-- ---- lists

abbrev Each : {B : Type 0} → (Data → Result Data B) → List Operation → Type 0
Each G [] = Unit {0}
Each G (x ∷ xs) = Swaps (λ d. after_step d x) G × Each G xs

later_meets : {B : Type 0} (R : Data → Outcome) (G : Data → Result Data B) (a : Outcome) (b : Result Data B) → Meets R G a b → Meets (λ x. one_later (R x)) G (one_later a) b
later_meets R G (Ok m) (Ok n) h = (h.0, h.1, ap one_later h.2)
later_meets R G (Ok m) (Err k) h = h
later_meets R G (Err (fault i kind)) (Ok n) h = ap one_later h
later_meets R G (Err (fault i kind)) (Err k) h = tt

then_chained : (r : Result Data PatchErrorKind) (rest : Data → Outcome) → then_run r rest ≡ chain (λ kind. fault zero kind) r (λ m. one_later (rest m))
then_chained (Ok m) rest = refl
then_chained (Err kind) rest = refl

run_swaps : {B : Type 0} (G : Data → Result Data B) (xs : List Operation) → AreWhole xs → Each G xs → Swaps (λ d. after_run d xs) G
run_swaps G [] hv each d hd = idle_meets Fault d G (G d) refl
run_swaps G (x ∷ xs) hv each d hd =
    like_at (λ z. after_run z (x ∷ xs)) (λ z. chain (λ kind. fault zero kind) (after_step z x) (λ m. one_later (after_run m xs))) G d
    (then_chained (after_step d x) (λ m. after_run m xs)) (λ n is. then_chained (after_step n x) (λ m. after_run m xs))
    (chain_meets (λ kind. fault zero kind) (λ z. after_step z x) (λ m. one_later (after_run m xs)) G d (each.0 d hd)
    (λ m is. later_meets (λ z. after_run z xs) G (after_run m xs) (G m) (run_swaps G xs hv.1 each.1 m (leaves_document d x m hd hv.0 (stepped_leaves d x m hd hv.0 is)))))

each_from : (x : Operation) (ys : List Operation) → IsWholeOp x → AreWhole ys → IsApartFrom x ys → Each (λ d. after_step d x) ys
each_from x [] hx hy a = tt
each_from x (y ∷ ys) hx hy a = (swaps_back (λ d. after_step d x) (λ d. after_step d y) (ops_swap x y hx hy.0 a.0), each_from x ys hx hy.1 a.1)

each_apart : (xs ys : List Operation) → AreWhole xs → AreWhole ys → AreApart xs ys → Each (λ d. after_run d ys) xs
each_apart [] ys hx hy a = tt
each_apart (x ∷ xs) ys hx hy a = (
  swaps_back (λ d. after_run d ys) (λ d. after_step d x) (run_swaps (λ d. after_step d x) ys hy (each_from x ys hx.0 hy a.0)),
  each_apart xs ys hx.1 hy a.1,
)

pub runs_swap : (xs ys : List Operation) → AreWhole xs → AreWhole ys → AreApart xs ys → Swaps (λ d. after_run d xs) (λ d. after_run d ys)
runs_swap xs ys hx hy a = run_swaps (λ d. after_run d ys) xs hx (each_apart xs ys hx hy a)

pub not_both_ends : (e : Data) (f : Fault) → ◌≡◌ {A = Outcome} (Ok e) (Err f) → ⊥
not_both_ends e f h = cc

-- a joined list that is refused in its second part
refused_split : (d : Data) (xs ys : List Operation) (j : ℕ) (kind : PatchErrorKind) → RefusesAt d (xs ++ ys) (length xs + j) kind → (m : Data) × Accepts d xs m × RefusesAt m ys j kind
refused_split d [] ys j kind h = let e : length {A = Operation} [] + j ≡ j = omega arith in (d, refl, subst (λ k. RefusesAt d ys k kind) e h)
refused_split d (x ∷ xs) ys j kind h =
    let e : length (x ∷ xs) + j ≡ suc (length xs + j) = omega arith in
    let g : RefusesAt d (x ∷ (xs ++ ys)) (suc (length xs + j)) kind = subst (λ k. RefusesAt d (x ∷ (xs ++ ys)) k kind) e h in
    let more : (m : Data) × Accepts g.0 xs m × RefusesAt m ys j kind = refused_split g.0 xs ys j kind g.2 in
    (more.0, (g.0, g.1, more.1), more.2)

-- ---- the laws

module _ (d : Data) (xs ys : List Operation) (hd : IsDocument d) (hx : AreWhole xs) (hy : AreWhole ys) (a : AreApart xs ys) where
  meet : (o p : Outcome) → after_run d xs ≡ o → after_run d ys ≡ p → Meets (λ z. after_run z xs) (λ z. after_run z ys) o p
  meet o p is at = subst (λ o. Meets (λ z. after_run z xs) (λ z. after_run z ys) o p) is (subst (Meets (λ z. after_run z xs) (λ z. after_run z ys) (after_run d xs)) at (runs_swap xs ys hx hy a d hd))

  -- where both are accepted on the document, each is on what the other leaves, and they lead to one end
  pub both_ways : (m n : Data) → Accepts d xs m → Accepts d ys n → (e : Data) × Accepts m ys e × Accepts n xs e
  both_ways m n h g =
      let c : (e : Data) × (after_run m ys ≡ Ok e) × (after_run n xs ≡ Ok e) = meet (Ok m) (Ok n) (accepts_ran d xs m hd hx h) (accepts_ran d ys n hd hy g) in
      (c.0, ran_accepts m ys c.0 (accepts_document d xs m hd hx h) hy c.1, ran_accepts n xs c.0 (accepts_document d ys n hd hy g) hx c.2)

  -- a list that is accepted after the other is accepted without it
  pub alone : (m e : Data) → Accepts d xs m → Accepts m ys e → (n : Data) × Accepts d ys n × Accepts n xs e
  alone m e h g = on (after_run d ys) refl
    where
      on : (p : Outcome) → after_run d ys ≡ p → (n : Data) × Accepts d ys n × Accepts n xs e
      on (Ok n) at =
          let hn : Accepts d ys n = ran_accepts d ys n hd hy at in
          let c : (e : Data) × Accepts m ys e × Accepts n xs e = both_ways m n h hn in
          let hm : IsDocument m = accepts_document d xs m hd hx h in
          let one : after_run m ys ≡ Ok c.0 = accepts_ran m ys c.0 hm hy c.1 in
          let two : after_run m ys ≡ Ok e = accepts_ran m ys e hm hy g in
          let same : c.0 ≡ e = cc in (n, hn, subst (Accepts n xs) same c.2)
      on (Err k) at =
          let no : after_run m ys ≡ Err k = meet (Ok m) (Err k) (accepts_ran d xs m hd hx h) at in
          let yes : after_run m ys ≡ Ok e = accepts_ran m ys e (accepts_document d xs m hd hx h) hy g in cc

  pub swapped : (e : Data) → Accepts d (xs ++ ys) e → Accepts d (ys ++ xs) e
  swapped e h =
      let s : (m : Data) × Accepts d xs m × Accepts m ys e = accepts_split d xs ys e h in
      let n : (n : Data) × Accepts d ys n × Accepts n xs e = alone s.0 e s.1 s.2 in
      accepts_joined d ys xs n.0 e n.1 n.2

  -- the joined list is accepted exactly where each is
  pub each_alone : (e : Data) → Accepts d (xs ++ ys) e ↔ ((m n : Data) × Accepts d xs m × Accepts d ys n × Accepts m ys e)
  each_alone e = (
    (λ h.
        (let s : (m : Data) × Accepts d xs m × Accepts m ys e = accepts_split d xs ys e h in
        let n : (n : Data) × Accepts d ys n × Accepts n xs e = alone s.0 e s.1 s.2 in (s.0, n.0, s.1, n.1, s.2))),
    λ h. accepts_joined d xs ys h.0 e h.2 h.4,
  )

  -- after the other list is accepted, a list is refused where and as it is without it
  pub refused_still : (m : Data) (k : ℕ) (kind : PatchErrorKind) → Accepts d xs m → RefusesAt d ys k kind → RefusesAt m ys k kind
  refused_still m k kind h g =
      ran_refuses m ys k kind (accepts_document d xs m hd hx h) hy (meet (Ok m) (Err (fault k kind)) (accepts_ran d xs m hd hx h) (refuses_ran d ys k kind hd hy g))

  pub refused_before : (m : Data) (k : ℕ) (kind : PatchErrorKind) → Accepts d xs m → RefusesAt m ys k kind → RefusesAt d ys k kind
  refused_before m k kind h g = on (after_run d ys) refl
    where
      gone : after_run m ys ≡ Err (fault k kind)
      gone = refuses_ran m ys k kind (accepts_document d xs m hd hx h) hy g

      on : (p : Outcome) → after_run d ys ≡ p → RefusesAt d ys k kind
      on (Ok n) at =
          let c : (e : Data) × (after_run m ys ≡ Ok e) × (after_run n xs ≡ Ok e) = meet (Ok m) (Ok n) (accepts_ran d xs m hd hx h) at in
          absurd (not_both_ends c.0 (fault k kind) (sym c.1 ∙ gone))
      on (Err f) at =
          let other : after_run m ys ≡ Err f = meet (Ok m) (Err f) (accepts_ran d xs m hd hx h) at in
          let this : after_run m ys ≡ Err (fault k kind) = gone in
          let same : f ≡ fault k kind = cc in ran_refuses d ys k kind hd hy (at ∙ ap Err same)

  pub refused_alike : (m : Data) (k : ℕ) (kind : PatchErrorKind) → Accepts d xs m → RefusesAt d ys k kind ↔ RefusesAt m ys k kind
  refused_alike m k kind h = (refused_still m k kind h, refused_before m k kind h)

  -- the joined list is refused at an operation of the second exactly where that is refused on the document itself
  pub refused_joined : (m : Data) (k : ℕ) (kind : PatchErrorKind) → Accepts d xs m → RefusesAt d (xs ++ ys) (length xs + k) kind ↔ RefusesAt d ys k kind
  refused_joined m k kind h = (
    (λ g. (let s : (m : Data) × Accepts d xs m × RefusesAt m ys k kind = refused_split d xs ys k kind g in refused_before s.0 k kind s.1 s.2)),
    λ g. refuses_second d xs ys m k kind h (refused_still m k kind h g),
  )

-- ---- apart is so both ways

pub apart_back : (x y : Operation) → IsApart x y → IsApart y x
apart_back x y h = record { changes = all_back (changed_by x) (changed_by y) h.changes; first = h.second; second = h.first }

from_nil : (ys : List Operation) → AreApart ys []
from_nil [] = tt
from_nil (y ∷ ys) = (tt, from_nil ys)

from_cons : (x : Operation) (ys xs : List Operation) → IsApartFrom x ys → AreApart ys xs → AreApart ys (x ∷ xs)
from_cons x [] xs h g = tt
from_cons x (y ∷ ys) xs h g = ((apart_back x y h.0, g.0), from_cons x ys xs h.1 g.1)

pub lists_back : (xs ys : List Operation) → AreApart xs ys → AreApart ys xs
lists_back [] ys h = from_nil ys
lists_back (x ∷ xs) ys h = from_cons x ys xs h.0 (lists_back xs ys h.1)

module _ (d : Data) (xs ys : List Operation) (hd : IsDocument d) (hx : AreWhole xs) (hy : AreWhole ys) (a : AreApart xs ys) where
  pub accepted_alike : (e : Data) → Accepts d (xs ++ ys) e ↔ Accepts d (ys ++ xs) e
  accepted_alike e = (swapped d xs ys hd hx hy a e, swapped d ys xs hd hy hx (lists_back xs ys a) e)

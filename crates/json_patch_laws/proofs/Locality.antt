-- What stands below the shared tokens, and how it changes.
use Rattle.json_patch_laws.proofs.Common.{common_steps, ◌≡◌, ⊎_elim, ℕ, List, [], ◌∷◌, ◌++◌, append_assoc, length, drop}
use Rattle.json_patch_laws.proofs.Common.{Bool, if◌then◌else◌, Option, Some, None, option_map, option_and_then, Result, Ok}
use Rattle.json_patch_laws.proofs.Common.{Err, refl, sym, ap, ◌∙◌, subst, rules, arith, option_and_then_some}
use Rattle.json_patch_laws.proofs.Common.{bytes_eq-Decides, Data, Pointer, IsProperPrefix, IsDocument, Segment, child}
use Rattle.json_patch_laws.proofs.Common.{Resolves, Operation, remove, replace, move, IsWholeOp, AreWhole, PatchErrorKind}
use Rattle.json_patch_laws.proofs.Common.{TestFailed, InvalidPointer, CannotMoveInsideItself, segment_of, set_child, pointee}
use Rattle.json_patch_laws.proofs.Common.{after_change, after_add, after_remove, after_replace, front_of, last_of, put_in}
use Rattle.json_patch_laws.proofs.Common.{take_from, begins, or_refused, after_move, after_copy, after_test, after_step}
use Rattle.json_patch_laws.proofs.Common.{Outcome, fault, one_later, then_run, after_run, strip, strip_all, ◌↔◌, StandsAt}
use Rattle.json_patch_laws.proofs.Common.{IsReplaced, Leaves, Refuses, Accepts, RefusesAt, ap₂, map-append, add, undo_in}
use Rattle.json_patch_laws.proofs.Common.{undo_add, with_found, with_left, block, inverse, extend, extend_all, IsWithin}
use Rattle.json_patch_laws.proofs.Common.{AreWithin, IsInverse}
use Rattle.json_patch_edit.proofs.Changes.{added_is, IsAdded_document, removed_is, replaced_is, replaced_exact}
use Rattle.json_patch_document.proofs.Members.{child_document, child_set, child_set_other, sight_set, set_document, step_cases}
use Rattle.json_patch_edit.proofs.Locations.{option_map_some, split_whole, found_resolves, names_step}
use Rattle.json_patch_edit.proofs.Alterations.{altered_some}
use Rattle.json_patch_edit.proofs.StepOutcomes.{altered_walks, leaves_document, stepped_leaves, stands_found}
use Rattle.json_patch_edit.proofs.StepOutcomes.{stands_document, leaves_stepped, refuses_stepped, stepped_refuses}
use Rattle.json_patch_laws.proofs.Runs.{accepts_ran, ran_accepts, refuses_ran, ran_refuses, accepts_document}
use Rattle.json_patch_document.proofs.Children.{one_level, step_of_set}
use Rattle.json_patch_edit.proofs.Alterations.{altered_append}
use Rattle.json_patch_edit.proofs.Locations.{found_append}
use Rattle.json_patch_edit.proofs.BlocksLeadBack.{added_at, removed_at}
use Rattle.json_patch_edit.proofs.Locations.{found_document}
use Rattle.json_patch_laws.proofs.Blocks.{inverse_is, inverse_only, inverse_accepted}
use Rattle.json_patch_laws.proofs.Parents.{undo_add_in}

-- ---- one part replaced, and again

set_set : (s : Segment) (d c b a : Data) → IsDocument d → IsDocument b → IsDocument a → child s d ≡ Some c → set_child s a (set_child s b d) ≡ set_child s a d
set_set s d c b a hd hb ha is =
    let h : IsDocument (set_child s b d) = set_document s d b hd hb in
    one_level (set_child s a (set_child s b d)) (set_child s a d) (set_document s (set_child s b d) a h ha) (set_document s d a hd ha)
    (sight_set s (set_child s b d) a ∙ sight_set s d b ∙ sym (sight_set s d a))
    (λ r. ⊎_elim (λ (same : r ≡ s). rw same (child_set s (set_child s b d) b a (child_set s d c b is) ∙ sym (child_set s d c a is)))
    (λ (other : r ≡ s → ⊥). child_set_other r s (set_child s b d) a other ∙ child_set_other r s d b other ∙ sym (child_set_other r s d a other)) (step_cases r s))

set_same : (s : Segment) (d c : Data) → IsDocument d → child s d ≡ Some c → set_child s c d ≡ d
set_same s d c hd is =
    one_level (set_child s c d) d (set_document s d c hd (child_document s d c hd is)) hd (sight_set s d c)
    (λ r. ⊎_elim (λ (same : r ≡ s). rw same (child_set s d c c is ∙ sym is)) (λ (other : r ≡ s → ⊥). child_set_other r s d c other) (step_cases r s))

pub replaced_itself : (d : Data) (S : Pointer) (b : Data) → IsDocument d → pointee d S ≡ Some b → after_replace d S b ≡ Some d
replaced_itself d [] b hd is = sym is
replaced_itself d (t ∷ S) b hd is =
    option_and_then_some _ (segment_of d t) b is (λ s named more.
    option_and_then_some _ (child s d) b more (λ c stands rest.
    rw (named, stands, replaced_itself c S b (child_document s d c hd stands) rest) (ap Some (set_same s d c hd stands))))

pub replaced_document : (d : Data) (S : Pointer) (e x : Data) → IsDocument d → IsDocument e → after_replace d S e ≡ Some x → IsDocument x
replaced_document d S e x hd he is = (replaced_is d S e x hd he is).3

over_map : (s : Segment) (d c b : Data) (o : Option Data) → IsDocument d → IsDocument b → child s d ≡ Some c → ((a : Data) → o ≡ Some a → IsDocument a)
    → option_map (λ e. set_child s e (set_child s b d)) o ≡ option_map (λ e. set_child s e d) o
over_map s d c b o hd hb is h = search (rules, set_set)

pub record Replaces (d : Data) (S : Pointer) (e x : Data) : Type 0 where
  pub found_there : pointee x S ≡ Some e
  pub document : IsDocument x
  pub again : (f : Data) → IsDocument f → after_replace x S f ≡ after_replace d S f

pub replaces : (d : Data) (S : Pointer) (e x : Data) → IsDocument d → IsDocument e → after_replace d S e ≡ Some x → Replaces d S e x
replaces d [] e x hd he is =
    let same : e ≡ x = cc in record { found_there = ap Some (sym same); document = subst IsDocument same he; again = λ f hf. refl }
replaces d (t ∷ S) e x hd he is =
    option_and_then_some _ (segment_of d t) x is (λ s named more.
    option_and_then_some _ (child s d) x more (λ c stands rest.
    option_map_some _ (after_replace c S e) x rest (λ b inner whole.
    subst (Replaces d (t ∷ S) e) whole (step s c b named stands (replaces c S e b (child_document s d c hd stands) he inner)))))
  where
    step : (s : Segment) (c b : Data) → segment_of d t ≡ Some s → child s d ≡ Some c → Replaces c S e b → Replaces d (t ∷ S) e (set_child s b d)
    step s c b named stands r =
        let n : segment_of (set_child s b d) t ≡ Some s = step_of_set s d b t ∙ named in
        let w : child s (set_child s b d) ≡ Some b = child_set s d c b stands in
        record {
          found_there = rw (n, w) r.found_there;
          document = set_document s d b hd r.document;
          again = λ f hf. rw (n, w, named, stands, r.again f hf)
              (over_map s d c b (after_replace c S f) hd r.document stands (λ a at. replaced_document c S f a (child_document s d c hd stands) hf at));
        }

-- ---- changes below a pointer

begins_under : (S F P : Pointer) → begins (S ++ F) (S ++ P) ≡ begins F P
begins_under [] F P = refl
begins_under (t ∷ S) F P = rw ((bytes_eq-Decides t t).1 refl) (begins_under S F P)

-- what f, changing b, does to d, where b stands at S
unfoldable pub over : Data → Pointer → Option Data → Option Data
over d S o = option_and_then (λ e. after_replace d S e) o

altered_under : (f : Data → Option Data) (d : Data) (S P : Pointer) (b : Data) → pointee d S ≡ Some b → after_change f d (S ++ P) ≡ over d S (after_change f b P)
unfolding over
altered_under f d S P b at = search (rules, altered_append, altered_walks, option_and_then)

pub added_under : (d : Data) (S : Pointer) (t : List ℕ) (P : Pointer) (v b : Data) → pointee d S ≡ Some b → after_add d (S ++ t ∷ P) v ≡ over d S (after_add b (t ∷ P) v)
added_under d S t P v b at =
    ap (λ Q. after_add d Q v) (ap (λ Q. S ++ Q) (split_whole t P) ∙ sym (append_assoc S (front_of t P) (last_of t P ∷ []))) ∙ added_at d (S ++ front_of t P) (last_of t P) v
    ∙ altered_under (put_in v (last_of t P)) d S (front_of t P) b at

pub removed_under : (d : Data) (S : Pointer) (t : List ℕ) (P : Pointer) (b : Data) → pointee d S ≡ Some b → after_remove d (S ++ t ∷ P) ≡ over d S (after_remove b (t ∷ P))
removed_under d S t P b at =
    ap (after_remove d) (ap (λ Q. S ++ Q) (split_whole t P) ∙ sym (append_assoc S (front_of t P) (last_of t P ∷ []))) ∙ removed_at d (S ++ front_of t P) (last_of t P)
    ∙ altered_under (take_from (last_of t P)) d S (front_of t P) b at

pub found_under : (d : Data) (S P : Pointer) (b : Data) → pointee d S ≡ Some b → pointee d (S ++ P) ≡ pointee b P
found_under d S P b at = found_append d S P ∙ ap (option_and_then (λ p. pointee p P)) at

-- ---- a pointer that begins with S, and its rest

pub drop-append : (T Q : Pointer) → drop (length T) (T ++ Q) ≡ Q
drop-append T Q = grind (arith, common_steps)

pub with_one : (S : Pointer) (R : Pointer → Pointer → Type 0) → ((t : List ℕ) (P : Pointer) → R (S ++ t ∷ P) (t ∷ P)) → (P : Pointer) → IsProperPrefix S P → R P (drop (length S) P)
with_one S R core P h = search (rules, drop-append)

pub with_two : (S : Pointer) (R : Pointer → Pointer → Pointer → Pointer → Type 0) → ((t : List ℕ) (F : Pointer) (u : List ℕ) (P : Pointer) → R (S ++ t ∷ F) (t ∷ F) (S ++ u ∷ P) (u ∷ P))
    → (F P : Pointer) → IsProperPrefix S F → IsProperPrefix S P → R F (drop (length S) F) P (drop (length S) P)
with_two S R core F P g h = grind (arith, common_steps, with_one)

-- ---- one step

-- the outcome for d of an outcome for the document at S
unfoldable pub lifted : Data → Pointer → Result Data PatchErrorKind → Result Data PatchErrorKind
lifted d S (Ok e) = or_refused InvalidPointer (after_replace d S e)
lifted d S (Err kind) = Err kind

lifted_or : (d : Data) (S : Pointer) (o : Option Data) → or_refused InvalidPointer (over d S o) ≡ lifted d S (or_refused InvalidPointer o)
unfolding over lifted
lifted_or d S o = search rules

module _ (d : Data) (S : Pointer) (b : Data) (hd : IsDocument d) (at : pointee d S ≡ Some b) where
  part_document : IsDocument b
  part_document = found_document d S b hd at

  pub some_replaced : (e : Data) → (x : Data) × (after_replace d S e ≡ Some x)
  some_replaced e = let h : (L : List Segment) × Resolves d S L b = found_resolves d S b at in altered_some (λ c. Some e) d S h.0 b e h.1 refl

  test_under : (t : Bool) → (if t then Ok d else Err TestFailed) ≡ lifted d S (if t then Ok b else Err TestFailed)
  unfolding lifted
  test_under t = search (rules, replaced_itself)

  tested_under : (v : Data) (o : Option Data) → after_test d v o ≡ lifted d S (after_test b v o)
  unfolding lifted
  tested_under v o = search (rules, test_under)

  copied_under : (t : List ℕ) (P : Pointer) (o : Option Data) → after_copy d (S ++ t ∷ P) o ≡ lifted d S (after_copy b (t ∷ P) o)
  unfolding lifted
  copied_under t P o = search (rules, added_under, lifted_or)

  -- what the part becomes when the value is put into what was left of it
  again_under : (m x : Data) (o : Option Data) → IsDocument m → after_replace d S m ≡ Some x → ((e : Data) → o ≡ Some e → IsDocument e) → over x S o ≡ over d S o
  unfolding over
  again_under m x None hm is h = refl
  again_under m x (Some e) hm is h = (replaces d S m x hd hm is).again e (h e refl)

  moved_under : (t : List ℕ) (P : Pointer) (o p : Option Data) → ((v : Data) → o ≡ Some v → IsDocument v) → ((m : Data) → p ≡ Some m → IsDocument m)
      → after_move (S ++ t ∷ P) o (over d S p) ≡ lifted d S (after_move (t ∷ P) o p)
  unfolding over lifted
  moved_under t P (Some v) (Some m) ho hp = search (rules, some_replaced m, replaces d S m, added_under, again_under m, IsAdded_document m (t ∷ P) v, added_is m (t ∷ P) v, lifted_or d S (after_add m (t ∷ P) v), some_replaced, replaces, again_under, IsAdded_document, added_is, lifted_or)
  moved_under t P o p ho hp = search rules

  on_test : (c : Bool) (X Y : Result Data PatchErrorKind) → X ≡ lifted d S Y → (if c then Err CannotMoveInsideItself else X) ≡ lifted d S (if c then Err CannotMoveInsideItself else Y)
  unfolding lifted
  on_test c X Y h = search rules

  move_under : (t : List ℕ) (F : Pointer) (u : List ℕ) (P : Pointer) → after_step d (move (S ++ t ∷ F) (S ++ u ∷ P)) ≡ lifted d S (after_step b (move (t ∷ F) (u ∷ P)))
  move_under t F u P =
      rw (begins_under S (t ∷ F) (u ∷ P), found_under d S (t ∷ F) b at, removed_under d S t F b at)
      (on_test (begins (t ∷ F) (u ∷ P)) (after_move (S ++ u ∷ P) (pointee b (t ∷ F)) (over d S (after_remove b (t ∷ F)))) (after_move (u ∷ P) (pointee b (t ∷ F)) (after_remove b (t ∷ F)))
      (moved_under u P (pointee b (t ∷ F)) (after_remove b (t ∷ F)) (λ v is. found_document b (t ∷ F) v part_document is) (λ m is. (removed_is b (t ∷ F) m part_document is).4)))

  pub stepped_under : (op : Operation) → IsWithin S op → after_step d op ≡ lifted d S (after_step b (strip S op))
  stepped_under (remove P) h =
      with_one S (λ Q R. after_step d (remove Q) ≡ lifted d S (after_step b (remove R))) (λ t Q. ap (or_refused InvalidPointer) (removed_under d S t Q b at) ∙ lifted_or d S (after_remove b (t ∷ Q))) P h
  stepped_under (replace P v) h =
      with_one S (λ Q R. after_step d (replace Q v) ≡ lifted d S (after_step b (replace R v)))
      (λ t Q. ap (or_refused InvalidPointer) (altered_under (λ c. Some v) d S (t ∷ Q) b at) ∙ lifted_or d S (after_replace b (t ∷ Q) v)) P h
  stepped_under op h = search (rules, with_one, added_under, lifted_or, with_two, move_under, common_steps, found_under, copied_under, tested_under)

-- ---- runs

pub all_whole_stripped : (S : Pointer) (ops : List Operation) → AreWhole ops → AreWhole (strip_all S ops)
all_whole_stripped S [] h = tt
all_whole_stripped S (op ∷ ops) h = ((search rules), all_whole_stripped S ops h.1)

-- the run on d, by that on the document at S
unfoldable pub RunsUnder : Data → Pointer → List Operation → Outcome → Type 0
RunsUnder d S ops (Ok e) = IsDocument e × ((x : Data) × (after_replace d S e ≡ Some x) × (after_run d ops ≡ Ok x))
RunsUnder d S ops (Err f) = after_run d ops ≡ Err f

counted_under : (d : Data) (S : Pointer) (b : Data) (op : Operation) (ops : List Operation) (m x : Data) (o : Outcome) → IsDocument d → IsDocument m → after_replace d S m ≡ Some x → after_step d op ≡ Ok x
    → RunsUnder x S ops o → RunsUnder d S (op ∷ ops) (one_later o)
unfolding RunsUnder
counted_under d S b op ops m x (Ok e) hd hm is step h = search (rules, replaces d S m x hd hm is, replaces)
counted_under d S b op ops m x (Err (fault k kind)) hd hm is step h = rw (step, h) refl

on_step : (d : Data) (S : Pointer) (b : Data) (op : Operation) (ops : List Operation) (r : Result Data PatchErrorKind) → IsDocument d → IsWholeOp op → pointee d S ≡ Some b → IsWithin S op → after_step b (strip S op) ≡ r
    → ((x m : Data) → IsDocument x → pointee x S ≡ Some m → RunsUnder x S ops (after_run m (strip_all S ops))) → RunsUnder d S (op ∷ ops) (then_run r (λ m. after_run m (strip_all S ops)))
unfolding RunsUnder lifted
on_step d S b op ops (Ok m) hd hv at within is more =
    let hb : IsDocument b = found_document d S b hd at in
    let hs : IsWholeOp (strip S op) = (search rules) in
    let hm : IsDocument m = leaves_document b (strip S op) m hb hs (stepped_leaves b (strip S op) m hb hs is) in
    let x : (x : Data) × (after_replace d S m ≡ Some x) = some_replaced d S b hd at m in
    let r : Replaces d S m x.0 = replaces d S m x.0 hd hm x.1 in
    let step : after_step d op ≡ Ok x.0 = stepped_under d S b hd at op within ∙ ap (lifted d S) is ∙ ap (or_refused InvalidPointer) x.1 in
    counted_under d S b op ops m x.0 (after_run m (strip_all S ops)) hd hm x.1 step (more x.0 m r.document r.found_there)
on_step d S b op ops (Err kind) hd hv at within is more = search (rules, stepped_under d S b hd at op within, stepped_under)

pub ran_under : (d : Data) (S : Pointer) (b : Data) (ops : List Operation) → IsDocument d → AreWhole ops → pointee d S ≡ Some b → AreWithin S ops → RunsUnder d S ops (after_run b (strip_all S ops))
unfolding RunsUnder
ran_under d S b [] hd hv at within = (found_document d S b hd at, (d, replaced_itself d S b hd at, refl))
ran_under d S b (op ∷ ops) hd hv at within =
    on_step d S b op ops (after_step b (strip S op)) hd hv.0 at within.0 refl (λ x m hx here. ran_under x S m ops hx hv.1 here within.1)

-- ---- one step, in the words of the definitions

module _ (d : Data) (S : Pointer) (b : Data) (op : Operation) (hd : IsDocument d) (hv : IsWholeOp op) (at : StandsAt d S b) (within : IsWithin S op) where
  pub local_leaves : (e : Data) → Leaves b (strip S op) e → (x : Data) × IsReplaced d S e x × Leaves d op x
  unfolding lifted
  local_leaves e h =
      let hb : IsDocument b = stands_document d S b hd at in
      let hs : IsWholeOp (strip S op) = (search rules) in
      let f : pointee d S ≡ Some b = stands_found d S b at in
      let x : (x : Data) × (after_replace d S e ≡ Some x) = some_replaced d S b hd f e in
      let step : after_step d op ≡ Ok x.0 = stepped_under d S b hd f op within ∙ ap (lifted d S) (leaves_stepped b (strip S op) e hb hs h) ∙ ap (or_refused InvalidPointer) x.1 in
      (x.0, replaced_is d S e x.0 hd (leaves_document b (strip S op) e hb hs h) x.1, stepped_leaves d op x.0 hd hv step)

  pub local_refuses : (kind : PatchErrorKind) → Refuses b (strip S op) kind → Refuses d op kind
  unfolding lifted
  local_refuses kind h =
      let hb : IsDocument b = stands_document d S b hd at in
      let hs : IsWholeOp (strip S op) = (search rules) in
      let step : after_step d op ≡ Err kind = stepped_under d S b hd (stands_found d S b at) op within ∙ ap (lifted d S) (refuses_stepped b (strip S op) kind hb hs h) in
      stepped_refuses d op kind hd hv step

-- ---- runs

module _ (d : Data) (S : Pointer) (b : Data) (ops : List Operation) (hd : IsDocument d) (hv : AreWhole ops) (at : StandsAt d S b) (within : AreWithin S ops) where
  there : IsDocument b
  there = stands_document d S b hd at

  whole : AreWhole (strip_all S ops)
  whole = all_whole_stripped S ops hv

  under : (o : Outcome) → after_run b (strip_all S ops) ≡ o → RunsUnder d S ops o
  under o is = subst (RunsUnder d S ops) is (ran_under d S b ops hd hv (stands_found d S b at) within)

  to : (o : Outcome) (x : Data) → after_run b (strip_all S ops) ≡ o → RunsUnder d S ops o → Accepts d ops x → (e : Data) × Accepts b (strip_all S ops) e × IsReplaced d S e x
  unfolding RunsUnder
  to o x is u h = search (rules, accepts_ran, ran_accepts, there, whole, replaced_is)

  from : (e x : Data) → RunsUnder d S ops (Ok e) → IsReplaced d S e x → Accepts d ops x
  unfolding RunsUnder
  from e x u h = search (rules, replaced_exact d S e x hd u.0 h, ran_accepts d ops x hd hv, replaced_exact, ran_accepts)

  pub runs_alike : (x : Data) → Accepts d ops x ↔ ((e : Data) × Accepts b (strip_all S ops) e × IsReplaced d S e x)
  runs_alike x = (
    λ h. to (after_run b (strip_all S ops)) x refl (under (after_run b (strip_all S ops)) refl) h,
    λ h. from h.0 x (under (Ok h.0) (accepts_ran b (strip_all S ops) h.0 there whole h.1)) h.2,
  )

  refused_to : (o : Outcome) (k : ℕ) (kind : PatchErrorKind) → after_run b (strip_all S ops) ≡ o → RunsUnder d S ops o → RefusesAt d ops k kind → RefusesAt b (strip_all S ops) k kind
  unfolding RunsUnder
  refused_to o k kind is u h = search (rules, refuses_ran, ran_refuses, there, whole)

  refused_from : (k : ℕ) (kind : PatchErrorKind) → RunsUnder d S ops (Err (fault k kind)) → RefusesAt d ops k kind
  unfolding RunsUnder
  refused_from k kind u = ran_refuses d ops k kind hd hv u

  pub refused_alike : (k : ℕ) (kind : PatchErrorKind) → RefusesAt d ops k kind ↔ RefusesAt b (strip_all S ops) k kind
  refused_alike k kind = search (rules, refused_to, under, refused_from, refuses_ran, there, whole)

-- ---- the location stays

resolves_replaced : (d : Data) (S : Pointer) (L : List Segment) (b e x : Data) → Resolves d S L b → after_replace d S e ≡ Some x → Resolves x S L e
resolves_replaced d (t ∷ S) (s ∷ L) b e x h is =
    let i : (y : Data) × (after_replace h.0 S e ≡ Some y) = altered_some (λ c. Some e) h.0 S L b e h.3 refl in
    let w : after_replace d (t ∷ S) e ≡ Some (set_child s i.0 d) = rw (names_step d t s h.1, h.2, i.1) refl in
    let same : set_child s i.0 d ≡ x = cc in
    subst (λ z. Resolves z (t ∷ S) (s ∷ L) e) same
    (i.0, (search rules), child_set s d h.0 i.0 h.2, resolves_replaced h.0 S L b e i.0 h.3 i.1)
resolves_replaced d S L b e x h is = search rules

-- in every state of the run S resolves to the same location
pub location_stays : (d : Data) (S : Pointer) (L : List Segment) (b : Data) (ops : List Operation) (x : Data) → IsDocument d → AreWhole ops → Resolves d S L b → AreWithin S ops → Accepts d ops x
    → (c : Data) × Resolves x S L c
location_stays d S L b ops x hd hv h within acc =
    let g : (e : Data) × Accepts b (strip_all S ops) e × IsReplaced d S e x = (runs_alike d S b ops hd hv (L, h) within x).0 acc in
    let he : IsDocument g.0 = accepts_document b (strip_all S ops) g.0 (stands_document d S b hd (L, h)) (all_whole_stripped S ops hv) g.1 in
    (g.0, resolves_replaced d S L b g.0 x h (replaced_exact d S g.0 x hd he g.2))

-- ---- what undoes an add

with_under : {X : Type 0} (S : Pointer) (o : Option X) (f g : X → List Operation) → ((w : X) → o ≡ Some w → f w ≡ extend_all S (g w)) → with_found o f ≡ extend_all S (with_found o g)
with_under S o f g h = search rules

module _ (d : Data) (S : Pointer) (b : Data) (at : pointee d S ≡ Some b) where
  in_under : (F : Pointer) (t : List ℕ) (P : Pointer) (o : Option Data) → undo_in d (S ++ F) t (S ++ P) o ≡ extend S (undo_in b F t P o)
  in_under F t P o = search (rules, append_assoc, found_under)

  undo_under : (t : List ℕ) (P : Pointer) → undo_add d (S ++ t ∷ P) ≡ extend S (undo_add b (t ∷ P))
  undo_under t P =
      undo_add_in d (S ++ t ∷ P) (S ++ front_of t P) (last_of t P) (ap (λ Q. S ++ Q) (split_whole t P) ∙ sym (append_assoc S (front_of t P) (last_of t P ∷ [])))
      ∙ ap (undo_in d (S ++ front_of t P) (last_of t P) (S ++ t ∷ P)) (found_under d S (front_of t P) b at) ∙ in_under (front_of t P) (last_of t P) (t ∷ P) (pointee b (front_of t P))

-- ---- blocks

module _ (d : Data) (S : Pointer) (b : Data) (hd : IsDocument d) (at : pointee d S ≡ Some b) where
  move_block_under : (t : List ℕ) (F : Pointer) (u : List ℕ) (P : Pointer) → block d (move (S ++ t ∷ F) (S ++ u ∷ P)) ≡ extend_all S (block b (move (t ∷ F) (u ∷ P)))
  unfolding over
  move_block_under t F u P =
      rw (found_under d S (t ∷ F) b at, removed_under d S t F b at)
      (with_under S (pointee b (t ∷ F)) _ _ (λ v stood. left v (after_remove b (t ∷ F)) refl))
    where
      left : (v : Data) (o : Option Data) → after_remove b (t ∷ F) ≡ o
          → with_found (over d S o) (λ m. undo_add m (S ++ u ∷ P) ∷ add (S ++ t ∷ F) v ∷ []) ≡ extend_all S (with_found o (λ m. undo_add m (u ∷ P) ∷ add (t ∷ F) v ∷ []))
      left v None is = refl
      left v (Some m) is =
          let hm : IsDocument m = (removed_is b (t ∷ F) m (found_document d S b hd at) is).4 in
          let x : (x : Data) × (after_replace d S m ≡ Some x) = some_replaced d S b hd at m in
          rw x.1 (ap (λ o. o ∷ add (S ++ t ∷ F) v ∷ []) (undo_under x.0 S m (replaces d S m x.0 hd hm x.1).found_there u P))

  pub block_under : (op : Operation) → IsWithin S op → block d op ≡ extend_all S (block b (strip S op))
  block_under op h = grind (arith, common_steps, with_one, undo_under, found_under, with_under, with_two, move_block_under)

-- ---- lists

inverse_under : (d : Data) (S : Pointer) (b : Data) (ops : List Operation) → IsDocument d → AreWhole ops → pointee d S ≡ Some b → AreWithin S ops → inverse d ops ≡ extend_all S (inverse b (strip_all S ops))
unfolding lifted
inverse_under d S b [] hd hv at within = refl
inverse_under d S b (op ∷ ops) hd hv at within =
    ap₂ (λ I B. I ++ B)
    (ap (λ r. with_left r (λ m. inverse m ops)) (stepped_under d S b hd at op within.0) ∙ later (λ x m hx here. inverse_under x S m ops hx hv.1 here within.1) (after_step b (strip S op)) refl)
    (block_under d S b hd at op within.0)
    ∙ sym (map-append (extend S) (with_left (after_step b (strip S op)) (λ m. inverse m (strip_all S ops))) (block b (strip S op)))
  where
    later : ((x m : Data) → IsDocument x → pointee x S ≡ Some m → inverse x ops ≡ extend_all S (inverse m (strip_all S ops))) → (r : Result Data PatchErrorKind) → after_step b (strip S op) ≡ r
        → with_left (lifted d S r) (λ m. inverse m ops) ≡ extend_all S (with_left r (λ m. inverse m (strip_all S ops)))
    later more (Ok m) is =
        let hb : IsDocument b = found_document d S b hd at in
        let hs : IsWholeOp (strip S op) = (search rules) in
        let hm : IsDocument m = leaves_document b (strip S op) m hb hs (stepped_leaves b (strip S op) m hb hs is) in
        let x : (x : Data) × (after_replace d S m ≡ Some x) = some_replaced d S b hd at m in
        let r : Replaces d S m x.0 = replaces d S m x.0 hd hm x.1 in
        rw x.1 (more x.0 m r.document r.found_there)
    later more (Err kind) is = refl

pub inverses_alike : (d : Data) (S : Pointer) (b : Data) (ops : List Operation) → IsDocument d → AreWhole ops → StandsAt d S b → AreWithin S ops → (I : List Operation)
    → IsInverse d ops I ↔ ((J : List Operation) × IsInverse b (strip_all S ops) J × (I ≡ extend_all S J))
inverses_alike d S b ops hd hv at within I = (
  λ h.
      (let e : (e : Data) × Accepts d ops e = inverse_accepted d ops I h in
      let f = (runs_alike d S b ops hd hv at within e.0).0 e.1 in
      (inverse b (strip_all S ops), inverse_is b (strip_all S ops) f.0 hb hs f.1, inverse_only d ops I hd hv h ∙ same)),
  λ h.
      (let f : (e : Data) × Accepts b (strip_all S ops) e = inverse_accepted b (strip_all S ops) h.0 h.1 in
      let x = local_end f.0 f.1 in
      subst (IsInverse d ops) (same ∙ ap (extend_all S) (sym (inverse_only b (strip_all S ops) h.0 hb hs h.1)) ∙ sym h.2) (inverse_is d ops x.0 hd hv x.1)),
)
  where
    hb : IsDocument b
    hb = stands_document d S b hd at

    hs : AreWhole (strip_all S ops)
    hs = all_whole_stripped S ops hv

    same : inverse d ops ≡ extend_all S (inverse b (strip_all S ops))
    same = inverse_under d S b ops hd hv (stands_found d S b at) within

    local_end : (e : Data) → Accepts b (strip_all S ops) e → (x : Data) × Accepts d ops x
    local_end e h =
        let x : (x : Data) × (after_replace d S e ≡ Some x) = some_replaced d S b hd (stands_found d S b at) e in
        (x.0, (runs_alike d S b ops hd hv at within x.0).1 (e, h, replaced_is d S e x.0 hd (accepts_document b (strip_all S ops) e hb hs h) x.1))

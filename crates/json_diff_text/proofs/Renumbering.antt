-- What operations leave of a document with other numbers is what they leave, with other numbers: none but a `test` compares any.
use Rattle.std.proofs.Common.{◌≡◌, ℕ, zero, suc, List, [], ◌∷◌, Bool, true, false, Option, Some, None, option_map, option_and_then, Result, Ok, Err, Ordering, Less, Equal, Greater, if◌then◌else◌, map, refl, sym, ap, ap₂, ◌∙◌, subst}
use Rattle.std.specs.Ordering.{nat_cmp, match_ordering}
use Rattle.std.specs.Cmp.Lexicographic.{slice_cmp}
use Rattle.serde_json.specs.Data.{Num, Data, null, boolean, number, string, array, object, Items, no_items, item, Members, no_members, member, put}
use Rattle.serde_json.specs.Events.{items_len}
use Rattle.serde_json.specs.Find.{get_member, get_item}
use Rattle.jsonptr.specs.Text.{Pointer}
use Rattle.json_patch_document.specs.ChangeComputed.{insert_item, remove_item, set_item, without, segment_of, set_child, drop_child, slot_in, slot_of, put_in, take_from, pointee, after_change, front_of, last_of, after_add, after_remove, after_replace}
use Rattle.json_patch_document.specs.Document.{IsDocument, AreDocuments, AreMembers, IsBelowMembers, IsWhole, Segment, key, place, child}
use Rattle.json_patch_edit.specs.RunComputed.{begins, or_refused, after_move, after_copy, after_test, after_step}
use Rattle.json_patch_document.specs.Resolve.{StandsAt}
use Rattle.json_patch_document.specs.SameComputed.{same}
use Rattle.json_patch_document.proofs.SameDocuments.{same-refl, same-is}
use Rattle.json_patch_edit.proofs.StepOutcomes.{leaves_stepped, stepped_leaves, leaves_document, stands_found}
use Rattle.json_patch_edit.proofs.Locations.{found_resolves}
use Rattle.json_patch_edit.specs.Step.{Leaves}
use Rattle.json_patch_laws.specs.Inverse.{ArePlain, IsPlain, NamesNoNext}
use Rattle.json_patch_laws.specs.Run.{Accepts}
use Rattle.json_patch_operation.specs.Operation.{Operation, add, remove, replace, move, copy, test, IsWholeOp, AreWhole}
use Rattle.json_patch_operation.specs.declared.error.PatchErrorKind.{PatchErrorKind}
use Rattle.json_patch_operation.specs.declared.error.PatchErrorKind.TheVariants.{TestFailed, InvalidPointer, CannotMoveInsideItself}
use Rattle.json_diff_text.specs.Renumbered.{renumbered, renumbered_items, renumbered_members, renumbered_op}

-- ---- members

ordered : (f : Num → Num) (o : Ordering) (a b c : Members) → renumbered_members f (match_ordering o a b c) ≡ match_ordering o (renumbered_members f a) (renumbered_members f b) (renumbered_members f c)
ordered f Less a b c = refl
ordered f Equal a b c = refl
ordered f Greater a b c = refl

pub put_is : (f : Num → Num) (k : List ℕ) (d : Data) (ms : Members) → renumbered_members f (put k d ms) ≡ put k (renumbered f d) (renumbered_members f ms)
put_is f k d no_members = refl
put_is f k d (member l e ms) =
    ordered f (slice_cmp nat_cmp k l) (member k d (member l e ms)) (member l d ms) (member l e (put k d ms))
    ∙ ap (λ ns. match_ordering (slice_cmp nat_cmp k l) (renumbered_members f (member k d (member l e ms))) (renumbered_members f (member l d ms)) (member l (renumbered f e) ns)) (put_is f k d ms)

without_is : (f : Num → Num) (k : List ℕ) (ms : Members) → renumbered_members f (without k ms) ≡ without k (renumbered_members f ms)
without_is f k no_members = refl
without_is f k (member l e ms) =
    ordered f (slice_cmp nat_cmp k l) (member l e (without k ms)) ms (member l e (without k ms))
    ∙ ap (λ ns. match_ordering (slice_cmp nat_cmp k l) (member l (renumbered f e) ns) (renumbered_members f ms) (member l (renumbered f e) ns)) (without_is f k ms)

chosen : (f : Num → Num) (o : Ordering) (a b c : Option Data) → option_map (renumbered f) (match_ordering o a b c) ≡ match_ordering o (option_map (renumbered f) a) (option_map (renumbered f) b) (option_map (renumbered f) c)
chosen f Less a b c = refl
chosen f Equal a b c = refl
chosen f Greater a b c = refl

pub member_is : (f : Num → Num) (k : List ℕ) (ms : Members) → get_member k (renumbered_members f ms) ≡ option_map (renumbered f) (get_member k ms)
member_is f k no_members = refl
member_is f k (member l e ms) =
    ap (λ o. match_ordering (slice_cmp nat_cmp k l) o (Some (renumbered f e)) o) (member_is f k ms)
    ∙ sym (chosen f (slice_cmp nat_cmp k l) (get_member k ms) (Some e) (get_member k ms))

-- ---- items

item_is : (f : Num → Num) (i : ℕ) (ds : Items) → get_item i (renumbered_items f ds) ≡ option_map (renumbered f) (get_item i ds)
item_is f i no_items = refl
item_is f zero (item d ds) = refl
item_is f (suc i) (item d ds) = item_is f i ds

insert_is : (f : Num → Num) (i : ℕ) (v : Data) (ds : Items) → renumbered_items f (insert_item i v ds) ≡ insert_item i (renumbered f v) (renumbered_items f ds)
insert_is f i v no_items = refl
insert_is f zero v (item d ds) = refl
insert_is f (suc i) v (item d ds) = ap (item (renumbered f d)) (insert_is f i v ds)

remove_is : (f : Num → Num) (i : ℕ) (ds : Items) → renumbered_items f (remove_item i ds) ≡ remove_item i (renumbered_items f ds)
remove_is f i no_items = refl
remove_is f zero (item d ds) = refl
remove_is f (suc i) (item d ds) = ap (item (renumbered f d)) (remove_is f i ds)

set_is : (f : Num → Num) (i : ℕ) (v : Data) (ds : Items) → renumbered_items f (set_item i v ds) ≡ set_item i (renumbered f v) (renumbered_items f ds)
set_is f i v no_items = refl
set_is f zero v (item d ds) = refl
set_is f (suc i) v (item d ds) = ap (item (renumbered f d)) (set_is f i v ds)

len_is : (f : Num → Num) (ds : Items) → items_len (renumbered_items f ds) ≡ items_len ds
len_is f no_items = refl
len_is f (item d ds) = ap suc (len_is f ds)

-- ---- at a step

segment_is : (f : Num → Num) (d : Data) (t : List ℕ) → segment_of (renumbered f d) t ≡ segment_of d t
segment_is f null t = refl
segment_is f (boolean b) t = refl
segment_is f (number n) t = refl
segment_is f (string s) t = refl
segment_is f (array ds) t = refl
segment_is f (object ms) t = refl

pub child_is : (f : Num → Num) (s : Segment) (d : Data) → child s (renumbered f d) ≡ option_map (renumbered f) (child s d)
child_is f (key k) (object ms) = member_is f k ms
child_is f (key k) null = refl
child_is f (key k) (boolean b) = refl
child_is f (key k) (number n) = refl
child_is f (key k) (string s) = refl
child_is f (key k) (array ds) = refl
child_is f (place i) (array ds) = item_is f i ds
child_is f (place i) null = refl
child_is f (place i) (boolean b) = refl
child_is f (place i) (number n) = refl
child_is f (place i) (string s) = refl
child_is f (place i) (object ms) = refl

set_child_is : (f : Num → Num) (s : Segment) (v d : Data) → set_child s (renumbered f v) (renumbered f d) ≡ renumbered f (set_child s v d)
set_child_is f (key k) v (object ms) = ap object (sym (put_is f k v ms))
set_child_is f (key k) v null = refl
set_child_is f (key k) v (boolean b) = refl
set_child_is f (key k) v (number n) = refl
set_child_is f (key k) v (string s) = refl
set_child_is f (key k) v (array ds) = refl
set_child_is f (place i) v (array ds) = ap array (sym (set_is f i v ds))
set_child_is f (place i) v null = refl
set_child_is f (place i) v (boolean b) = refl
set_child_is f (place i) v (number n) = refl
set_child_is f (place i) v (string s) = refl
set_child_is f (place i) v (object ms) = refl

drop_child_is : (f : Num → Num) (s : Segment) (d : Data) → drop_child s (renumbered f d) ≡ renumbered f (drop_child s d)
drop_child_is f (key k) (object ms) = ap object (sym (without_is f k ms))
drop_child_is f (key k) null = refl
drop_child_is f (key k) (boolean b) = refl
drop_child_is f (key k) (number n) = refl
drop_child_is f (key k) (string s) = refl
drop_child_is f (key k) (array ds) = refl
drop_child_is f (place i) (array ds) = ap array (sym (remove_is f i ds))
drop_child_is f (place i) null = refl
drop_child_is f (place i) (boolean b) = refl
drop_child_is f (place i) (number n) = refl
drop_child_is f (place i) (string s) = refl
drop_child_is f (place i) (object ms) = refl

-- ---- options

through : (f : Num → Num) {A : Type 0} (F G : A → Option Data) (o : Option A) → ((a : A) → F a ≡ option_map (renumbered f) (G a)) → option_and_then F o ≡ option_map (renumbered f) (option_and_then G o)
through f F G None h = refl
through f F G (Some a) h = h a

pub over : (f : Num → Num) (F G : Data → Option Data) (o : Option Data) → ((c : Data) → F (renumbered f c) ≡ option_map (renumbered f) (G c)) → option_and_then F (option_map (renumbered f) o) ≡ option_map (renumbered f) (option_and_then G o)
over f F G None h = refl
over f F G (Some c) h = h c

mapped : (f : Num → Num) (F G : Data → Data) (o : Option Data) → ((c : Data) → F (renumbered f c) ≡ renumbered f (G c)) → option_map F (option_map (renumbered f) o) ≡ option_map (renumbered f) (option_map G o)
mapped f F G None h = refl
mapped f F G (Some c) h = ap Some (h c)

placed : (f : Num → Num) {A : Type 0} (F G : A → Data) (o : Option A) → ((a : A) → F a ≡ renumbered f (G a)) → option_map F o ≡ option_map (renumbered f) (option_map G o)
placed f F G None h = refl
placed f F G (Some a) h = ap Some (h a)

-- ---- at a pointer

pub pointee_is : (f : Num → Num) (d : Data) (P : Pointer) → pointee (renumbered f d) P ≡ option_map (renumbered f) (pointee d P)
pointee_is f d [] = refl
pointee_is f d (t ∷ P) =
    ap (option_and_then (λ s. option_and_then (λ c. pointee c P) (child s (renumbered f d)))) (segment_is f d t)
    ∙ through f (λ s. option_and_then (λ c. pointee c P) (child s (renumbered f d))) (λ s. option_and_then (λ c. pointee c P) (child s d)) (segment_of d t)
    (λ s. ap (option_and_then (λ c. pointee c P)) (child_is f s d) ∙ over f (λ c. pointee c P) (λ c. pointee c P) (child s d) (λ c. pointee_is f c P))

changed_is : (f : Num → Num) (F G : Data → Option Data) → ((c : Data) → F (renumbered f c) ≡ option_map (renumbered f) (G c)) → (d : Data) (P : Pointer) → after_change F (renumbered f d) P ≡ option_map (renumbered f) (after_change G d P)
changed_is f F G h d [] = h d
changed_is f F G h d (t ∷ P) =
    ap (option_and_then (λ s. option_and_then (λ c. option_map (λ e. set_child s e (renumbered f d)) (after_change F c P)) (child s (renumbered f d)))) (segment_is f d t)
    ∙ through f (λ s. option_and_then (λ c. option_map (λ e. set_child s e (renumbered f d)) (after_change F c P)) (child s (renumbered f d))) (λ s. option_and_then (λ c. option_map (λ e. set_child s e d) (after_change G c P)) (child s d)) (segment_of d t)
    (λ s. ap (option_and_then (λ c. option_map (λ e. set_child s e (renumbered f d)) (after_change F c P))) (child_is f s d)
    ∙ over f (λ c. option_map (λ e. set_child s e (renumbered f d)) (after_change F c P)) (λ c. option_map (λ e. set_child s e d) (after_change G c P)) (child s d)
    (λ c. ap (option_map (λ e. set_child s e (renumbered f d))) (changed_is f F G h c P)
    ∙ mapped f (λ e. set_child s e (renumbered f d)) (λ e. set_child s e d) (after_change G c P) (λ e. set_child_is f s e d)))

put_in_is : (f : Num → Num) (v : Data) (t : List ℕ) (d : Data) → put_in (renumbered f v) t (renumbered f d) ≡ option_map (renumbered f) (put_in v t d)
put_in_is f v t null = refl
put_in_is f v t (boolean b) = refl
put_in_is f v t (number n) = refl
put_in_is f v t (string s) = refl
put_in_is f v t (array ds) =
    ap (λ n. option_map (λ i. array (insert_item i (renumbered f v) (renumbered_items f ds))) (slot_in t n)) (len_is f ds)
    ∙ placed f (λ i. array (insert_item i (renumbered f v) (renumbered_items f ds))) (λ i. array (insert_item i v ds)) (slot_of t ds) (λ i. ap array (sym (insert_is f i v ds)))
put_in_is f v t (object ms) = ap (λ ns. Some (object ns)) (sym (put_is f t v ms))

take_from_is : (f : Num → Num) (t : List ℕ) (d : Data) → take_from t (renumbered f d) ≡ option_map (renumbered f) (take_from t d)
take_from_is f t d =
    ap (option_and_then (λ s. option_map (λ c. drop_child s (renumbered f d)) (child s (renumbered f d)))) (segment_is f d t)
    ∙ through f (λ s. option_map (λ c. drop_child s (renumbered f d)) (child s (renumbered f d))) (λ s. option_map (λ c. drop_child s d) (child s d)) (segment_of d t)
    (λ s. ap (option_map (λ c. drop_child s (renumbered f d))) (child_is f s d) ∙ mapped f (λ c. drop_child s (renumbered f d)) (λ c. drop_child s d) (child s d) (λ c. drop_child_is f s d))

pub add_is : (f : Num → Num) (d : Data) (P : Pointer) (v : Data) → after_add (renumbered f d) P (renumbered f v) ≡ option_map (renumbered f) (after_add d P v)
add_is f d [] v = refl
add_is f d (t ∷ P) v = changed_is f (put_in (renumbered f v) (last_of t P)) (put_in v (last_of t P)) (put_in_is f v (last_of t P)) d (front_of t P)

pub removed_is : (f : Num → Num) (d : Data) (P : Pointer) → after_remove (renumbered f d) P ≡ option_map (renumbered f) (after_remove d P)
removed_is f d [] = refl
removed_is f d (t ∷ P) = changed_is f (take_from (last_of t P)) (take_from (last_of t P)) (take_from_is f (last_of t P)) d (front_of t P)

pub replaced_is : (f : Num → Num) (d : Data) (P : Pointer) (v : Data) → after_replace (renumbered f d) P (renumbered f v) ≡ option_map (renumbered f) (after_replace d P v)
replaced_is f d P v = changed_is f (λ c. Some (renumbered f v)) (λ c. Some v) (λ c. refl) d P

-- ---- an operation

abbrev pub renumbered_end : (Num → Num) → Result Data PatchErrorKind → Result Data PatchErrorKind
renumbered_end f (Ok d) = Ok (renumbered f d)
renumbered_end f (Err kind) = Err kind

refused_is : (f : Num → Num) (kind : PatchErrorKind) (o u : Option Data) → u ≡ option_map (renumbered f) o → or_refused kind u ≡ renumbered_end f (or_refused kind o)
refused_is f kind None u e = ap (or_refused kind) e
refused_is f kind (Some d) u e = ap (or_refused kind) e

moved_is : (f : Num → Num) (P : Pointer) (o p : Option Data) → after_move P (option_map (renumbered f) o) (option_map (renumbered f) p) ≡ renumbered_end f (after_move P o p)
moved_is f P (Some v) (Some m) = refused_is f InvalidPointer (after_add m P v) _ (add_is f m P v)
moved_is f P (Some v) None = refl
moved_is f P None (Some m) = refl
moved_is f P None None = refl

move_is : (f : Num → Num) (P : Pointer) (b : Bool) (o p u v : Option Data) → u ≡ option_map (renumbered f) o → v ≡ option_map (renumbered f) p
    → (if b then Err CannotMoveInsideItself else after_move P u v) ≡ renumbered_end f (if b then Err CannotMoveInsideItself else after_move P o p)
move_is f P true o p u v e g = refl
move_is f P false o p u v e g = ap₂ (after_move P) e g ∙ moved_is f P o p

copy_is : (f : Num → Num) (d : Data) (P : Pointer) (o u : Option Data) → u ≡ option_map (renumbered f) o → after_copy (renumbered f d) P u ≡ renumbered_end f (after_copy d P o)
copy_is f d P None u e = ap (after_copy (renumbered f d) P) e
copy_is f d P (Some v) u e = ap (after_copy (renumbered f d) P) e ∙ refused_is f InvalidPointer (after_add d P v) _ (add_is f d P v)

step_is : (f : Num → Num) (d : Data) (op : Operation) → ((P : Pointer) (v : Data) → op ≡ test P v → ⊥) → after_step (renumbered f d) (renumbered_op f op) ≡ renumbered_end f (after_step d op)
step_is f d (add P v) n = refused_is f InvalidPointer (after_add d P v) _ (add_is f d P v)
step_is f d (remove P) n = refused_is f InvalidPointer (after_remove d P) _ (removed_is f d P)
step_is f d (replace P v) n = refused_is f InvalidPointer (after_replace d P v) _ (replaced_is f d P v)
step_is f d (move F P) n = move_is f P (begins F P) (pointee d F) (after_remove d F) _ _ (pointee_is f d F) (removed_is f d F)
step_is f d (copy F P) n = copy_is f d P (pointee d F) _ (pointee_is f d F)
step_is f d (test P v) n = absurd (n P v refl)

-- ---- documents

pub below_is : (f : Num → Num) (k : List ℕ) (ms : Members) → IsBelowMembers k ms → IsBelowMembers k (renumbered_members f ms)
below_is f k no_members h = tt
below_is f k (member l d ms) h = (h.0, below_is f k ms h.1)

abbrev pub GivesWhole : (Num → Num) → Type 0
GivesWhole f = (n : Num) → IsWhole (f n)

mutual
  pub document_is : (f : Num → Num) → GivesWhole f → (d : Data) → IsDocument d → IsDocument (renumbered f d)
  document_is f w null h = tt
  document_is f w (boolean b) h = tt
  document_is f w (number n) h = w n
  document_is f w (string s) h = tt
  document_is f w (array ds) h = documents_are f w ds h
  document_is f w (object ms) h = members_are f w ms h

  documents_are : (f : Num → Num) → GivesWhole f → (ds : Items) → AreDocuments ds → AreDocuments (renumbered_items f ds)
  documents_are f w no_items h = tt
  documents_are f w (item d ds) h = (document_is f w d h.0, documents_are f w ds h.1)

  pub members_are : (f : Num → Num) → GivesWhole f → (ms : Members) → AreMembers ms → AreMembers (renumbered_members f ms)
  members_are f w no_members h = tt
  members_are f w (member k d ms) h = (below_is f k ms h.0, document_is f w d h.1, members_are f w ms h.2)

whole_is : (f : Num → Num) → GivesWhole f → (op : Operation) → IsWholeOp op → IsWholeOp (renumbered_op f op)
whole_is f w (add P v) h = document_is f w v h
whole_is f w (remove P) h = h
whole_is f w (replace P v) h = document_is f w v h
whole_is f w (move F P) h = h
whole_is f w (copy F P) h = h
whole_is f w (test P v) h = document_is f w v h

-- ---- a list of operations

-- a `test` that is accepted compares equal values, and these are equal with other numbers too
test_ok : (f : Num → Num) (d m v : Data) (o : Option Data) → IsDocument v → after_test d v o ≡ Ok m → after_test (renumbered f d) (renumbered f v) (option_map (renumbered f) o) ≡ Ok (renumbered f m)
test_ok f d m v None h e = cc
test_ok f d m v (Some w) h e = by (same w v) refl e
  where
    by : (b : Bool) → same w v ≡ b → (if b then Ok d else Err TestFailed) ≡ Ok m → (if same (renumbered f w) (renumbered f v) then Ok (renumbered f d) else Err TestFailed) ≡ Ok (renumbered f m)
    by true is k =
        let left : d ≡ m = cc in
        ap (λ x. if same (renumbered f x) (renumbered f v) then Ok (renumbered f d) else Err TestFailed) (same-is w v h is)
        ∙ ap (λ b. if b then Ok (renumbered f d) else Err TestFailed) (same-refl (renumbered f v))
        ∙ ap (λ x. Ok (renumbered f x)) left
    by false is k = cc

step_accepted : (f : Num → Num) (d : Data) (op : Operation) (m : Data) → IsWholeOp op → after_step d op ≡ Ok m → after_step (renumbered f d) (renumbered_op f op) ≡ Ok (renumbered f m)
step_accepted f d (test P v) m h e = ap (after_test (renumbered f d) (renumbered f v)) (pointee_is f d P) ∙ test_ok f d m v (pointee d P) h e
step_accepted f d (add P v) m h e = step_is f d (add P v) (λ Q w g. cc) ∙ ap (renumbered_end f) e
step_accepted f d (remove P) m h e = step_is f d (remove P) (λ Q w g. cc) ∙ ap (renumbered_end f) e
step_accepted f d (replace P v) m h e = step_is f d (replace P v) (λ Q w g. cc) ∙ ap (renumbered_end f) e
step_accepted f d (move F P) m h e = step_is f d (move F P) (λ Q w g. cc) ∙ ap (renumbered_end f) e
step_accepted f d (copy F P) m h e = step_is f d (copy F P) (λ Q w g. cc) ∙ ap (renumbered_end f) e

pub leaves_there : (f : Num → Num) → GivesWhole f → (d : Data) (op : Operation) (m : Data) → IsDocument d → IsWholeOp op → Leaves d op m → Leaves (renumbered f d) (renumbered_op f op) (renumbered f m)
leaves_there f w d op m hd hv l =
    stepped_leaves (renumbered f d) (renumbered_op f op) (renumbered f m) (document_is f w d hd) (whole_is f w op hv) (step_accepted f d op m hv (leaves_stepped d op m hd hv l))

pub accepts_renumbered : (f : Num → Num) → GivesWhole f → (d e : Data) (ops : List Operation) → IsDocument d → AreWhole ops → Accepts d ops e → Accepts (renumbered f d) (map (renumbered_op f) ops) (renumbered f e)
accepts_renumbered f w d e [] hd hv h = ap (renumbered f) h
accepts_renumbered f w d e (op ∷ ops) hd hv (m, l, rest) = (
  renumbered f m,
  leaves_there f w d op m hd hv.0 l,
  accepts_renumbered f w m e ops (leaves_document d op m hd hv.0 l) hv.1 rest,
)

-- ---- plain operations

array_back : (f : Num → Num) (o : Option Data) (ds : Items) → option_map (renumbered f) o ≡ Some (array ds) → (es : Items) × (o ≡ Some (array es))
array_back f None ds e = cc
array_back f (Some null) ds e = cc
array_back f (Some (boolean b)) ds e = cc
array_back f (Some (number n)) ds e = cc
array_back f (Some (string s)) ds e = cc
array_back f (Some (array es)) ds e = (es, refl)
array_back f (Some (object ms)) ds e = cc

names_no_next : (f : Num → Num) (d : Data) (P : Pointer) → NamesNoNext d P → NamesNoNext (renumbered f d) P
names_no_next f d P n front rest ds split stands =
    let (es, at) = array_back f (pointee d front) ds (sym (pointee_is f d front) ∙ stands_found (renumbered f d) front (array ds) stands) in
    n front rest es split (found_resolves d front (array es) at)

plain_op : (f : Num → Num) (d : Data) (op : Operation) → IsPlain d op → IsPlain (renumbered f d) (renumbered_op f op)
plain_op f d (add P v) h = names_no_next f d P h
plain_op f d (remove P) h = names_no_next f d P h
plain_op f d (replace P v) h = names_no_next f d P h
plain_op f d (move F P) h = absurd h
plain_op f d (copy F P) h = absurd h
plain_op f d (test P v) h = absurd h

pub plain_renumbered : (f : Num → Num) → GivesWhole f → (d : Data) (ops : List Operation) → IsDocument d → AreWhole ops → ArePlain d ops → ArePlain (renumbered f d) (map (renumbered_op f) ops)
plain_renumbered f w d [] hd hv h = tt
plain_renumbered f w d (op ∷ ops) hd hv (m, plain, l, rest) = (
  renumbered f m,
  plain_op f d op plain,
  leaves_there f w d op m hd hv.0 l,
  plain_renumbered f w m ops (leaves_document d op m hd hv.0 l) hv.1 rest,
)

-- ---- and back, where none compares

end_back : (f : Num → Num) (o : Result Data PatchErrorKind) (n : Data) → renumbered_end f o ≡ Ok n → (m : Data) × (o ≡ Ok m) × (renumbered f m ≡ n)
end_back f (Ok m) n e = let same : renumbered f m ≡ n = cc in (m, refl, same)
end_back f (Err kind) n e = cc

pub stands_there : (f : Num → Num) (d : Data) (P : Pointer) (v : Data) → StandsAt d P v → StandsAt (renumbered f d) P (renumbered f v)
stands_there f d P v h = found_resolves (renumbered f d) P (renumbered f v) (pointee_is f d P ∙ ap (option_map (renumbered f)) (stands_found d P v h))

names_back : (f : Num → Num) (d : Data) (P : Pointer) → NamesNoNext (renumbered f d) P → NamesNoNext d P
names_back f d P n front rest ds split stands = n front rest (renumbered_items f ds) split (stands_there f d front (array ds) stands)

op_back : (f : Num → Num) (d : Data) (op : Operation) → IsPlain (renumbered f d) (renumbered_op f op) → IsPlain d op
op_back f d (add P v) h = names_back f d P h
op_back f d (remove P) h = names_back f d P h
op_back f d (replace P v) h = names_back f d P h
op_back f d (move F P) h = absurd h
op_back f d (copy F P) h = absurd h
op_back f d (test P v) h = absurd h

no_test : (f : Num → Num) (d : Data) (op : Operation) → IsPlain (renumbered f d) (renumbered_op f op) → (P : Pointer) (v : Data) → op ≡ test P v → ⊥
no_test f d (add Q w) h P v e = cc
no_test f d (remove Q) h P v e = cc
no_test f d (replace Q w) h P v e = cc
no_test f d (move F Q) h P v e = absurd h
no_test f d (copy F Q) h P v e = absurd h
no_test f d (test Q w) h P v e = absurd h

pub plain_back : (f : Num → Num) → GivesWhole f → (d : Data) (ops : List Operation) → IsDocument d → AreWhole ops → ArePlain (renumbered f d) (map (renumbered_op f) ops) → ArePlain d ops
plain_back f w d [] hd hv h = tt
plain_back f w d (op ∷ ops) hd hv (n, plain, l, rest) =
    let there = leaves_stepped (renumbered f d) (renumbered_op f op) n (document_is f w d hd) (whole_is f w op hv.0) l in
    let (m, stepped, same) = end_back f (after_step d op) n (sym (step_is f d op (no_test f d op plain)) ∙ there) in
    let left = stepped_leaves d op m hd hv.0 stepped in
    (m, op_back f d op plain, left, plain_back f w m ops (leaves_document d op m hd hv.0 left) hv.1 (subst (λ x. ArePlain x (map (renumbered_op f) ops)) (sym same) rest))

-- Edits of a marked container that holds values, and the names that they need.
use Rattle.json_patch_edit.proofs.Common.{◌≡◌, ◌≤◌, ◌<◌, ◌-◌, ℕ, zero, suc, take, get_or, List, [], ◌∷◌, length, inl, inr}
use Rattle.json_patch_edit.proofs.Common.{arith, rules, Pointer, Option, Some, None, refl, sym, ap, ◌∙◌, put, array, object}
use Rattle.json_patch_edit.proofs.Common.{view, items_view, members_view, vec_len, Vec, Global, String, string_bytes, Value}
use Rattle.json_patch_edit.proofs.Common.{Entry, lookup, insert_entry, string_cmp, remove_entry, set_value, Bool, true}
use Rattle.json_patch_edit.proofs.Common.{false, not, if◌then◌else◌, option_map, get_member, get_item, option_and_then}
use Rattle.json_patch_edit.proofs.Common.{view-lookup, without, Data, pointee, remove_item, set_item, set_child, drop_child}
use Rattle.json_patch_edit.proofs.Common.{slot_in, set, ◌++◌, Result, Ok, Err, Attempts, after_change, BTreeMap, Array}
use Rattle.json_patch_edit.proofs.Common.{Object, view-Object, IsErr, IsErrAnd, PatchErrorKind, InvalidPointer, StepFault}
use Rattle.json_patch_edit.proofs.Common.{Refused, members_view-insert_entry}
use Rattle.std.specs.List.{remove}
use Rattle.std.specs.Vec.{with_item}
use Rattle.json_patch_edit.specs.declared.edits.Edit.{Edit}
use Rattle.json_patch_edit.specs.declared.edits.Edit.TheVariants.{Take, Swap, Clear, Undo}
use Rattle.json_patch_edit.specs.declared.edits.Found.{Found}
use Rattle.json_patch_edit.specs.declared.edits.Found.TheVariants.{Nothing, Former, Taken}
use Rattle.json_patch_edit.specs.Marked.{is_mark, seen, pop_item, push_item, mark_child, at_child, undo_slot, take_marked}
use Rattle.json_patch_edit.specs.Marked.{swap_marked}
use Rattle.json_patch_edit.proofs.Marked.{at_view}
use Rattle.json_patch_edit.proofs.MarkedContainers.{live, view_pop, view_push, at_item_shown, found_item_shown, at_item}
use Rattle.json_patch_edit.proofs.MarkedContainers.{removes_inserted, undo_slot_is}
use Rattle.json_patch_edit.proofs.Containers.{IsItem, IsNoItem, found_member, found_no_member, found_item, found_at_member}
use Rattle.json_patch_edit.proofs.Containers.{found_at_item, walks_to_member, walks_to_item, walks_to_no_member}
use Rattle.json_patch_edit.proofs.Containers.{walks_to_no_item, next_within}
use Rattle.json_patch_document.proofs.Writes.{is_named, AreInOrder, items_view-set, items_view-remove, members_view-remove_entry}
use Rattle.json_patch_document.proofs.Writes.{members_view-set_value, members_view-set_same}
use Rattle.json_patch_edit.proofs.Locations.{split_is}
use Rattle.std.proofs.Common.{length-append}
use Rattle.jsonptr.specs.Text.{encoded, text_of}
use Rattle.json_patch_edit.specs.NoMemory.{AreUnescaped}
use Rattle.json_patch_edit.specs.Exchange.{Fits, AreFitting, made_where, FindsWhere, last_item, if_mark, IsRemoving}
use Rattle.json_patch_edit.specs.Exchange.{is_removable, IsSwapping, is_swappable, swapped, sweep_child, sweep_in}
use Rattle.json_patch_edit.specs.Exchange.{remove_marked, made, Finds, FindsAt, Exchanges, ExchangesIn}

pub unescaped_fit : (n : ℕ) (P : Pointer) → AreUnescaped P → AreFitting n P
unescaped_fit n [] h = tt
unescaped_fit n (t ∷ P) h = (inl h.0, unescaped_fit n P h.1)

-- where there is room for a pointer's text, there is for each of its tokens
pub text_fits : (n : ℕ) (P : Pointer) → length (text_of P) ≤ n → AreFitting n P
text_fits n [] le = tt
text_fits n (t ∷ P) le = (inr (omega (arith, length-append (encoded t) (text_of P))), text_fits n P (omega (arith, length-append (encoded t) (text_of P))))

pub fits_more : (n m : ℕ) (t : List ℕ) → n ≤ m → Fits n t → Fits m t
fits_more n m t le (inl h) = inl h
fits_more n m t le (inr h) = inr (omega arith)

pub fitting_more : (n m : ℕ) (P : Pointer) → n ≤ m → AreFitting n P → AreFitting m P
fitting_more n m [] le h = tt
fitting_more n m (t ∷ P) le h = (fits_more n m t le h.0, fitting_more n m P le h.1)

-- there is room for the rest of a way, after a name was read
pub fitting_below : (n m : ℕ) (t : List ℕ) (P rest : Pointer) → P ≡ t ∷ rest → n ≤ m → AreFitting n P → AreFitting m rest
fitting_below n m t P rest way le h = fitting_more n m rest le (rw way at h).1

-- ---- members

pub inserts_over : (es new : List Entry) (o : Option Value) (k : String Global) (u v w : Value) → u ≡ v → new ≡ insert_entry string_cmp es k u → o ≡ lookup (is_named (string_bytes k)) es → o ≡ Some w
    → (Some (object (put (string_bytes k) (view v) (members_view es))) ≡ Some (object (members_view new))) × (pointee (object (members_view es)) (string_bytes k ∷ []) ≡ Some (view w))
inserts_over es new o k u v w same is found some =
    (rw (← same) (ap (λ ms. Some (object ms)) (sym (members_view-insert_entry es k u) ∙ ap members_view (sym is))), found_member (string_bytes k) es o w some found)

pub inserts_new : (es new : List Entry) (o : Option Value) (k : String Global) (u v : Value) → u ≡ v → new ≡ insert_entry string_cmp es k u → o ≡ lookup (is_named (string_bytes k)) es → o ≡ None
    → (Some (object (put (string_bytes k) (view v) (members_view es))) ≡ Some (object (members_view new))) × (pointee (object (members_view es)) (string_bytes k ∷ []) ≡ None)
inserts_new es new o k u v same is found none =
    (rw (← same) (ap (λ ms. Some (object ms)) (sym (members_view-insert_entry es k u) ∙ ap members_view (sym is))), found_no_member (string_bytes k) es o none found)

found_named : (t : List ℕ) (es : List Entry) (o : Option Value) → o ≡ lookup (is_named t) es → get_member t (members_view es) ≡ option_map view o
found_named t es o is = sym (view-lookup t es) ∙ ap (option_map view) (sym is)

shown_not : (b : Bool) (d : Data) → not b ≡ true → (if b then None else Some d) ≡ Some d
shown_not b d is = search rules

hidden_not : (b : Bool) (d : Data) → not b ≡ false → (if b then None else Some d) ≡ None
hidden_not b d is = search rules

module _ (t : List ℕ) (es : List Entry) (v : Data) where
  pub removes_none : (edit : Edit) → IsRemoving edit → None ≡ lookup (is_named t) es → made edit v t (object (members_view es)) ≡ None
  removes_none Clear h is = rw (found_named t es None is) refl
  removes_none (Undo Nothing) h is = rw (found_named t es None is) refl
  removes_none edit h is = search rules

  pub removes_other : (edit : Edit) (x : Value) → IsRemoving edit → Some x ≡ lookup (is_named t) es → is_removable edit (view x) ≡ false → made edit v t (object (members_view es)) ≡ None
  removes_other Clear x h is other = rw (found_named t es (Some x) is, other) refl
  removes_other (Undo Nothing) x h is other = rw (found_named t es (Some x) is, hidden_not (is_mark (view x)) (view x) other) refl
  removes_other edit x h is other = search rules

  gone : (new : List Entry) → new ≡ remove_entry (is_named t) es → Some (object (without t (members_view es))) ≡ Some (object (members_view new))
  gone new is = ap (λ ms. Some (object ms)) (sym (ap members_view is ∙ members_view-remove_entry t es))

  removed : (edit : Edit) (x : Value) (new : List Entry) → IsRemoving edit → Some x ≡ lookup (is_named t) es → is_removable edit (view x) ≡ true → new ≡ remove_entry (is_named t) es
      → (made edit v t (object (members_view es)) ≡ Some (object (members_view new))) × Finds edit t (object (members_view es)) Taken (view x)
  removed Clear x new h is there left = (rw (found_named t es (Some x) is, there) (gone new left), tt)
  removed (Undo Nothing) x new h is there left = (rw (found_named t es (Some x) is, shown_not (is_mark (view x)) (view x) there) (gone new left), found_member t es (Some x) x refl is)
  removed edit x new h is there left = search rules

  -- the member that was looked at is the one that goes
  pub removes : (edit : Edit) (y x : Value) (new : List Entry) → IsRemoving edit → Some y ≡ lookup (is_named t) es → Some x ≡ lookup (is_named t) es → is_removable edit (view y) ≡ true → new ≡ remove_entry (is_named t) es
      → (made edit v t (object (members_view es)) ≡ Some (object (members_view new))) × Finds edit t (object (members_view es)) Taken (view x)
  removes edit y x new h at is there left =
      let both : Some y ≡ Some x = at ∙ sym is in
      let same : y ≡ x = cc in removed edit x new h is (ap (λ z. is_removable edit (view z)) (sym same) ∙ there) left

module _ (t : List ℕ) (es : List Entry) where
  pub swaps_none : (edit : Edit) (v : Data) → IsSwapping edit → None ≡ lookup (is_named t) es → made edit v t (object (members_view es)) ≡ None
  swaps_none Take v h is = rw (found_named t es None is) refl
  swaps_none Swap v h is = rw (found_named t es None is) refl
  swaps_none (Undo Former) v h is = rw (found_named t es None is) refl
  swaps_none (Undo Taken) v h is = rw (found_named t es None is) refl
  swaps_none edit v h is = search rules

  pub swaps_other : (edit : Edit) (v : Data) (x : Value) → IsSwapping edit → Some x ≡ lookup (is_named t) es → is_swappable edit (view x) ≡ false → made edit v t (object (members_view es)) ≡ None
  swaps_other Take v x h is other = rw (found_named t es (Some x) is, hidden_not (is_mark (view x)) (view x) other) refl
  swaps_other Swap v x h is other = rw (found_named t es (Some x) is, hidden_not (is_mark (view x)) (view x) other) refl
  swaps_other edit v x h is other = search rules

  put_there : (v w x : Value) (new : List Entry) → AreInOrder es → Some x ≡ lookup (is_named t) es → new ≡ set_value (is_named t) es w → w ≡ v → Some (object (put t (view v) (members_view es))) ≡ Some (object (members_view new))
  put_there v w x new order is wrote same = ap (λ ms. Some (object ms)) (rw (← same) (sym (ap members_view wrote ∙ members_view-set_value t es w x order (sym is))))

  pub swaps : (edit : Edit) (v w x : Value) (new : List Entry) → IsSwapping edit → AreInOrder es → Some x ≡ lookup (is_named t) es → is_swappable edit (view x) ≡ true → new ≡ set_value (is_named t) es w → w ≡ v
      → (made edit (view v) t (object (members_view es)) ≡ Some (object (members_view new))) × Finds edit t (object (members_view es)) (swapped edit) (view x)
  swaps Take v w x new h order is there wrote same =
      (rw (found_named t es (Some x) is, shown_not (is_mark (view x)) (view x) there) (put_there v w x new order is wrote same), found_member t es (Some x) x refl is)
  swaps Swap v w x new h order is there wrote same =
      (rw (found_named t es (Some x) is, shown_not (is_mark (view x)) (view x) there) (put_there v w x new order is wrote same), found_member t es (Some x) x refl is)
  swaps (Undo Former) v w x new h order is there wrote same = (rw (found_named t es (Some x) is) (put_there v w x new order is wrote same), found_member t es (Some x) x refl is)
  swaps (Undo Taken) v w x new h order is there wrote same = (rw (found_named t es (Some x) is) (put_there v w x new order is wrote same), tt)
  swaps edit v w x new h order is there wrote same = search rules

  -- where the member stays, so does the object
  pub stays : (x : Value) (new : List Entry) → Some x ≡ lookup (is_named t) es → new ≡ set_value (is_named t) es x → object (members_view new) ≡ object (members_view es)
  stays x new is wrote = ap object (ap members_view wrote ∙ members_view-set_same t es x x (sym is) refl)

  pub sweeps_none : None ≡ lookup (is_named t) es → sweep_in t (object (members_view es)) ≡ None
  sweeps_none is = rw (found_named t es None is) refl

  pub sweeps_mark : (x : Value) → Some x ≡ lookup (is_named t) es → is_mark (view x) ≡ true → sweep_in t (object (members_view es)) ≡ None
  sweeps_mark x is at = rw (found_named t es (Some x) is, at) refl

  pub sweeps : (w x : Value) (new : List Entry) → AreInOrder es → Some x ≡ lookup (is_named t) es → is_mark (view x) ≡ false → new ≡ set_value (is_named t) es w → view w ≡ seen (view x)
      → sweep_in t (object (members_view es)) ≡ Some (object (members_view new))
  sweeps w x new order is at wrote cleared =
      rw (found_named t es (Some x) is, at, ← cleared) (ap (λ ms. Some (object ms)) (sym (ap members_view wrote ∙ members_view-set_value t es w x order (sym is))))

-- ---- elements

pub refused_exchange : (r : Result Found StepFault) (kind : PatchErrorKind) (wanted : Option Data) (F : Found → Data → Type 0) (d v : Data) → IsErr r × IsErrAnd r (λ f. f ≡ Refused kind) → kind ≡ InvalidPointer → wanted ≡ None → Exchanges r wanted F d d v v
refused_exchange r kind wanted F d v h at none = search rules

at_removed : (m : Vec Value Global) (i : ℕ) (new : List Value) → i < vec_len m → new ≡ remove m.items i → array (remove_item i (items_view m.items)) ≡ array (items_view new)
at_removed m i new lt is = ap array (sym (ap items_view is ∙ items_view-remove m.items i (omega arith)))

-- of the element that the token names, and that is seen
module _ (t : List ℕ) (m : Vec Value Global) (n i : ℕ) (x : Value) (e : n ≡ live m) (within : n ≤ vec_len m) (at : IsItem t n i) (is : x ≡ get_or m.items i x) where
  pub takes_item : (v w : Value) (rest new : List Value) → rest ≡ remove m.items i → new ≡ rest ++ w ∷ [] → w ≡ v
      → (take_marked (view v) t (array (items_view m.items)) ≡ Some (array (items_view new))) × (pointee (array (items_view m.items)) (t ∷ []) ≡ Some (view x))
  takes_item v w rest new removed pushed same = (
    at_item_shown t m n i x (mark_child (view v)) e within at is
        ∙ ap (λ ds. Some (array ds)) (sym (ap items_view pushed ∙ view_push rest w ∙ ap (λ y. push_item (view y) (items_view rest)) same ∙ ap (λ r. push_item (view v) r) (ap items_view removed ∙ items_view-remove m.items i (omega arith)))),
    found_item_shown t m n i x within at is,
  )

  pub removes_item : (new : List Value) → new ≡ remove m.items i
      → (remove_marked t (array (items_view m.items)) ≡ Some (array (items_view new))) × (pointee (array (items_view m.items)) (t ∷ []) ≡ Some (view x))
  removes_item new removed = (at_item_shown t m n i x drop_child e within at is ∙ ap Some (at_removed m i new (omega arith) removed), found_item_shown t m n i x within at is)

  set_there : (w : Value) (d : Data) (new : List Value) → new ≡ set m.items i w → view w ≡ d → Some (array (set_item i d (items_view m.items))) ≡ Some (array (items_view new))
  set_there w d new wrote same = rw (← same) (ap (λ ds. Some (array ds)) (sym (ap items_view wrote ∙ items_view-set m.items i w)))

  pub swaps_item : (v w : Value) (new : List Value) → new ≡ set m.items i w → w ≡ v
      → (swap_marked (view v) t (array (items_view m.items)) ≡ Some (array (items_view new))) × (pointee (array (items_view m.items)) (t ∷ []) ≡ Some (view x))
  swaps_item v w new wrote same = (at_item_shown t m n i x (λ s d. set_child s (view v) d) e within at is ∙ set_there w (view v) new wrote (ap view same), found_item_shown t m n i x within at is)

  pub sweeps_item : (w : Value) (new : List Value) → new ≡ set m.items i w → view w ≡ seen (view x) → sweep_in t (array (items_view m.items)) ≡ Some (array (items_view new))
  sweeps_item w new wrote cleared =
      at_item_shown t m n i x sweep_child e within at is
      ∙ rw (at_view m.items i x (omega arith) is) (set_there w (seen (view x)) new wrote cleared)

-- of the element that the token names, a mark too
module _ (t : List ℕ) (m : Vec Value Global) (len i : ℕ) (e : len ≡ vec_len m) (at : IsItem t len i) where
  pub swaps_back_item : (v w x : Value) (new : List Value) → x ≡ get_or m.items i x → new ≡ set m.items i w → w ≡ v
      → (at_child (λ s d. set_child s (view v) d) t (array (items_view m.items)) ≡ Some (array (items_view new))) × (pointee (array (items_view m.items)) (t ∷ []) ≡ Some (view x))
  swaps_back_item v w x new is wrote same = (
    at_item t m len i (λ s d. set_child s (view v) d) e at ∙ rw (← same) (ap (λ ds. Some (array ds)) (sym (ap items_view wrote ∙ items_view-set m.items i w))),
    found_item t m len i x e at is,
  )

pub undoes_insert : (t : List ℕ) (m : Vec Value Global) (n i : ℕ) (x : Value) (new : List Value) → n ≡ live m → n ≤ vec_len m → zero < n → (i ≤ n - 1) × (slot_in t (n - 1) ≡ Some i) → x ≡ get_or m.items i x → new ≡ remove m.items i
    → (option_map (λ j. array (remove_item j (items_view m.items))) (undo_slot t (live m)) ≡ Some (array (items_view new))) × (option_and_then (λ j. get_item j (items_view m.items)) (undo_slot t (live m)) ≡ Some (view x))
undoes_insert t m n i x new e within some at is removed = (
  removes_inserted t m n i e within some at ∙ ap (λ vs. Some (array (items_view vs))) (sym removed),
  ap (λ k. option_and_then (λ j. get_item j (items_view m.items)) (undo_slot t k)) (sym e) ∙ rw (undo_slot_is t n i some at.1) (at_view m.items i x (omega arith) is),
)

-- ---- a mark that goes

-- the last element
last_view : (vs : List Value) (v : Value) (n : ℕ) → suc n ≡ length vs → v ≡ get_or vs n v → last_item (items_view vs) ≡ Some (view v)
last_view [] v n e is = absurd (omega arith)
last_view (x ∷ []) v zero e is = ap (λ y. Some (view y)) (sym is)
last_view (x ∷ []) v (suc n) e is = absurd (omega arith)
last_view (x ∷ y ∷ vs) v zero e is = absurd (omega arith)
last_view (x ∷ y ∷ vs) v (suc n) e is = last_view (y ∷ vs) v n (omega arith) is

one_less : (n : ℕ) → zero < n → suc (n - 1) ≡ n
one_less n lt = omega arith

-- the last element, of an array that is read
last_read : (vs ws : List Value) (v : Value) → ws ≡ vs → zero < length ws → v ≡ get_or ws (length ws - 1) v → last_item (items_view vs) ≡ Some (view v)
last_read vs ws v same lt is = ap (λ x. last_item (items_view x)) (sym same) ∙ last_view ws v (length ws - 1) (one_less (length ws) lt) is

pub clears_not : (vs ws : List Value) (v : Value) (d : Data) → ws ≡ vs → zero < length ws → v ≡ get_or ws (length ws - 1) v → is_mark (view v) ≡ false → if_mark (last_item (items_view vs)) d ≡ None
clears_not vs ws v d same lt is at = rw (last_read vs ws v same lt is, at) refl

pub clears : (m : Vec Value Global) (ws new : List Value) (v : Value) → ws ≡ m.items → zero < length ws → v ≡ get_or ws (length ws - 1) v → is_mark (view v) ≡ true → new ≡ take (vec_len m - 1) m.items
    → if_mark (last_item (items_view m.items)) (array (pop_item (items_view m.items))) ≡ Some (array (items_view new))
clears m ws new v same lt is at popped =
    let count : length ws ≡ length m.items = ap length same in
    rw (last_read m.items ws v same lt is, at) (ap (λ ds. Some (array ds)) (sym (ap items_view popped ∙ view_pop m.items (vec_len m - 1) (omega arith))))

-- ---- in a value, and on the way down to it

pub exchanges_at_members : (r : Result Found StepFault) (edit : Edit) (t : List ℕ) (old new : Value) (m n : BTreeMap (String Global) Value) (v w : Data) → old ≡ Object m → new ≡ Object n
    → ExchangesIn r edit t (object (members_view m.entries)) (object (members_view n.entries)) v w → ExchangesIn r edit t (view old) (view new) v w
exchanges_at_members r edit t old new m n v w o p h = rw (o, p, view-Object m, view-Object n) h

-- what an exchange leaves of the document alone
pub left_of : (r : Result Found StepFault) (wanted : Option Data) (F : Found → Data → Type 0) (d e v w : Data) → Exchanges r wanted F d e v w → Attempts r wanted d e
left_of (Ok found) wanted F d e v w h = h.0
left_of (Err fault) wanted F d e v w h = (h.0, h.1)

-- of what holds the child that was exchanged
with_child : (r : Result Found StepFault) (wanted below : Option Data) (F G : Found → Data → Type 0) (d e c b v w : Data) → Attempts r wanted d e → ((found : Found) (x : Data) → G found x → F found x) → Exchanges r below G c b v w → Exchanges r wanted F d e v w
with_child (Ok found) wanted below F G d e c b v w left finds h = (left, finds found w h.1)
with_child (Err fault) wanted below F G d e c b v w left finds h = (left.0, left.1, h.2)

finds_below : (edit : Edit) (d c : Data) (P rest : Pointer) (last : List ℕ) → pointee d P ≡ pointee c rest → (found : Found) (x : Data) → FindsAt edit c rest last found x → FindsAt edit d P last found x
finds_below edit d c P rest last same found x h = (h.0, same ∙ h.1, h.2)

refused_left : (r : Result Found StepFault) (kind : PatchErrorKind) (wanted : Option Data) (F : Found → Data → Type 0) (d e v : Data) → IsErr r × IsErrAnd r (λ x. x ≡ Refused kind) → Attempts r wanted d e → Exchanges r wanted F d e v v
refused_left (Ok found) kind wanted F d e v gives left = search rules
refused_left (Err fault) kind wanted F d e v gives left = (left.0, left.1, refl)

-- what an edit at `last` comes to, at the end of a way
abbrev pub ExchangesAt : Result Found StepFault → Edit → Pointer → List ℕ → Data → Data → Data → Data → Type 0
ExchangesAt r edit P last d e v w = Exchanges r (after_change (made edit v last) d P) (FindsAt edit d P last) d e v w

module _ (r : Result Found StepFault) (edit : Edit) (t last : List ℕ) (P rest : Pointer) (old new : Value) (v w : Data) (way : P ≡ t ∷ rest) where
  pub exchanges_to_member : (m n : BTreeMap (String Global) Value) (x y : Value) → old ≡ Object m → new ≡ Object n → AreInOrder m.entries → Some x ≡ lookup (is_named t) m.entries → n.entries ≡ set_value (is_named t) m.entries y
      → ExchangesAt r edit rest last (view x) (view y) v w → ExchangesAt r edit P last (view old) (view new) v w
  exchanges_to_member m n x y o p order is wrote h =
      with_child r _ _ _ _ _ _ _ _ v w
      (walks_to_member r _ (λ c. after_change (made edit v last) c rest) t old new m n x y (next_within _ _ _ _ t way) o p order is wrote (left_of r _ _ _ _ v w h))
      (finds_below edit (view old) (view x) P rest last (found_at_member t P rest old m x way o is)) h

  pub exchanges_to_item : (m : Vec Value Global) (len i : ℕ) (x y : Value) → old ≡ Array m → new ≡ Array (with_item m i y) → len ≡ vec_len m → IsItem t len i → x ≡ get_or m.items i x
      → ExchangesAt r edit rest last (view x) (view y) v w → ExchangesAt r edit P last (view old) (view new) v w
  exchanges_to_item m len i x y o p e at is h =
      with_child r _ _ _ _ _ _ _ _ v w
      (walks_to_item r _ (λ c. after_change (made edit v last) c rest) t old new m len i x y (next_within _ _ _ _ t way) o p e at is (left_of r _ _ _ _ v w h))
      (finds_below edit (view old) (view x) P rest last (found_at_item t P rest old m len i x way o e at is)) h

module _ (edit : Edit) (t last : List ℕ) (P rest : Pointer) (old new : Value) (v : Data) (way : P ≡ t ∷ rest) where
  pub exchanges_with_no_member : (m n : BTreeMap (String Global) Value) → old ≡ Object m → new ≡ Object n → None ≡ lookup (is_named t) m.entries → n ≡ m
      → (after_change (made edit v last) (view old) P ≡ None) × (view new ≡ view old)
  exchanges_with_no_member m n o p none same = walks_to_no_member _ (λ c. after_change (made edit v last) c rest) t old new m n (next_within _ _ _ _ t way) o p none same

  pub exchanges_with_no_item : (r : Result Found StepFault) (kind : PatchErrorKind) (m : Vec Value Global) (len : ℕ) → old ≡ Array m → new ≡ Array m → len ≡ vec_len m → IsErr r × IsErrAnd r (λ x. x ≡ Refused kind) → kind ≡ InvalidPointer → IsNoItem t len
      → ExchangesAt r edit P last (view old) (view new) v v
  exchanges_with_no_item r kind m len o p e gives at past =
      let left : Attempts r (after_change (made edit v last) (view old) P) (view old) (view new) = walks_to_no_item r kind _ (λ c. after_change (made edit v last) c rest) t old new m len (next_within _ _ _ _ t way) o p e gives at past in
      refused_left r kind _ _ _ _ v gives left

-- ---- where a pointer leads

pub exchanges_where : (r : Result Found StepFault) (edit : Edit) (P Q : Pointer) (last : List ℕ) (d e v w : Data) → P ≡ Q ++ last ∷ [] → ExchangesAt r edit Q last d e v w → Exchanges r (made_where edit v d P) (FindsWhere edit d P) d e v w
exchanges_where r edit [] [] last d e v w is h = cc
exchanges_where r edit [] (q ∷ Q) last d e v w is h = cc
exchanges_where r edit (t ∷ P) Q last d e v w is h =
    let at = split_is t P Q last is in
    let left : Attempts r (made_where edit v d (t ∷ P)) d e = rw (← at.0, ← at.1) (left_of r _ _ _ _ v w h) in
    with_child r _ _ (FindsWhere edit d (t ∷ P)) (FindsAt edit d Q last) _ _ _ _ v w left (λ found x f. rw (← at.0, ← at.1) f) h

fitting_parts : (n : ℕ) (Q : Pointer) (last : List ℕ) → AreFitting n (Q ++ last ∷ []) → AreFitting n Q × Fits n last
fitting_parts n [] last h = (tt, h.0)
fitting_parts n (t ∷ Q) last h = let more = fitting_parts n Q last h.1 in ((h.0, more.0), more.1)

pub fitting_split : (n : ℕ) (P Q : Pointer) (last : List ℕ) → P ≡ Q ++ last ∷ [] → AreFitting n P → AreFitting n Q × Fits n last
fitting_split n P Q last is h = fitting_parts n Q last (rw is at h)

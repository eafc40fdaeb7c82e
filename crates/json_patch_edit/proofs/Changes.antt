-- What add, remove and replace leave: one document, where they are defined, and it is what is computed.
use Rattle.json_patch_edit.proofs.Common.{common_steps, ◌≡◌, ℕ, zero, suc, ◌<◌, ◌≤◌, List, [], ◌∷◌, ◌++◌, ⊎_elim, Some, None}
use Rattle.json_patch_edit.proofs.Common.{sym, ◌∙◌, subst, arith, rules, Data, IsDocument, Segment, key, place, look}
use Rattle.json_patch_edit.proofs.Common.{Resolves, Aims, HasTarget, IsBeside, ShiftsUp, PutsAt, IsAdded, front_of, last_of}
use Rattle.json_patch_edit.proofs.Common.{put_in, after_add, ap, option_and_then_some, array, object, Items, Members, child}
use Rattle.json_patch_edit.proofs.Common.{Names, TakesAt, IsRemoved, segment_of, drop_child, take_from, after_remove}
use Rattle.json_patch_edit.proofs.Common.{remove_item, without, refl, SetsAt, IsReplaced, after_replace, Option, cases_eq}
use Rattle.std.specs.Prelude.{◌↔◌}
use Rattle.json_patch_document.proofs.Members.{get_without, get_without_other, without_members, get_remove_later}
use Rattle.json_patch_document.proofs.Members.{get_remove_before, remove_items}
use Rattle.json_patch_document.proofs.Alike.{alike}
use Rattle.json_patch_edit.proofs.Places.{IsUnder, IsApart, IsMoved, under_cases, moved_cases, beside_inside}
use Rattle.json_patch_edit.proofs.Locations.{resolves_same, split_whole, split_is, option_map_some, resolves_document, Ends}
use Rattle.json_patch_edit.proofs.Locations.{ends, ended, last_same, no_end}
use Rattle.json_patch_edit.proofs.Alterations.{Grafts, IsAltered, altered_is, altered_some}
use Rattle.json_patch_edit.proofs.Slots.{PutsIn, put_in_puts, aims_put, aims_same, below, not_from}

-- ---- the computed document is the one that add leaves, and the only one

shifts_lift : (d e : Data) (L : List Segment) (p q : Data) (s : Segment) → Grafts d e L p q → ShiftsUp p q [] s → ShiftsUp d e L s
shifts_lift d e L p q s g h = search rules

-- where p's sights are kept, d's are
pub elsewhere_lift : (d e : Data) (L : List Segment) (p q : Data) (s : Segment) → Grafts d e L p q → ((X : List Segment) → IsBeside [] s X → look q X ≡ look p X)
    → (X : List Segment) → IsBeside L s X → look e X ≡ look d X
elsewhere_lift d e L p q s g keep X b = search (rules, IsUnder L X, beside_inside L s, IsApart L X, under_cases L X, IsUnder, beside_inside, IsApart, under_cases)

puts_lift : (d e v : Data) (L : List Segment) (p q : Data) (s : Segment) → Grafts d e L p q → PutsAt p q v [] s → PutsAt d e v L s
puts_lift d e v L p q s g h = search (rules, shifts_lift, elsewhere_lift)

added_below : (d : Data) (t : List ℕ) (P : List (List ℕ)) (v e : Data) → IsDocument d → IsDocument v → IsAltered (put_in v (last_of t P)) d (front_of t P) e
    → IsAdded d (t ∷ P) v e
added_below d t P v e hd hv a = search (rules, PutsIn v (last_of t P) a.p a.q, put_in_puts v (last_of t P) a.p a.q a.result, split_whole t P, puts_lift d e v a.L a.p a.q, PutsIn, put_in_puts, split_whole, puts_lift)

pub added_is : (d : Data) (P : List (List ℕ)) (v e : Data) → IsDocument d → IsDocument v → after_add d P v ≡ Some e → IsAdded d P v e
added_is d P v e hd hv is = search (rules, added_below, altered_is)

pub IsAdded_document : (d : Data) (P : List (List ℕ)) (v e : Data) → IsDocument v → IsAdded d P v e → IsDocument e
IsAdded_document d P v e hv h = search rules

-- the target, with the pointer split
record Target (d : Data) (t : List ℕ) (P : List (List ℕ)) (L : List Segment) (s : Segment) : Type 0 where
  p : Data
  resolves : Resolves d (front_of t P) L p
  aims : Aims p (last_of t P) s

target : (d : Data) (t : List ℕ) (P : List (List ℕ)) (L : List Segment) (s : Segment) → HasTarget d (t ∷ P) L s → Target d t P L s
target d t P L s h = search (rules, split_is t P h.front h.last h.whole, split_is)

pub added_none : (d : Data) (P : List (List ℕ)) (v e : Data) → after_add d P v ≡ None → IsAdded d P v e → ⊥
added_none d [] v e is h = cc
added_none d (t ∷ P) v e is h =
    let g : Target d t P h.0 h.1 = target d t P h.0 h.1 h.2 in
    let q : (q : Data) × (put_in v (last_of t P) g.p ≡ Some q) = aims_put v (last_of t P) g.p h.1 g.aims in
    let a : (e : Data) × (after_add d (t ∷ P) v ≡ Some e) = altered_some _ d (front_of t P) h.0 g.p q.0 g.resolves q.1 in
    let b : after_add d (t ∷ P) v ≡ Some a.0 = a.1 in cc

no_target : (front : List (List ℕ)) (last : List ℕ) → [] ≡ front ++ last ∷ [] → ⊥
no_target front last is = grind (arith, common_steps)

-- where there is a target, a document is left
pub added_there : (d : Data) (P : List (List ℕ)) (v : Data) (L : List Segment) (s : Segment) → IsDocument d → IsDocument v → HasTarget d P L s → (e : Data) × IsAdded d P v e
added_there d [] v L s hd hv h = absurd (no_target h.front h.last h.whole)
added_there d (t ∷ P) v L s hd hv h =
    let g : Target d t P L s = target d t P L s h in
    let q : (q : Data) × (put_in v (last_of t P) g.p ≡ Some q) = aims_put v (last_of t P) g.p s g.aims in
    let a : (e : Data) × (after_add d (t ∷ P) v ≡ Some e) = altered_some _ d (front_of t P) L g.p q.0 g.resolves q.1 in
    (a.0, added_is d (t ∷ P) v a.0 hd hv a.1)

-- ---- one document alone

target_same : (d : Data) (t : List ℕ) (P : List (List ℕ)) (L M : List Segment) (s r : Segment) → HasTarget d (t ∷ P) L s → HasTarget d (t ∷ P) M r → (L ≡ M) × (s ≡ r)
target_same d t P L M s r h k = grind (arith, common_steps, target, resolves_same, aims_same)

-- after the index
puts_after : (d e f v : Data) (L : List Segment) (i j : ℕ) (R : List Segment) → PutsAt d e v L (place i) → PutsAt d f v L (place i) → i < j
    → look e (L ++ place j ∷ R) ≡ look f (L ++ place j ∷ R)
puts_after d e f v L i zero R h g lt = absurd (omega arith)
puts_after d e f v L i (suc j) R h g lt = let le : i ≤ j = omega arith in h.later j R le ∙ sym (g.later j R le)

-- at the index or after it
puts_from : (d e f v : Data) (L : List Segment) (i j : ℕ) (R : List Segment) → PutsAt d e v L (place i) → PutsAt d f v L (place i) → i ≤ j
    → look e (L ++ place j ∷ R) ≡ look f (L ++ place j ∷ R)
puts_from d e f v L i j R h g le =
    ⊎_elim
    (λ (same : i ≡ j). subst (λ n. look e (L ++ place n ∷ R) ≡ look f (L ++ place n ∷ R)) same (h.here R ∙ sym (g.here R)))
    (λ (other : i ≡ j → ⊥). puts_after d e f v L i j R h g (omega arith)) (cases_eq i j)

puts_moved : (d e f v : Data) (L : List Segment) (s : Segment) (X : List Segment) → PutsAt d e v L s → PutsAt d f v L s → IsMoved L s X → look e X ≡ look f X
puts_moved d e f v L (key k) X h g m = rw m.1 (h.here m.0 ∙ sym (g.here m.0))
puts_moved d e f v L (place i) X h g m = rw m.3 (puts_from d e f v L i m.0 m.1 h g m.2)

pub puts_same : (d e f v : Data) (L : List Segment) (s : Segment) → PutsAt d e v L s → PutsAt d f v L s → (X : List Segment) → look e X ≡ look f X
puts_same d e f v L s h g X = search (rules, puts_moved d e f v L s X h g, moved_cases L s X, puts_moved, moved_cases)

pub added_one : (d : Data) (P : List (List ℕ)) (v e f : Data) → IsAdded d P v e → IsAdded d P v f → e ≡ f
added_one d [] v e f h g = h ∙ sym g
added_one d (t ∷ P) v e f h g = search (rules, target_same d t P h.0 g.0 h.1 g.1 h.2 g.2, alike e f h.3 g.3, puts_same d e f v h.0 h.1 h.4, target_same, alike, puts_same)

-- ---- the computed document is the one that remove leaves, and the only one

member_elsewhere : (k : List ℕ) (ms : Members) (X : List Segment) → IsBeside [] (key k) X → look (object (without k ms)) X ≡ look (object ms) X
member_elsewhere k ms (key q ∷ R) b = below _ _ R (get_without_other q k ms (λ h. b R (ap (λ x. key x ∷ R) h)))
member_elsewhere k ms X b = search rules

item_elsewhere : (i : ℕ) (ds : Items) (X : List Segment) → IsBeside [] (place i) X → look (array (remove_item i ds)) X ≡ look (array ds) X
item_elsewhere i ds (place j ∷ R) b = below _ _ R (get_remove_before j i ds (not_from i j R b))
item_elsewhere i ds X b = search rules

pub drop_document : (s : Segment) (p : Data) → IsDocument p → IsDocument (drop_child s p)
drop_document s p h = search (rules, without_members, remove_items)

pub record TakesIn (t : List ℕ) (p q : Data) : Type 0 where
  pub s : Segment
  pub c : Data
  pub names : Names p t s
  pub stands : child s p ≡ Some c
  pub whole : drop_child s p ≡ q

pub take_from_takes : (t : List ℕ) (p q : Data) → take_from t p ≡ Some q → TakesIn t p q
take_from_takes t p q is =
    option_and_then_some _ (segment_of p t) q is (λ s named more.
    option_map_some _ (child s p) q more (λ c stands whole.
    record { s = s; c = c; names = (search rules); stands = stands; whole = whole }))

takes_lift : (d e : Data) (L : List Segment) (p q : Data) (s : Segment) → Grafts d e L p q → TakesAt p q [] s → TakesAt d e L s
takes_lift d e L p q s g h = record { later = (search rules); elsewhere = elsewhere_lift d e L p q s g h.elsewhere }

removed_below : (d : Data) (t : List ℕ) (P : List (List ℕ)) (e : Data) → IsDocument d → IsAltered (take_from (last_of t P)) d (front_of t P) e → IsRemoved d (t ∷ P) e
removed_below d t P e hd a =
    let i : TakesIn (last_of t P) a.p a.q = take_from_takes (last_of t P) a.p a.q a.result in
    let hp : IsDocument a.p = resolves_document d (front_of t P) a.L a.p hd a.resolves in
    let takes : TakesAt a.p a.q [] i.s = subst (λ q. TakesAt a.p q [] i.s) i.whole (search (rules, below, get_without, member_elsewhere, get_remove_later, item_elsewhere)) in (
      a.L,
      i.s,
      i.c,
      ended d t P a.L i.s i.c a.p a.resolves i.names i.stands,
      a.keeps hd (λ h. subst IsDocument i.whole (drop_document i.s a.p h)),
      takes_lift d e a.L a.p a.q i.s a.grafts takes,
    )

pub removed_is : (d : Data) (P : List (List ℕ)) (e : Data) → IsDocument d → after_remove d P ≡ Some e → IsRemoved d P e
removed_is d [] e hd is = cc
removed_is d (t ∷ P) e hd is = removed_below d t P e hd (altered_is _ d (front_of t P) e is)

pub removed_none : (d : Data) (P : List (List ℕ)) (e : Data) → after_remove d P ≡ None → IsRemoved d P e → ⊥
removed_none d [] e is h = no_end h.0 h.1 d h.2 h.3
removed_none d (t ∷ P) e is h =
    let i : Ends d t P h.0 h.1 h.2 = ends d t P h.0 h.1 h.2 h.3 in
    let a : (e : Data) × (after_remove d (t ∷ P) ≡ Some e) =
    altered_some _ d (front_of t P) h.0 i.p (drop_child h.1 i.p) i.front (search rules) in
    let b : after_remove d (t ∷ P) ≡ Some a.0 = a.1 in cc

-- where there is something to remove, a document is left
pub removed_there : (d : Data) (P : List (List ℕ)) (L : List Segment) (s : Segment) (c : Data) → IsDocument d → Resolves d P (L ++ s ∷ []) c → (e : Data) × IsRemoved d P e
removed_there d [] L s c hd h = absurd (no_end L s d c h)
removed_there d (t ∷ P) L s c hd h =
    let i : Ends d t P L s c = ends d t P L s c h in
    let a : (e : Data) × (after_remove d (t ∷ P) ≡ Some e) =
    altered_some _ d (front_of t P) L i.p (drop_child s i.p) i.front (search rules) in
    (a.0, removed_is d (t ∷ P) a.0 hd a.1)

takes_moved : (d e f : Data) (L : List Segment) (s : Segment) (X : List Segment) → TakesAt d e L s → TakesAt d f L s → IsMoved L s X → look e X ≡ look f X
takes_moved d e f L s X h g m = search rules

takes_same : (d e f : Data) (L : List Segment) (s : Segment) → TakesAt d e L s → TakesAt d f L s → (X : List Segment) → look e X ≡ look f X
takes_same d e f L s h g X = search (rules, takes_moved, moved_cases)

pub removed_one : (d : Data) (P : List (List ℕ)) (e f : Data) → IsRemoved d P e → IsRemoved d P f → e ≡ f
removed_one d P e f h g = search (rules, last_same, resolves_same, alike, takes_same)

-- ---- the computed document is the one that replace leaves, and the only one

replaced_by : (d : Data) (P : List (List ℕ)) (v e : Data) → IsDocument d → IsDocument v → IsAltered (λ c. Some v) d P e → IsReplaced d P v e
replaced_by d P v e hd hv a = search rules

pub replaced_is : (d : Data) (P : List (List ℕ)) (v e : Data) → IsDocument d → IsDocument v → after_replace d P v ≡ Some e → IsReplaced d P v e
replaced_is d P v e hd hv is = replaced_by d P v e hd hv (altered_is _ d P e is)

pub replaced_none : (d : Data) (P : List (List ℕ)) (v e : Data) → after_replace d P v ≡ None → IsReplaced d P v e → ⊥
replaced_none d P v e is h =
    let a : (e : Data) × (after_replace d P v ≡ Some e) = altered_some (λ c. Some v) d P h.0 h.1 v h.2 refl in
    let b : after_replace d P v ≡ Some a.0 = a.1 in cc

-- where something stands, a document is left
pub replaced_there : (d : Data) (P : List (List ℕ)) (v : Data) (L : List Segment) (c : Data) → IsDocument d → IsDocument v → Resolves d P L c → (e : Data) × IsReplaced d P v e
replaced_there d P v L c hd hv h =
    let a : (e : Data) × (after_replace d P v ≡ Some e) = altered_some (λ x. Some v) d P L c v h refl in
    (a.0, replaced_is d P v a.0 hd hv a.1)

sets_same : (d e f v : Data) (L : List Segment) → SetsAt d e v L → SetsAt d f v L → (X : List Segment) → look e X ≡ look f X
sets_same d e f v L h g X = search (rules, IsUnder L X, IsApart L X, under_cases L X, IsUnder, IsApart, under_cases)

pub replaced_one : (d : Data) (P : List (List ℕ)) (v e f : Data) → IsReplaced d P v e → IsReplaced d P v f → e ≡ f
replaced_one d P v e f h g = search (rules, resolves_same, alike, sets_same)

-- ---- each relation holds of exactly the document that is computed

exact : (Is : Data → Type 0) (o : Option Data) → ((e : Data) → o ≡ Some e → Is e) → ((e : Data) → o ≡ None → Is e → ⊥) → ((e f : Data) → Is e → Is f → e ≡ f)
    → (e : Data) → Is e → o ≡ Some e
exact Is None is none one e h = absurd (none e refl h)
exact Is (Some f) is none one e h = ap Some (one f e (is f refl) h)

pub added_exact : (d : Data) (P : List (List ℕ)) (v e : Data) → IsDocument d → IsDocument v → IsAdded d P v e → after_add d P v ≡ Some e
added_exact d P v e hd hv h = exact (IsAdded d P v) (after_add d P v) (λ f. added_is d P v f hd hv) (λ f. added_none d P v f) (λ f g. added_one d P v f g) e h

pub removed_exact : (d : Data) (P : List (List ℕ)) (e : Data) → IsDocument d → IsRemoved d P e → after_remove d P ≡ Some e
removed_exact d P e hd h = exact (IsRemoved d P) (after_remove d P) (λ f. removed_is d P f hd) (λ f. removed_none d P f) (λ f g. removed_one d P f g) e h

pub replaced_exact : (d : Data) (P : List (List ℕ)) (v e : Data) → IsDocument d → IsDocument v → IsReplaced d P v e → after_replace d P v ≡ Some e
replaced_exact d P v e hd hv h = exact (IsReplaced d P v) (after_replace d P v) (λ f. replaced_is d P v f hd hv) (λ f. replaced_none d P v f) (λ f g. replaced_one d P v f g) e h

-- ---- both ways

pub added_computed : (d : Data) (P : List (List ℕ)) (v e : Data) → IsDocument d → IsDocument v → IsAdded d P v e ↔ (after_add d P v ≡ Some e)
added_computed d P v e hd hv = (added_exact d P v e hd hv, added_is d P v e hd hv)

pub removed_computed : (d : Data) (P : List (List ℕ)) (e : Data) → IsDocument d → IsRemoved d P e ↔ (after_remove d P ≡ Some e)
removed_computed d P e hd = (removed_exact d P e hd, removed_is d P e hd)

pub replaced_computed : (d : Data) (P : List (List ℕ)) (v e : Data) → IsDocument d → IsDocument v → IsReplaced d P v e ↔ (after_replace d P v ≡ Some e)
replaced_computed d P v e hd hv = (replaced_exact d P v e hd hv, replaced_is d P v e hd hv)

-- The tokens that a list shares are those that are computed.
use Rattle.json_patch_laws.proofs.Common.{common_steps, ◌≡◌, ◌↔◌, ◌+◌, ◌<◌, ◌≤◌, ℕ, suc, List, [], ◌∷◌, ◌++◌, length, drop}
use Rattle.json_patch_laws.proofs.Common.{add-one, arith, append_assoc, append-nil, Bool, true, bytes_eq, if◌then◌else◌}
use Rattle.json_patch_laws.proofs.Common.{Option, Some, None, IfNone, refl, sym, ap, ◌∙◌, subst, rules, bytes_eq-Decides}
use Rattle.json_patch_laws.proofs.Common.{Pointer, IsPrefix, IsProperPrefix, IsLongestShared, Operation, add, remove}
use Rattle.json_patch_laws.proofs.Common.{replace, move, copy, test, operation_of, operations, path_of, from_of}
use Rattle.json_patch_laws.proofs.Common.{PatchOperation, front_of, last_of, common_prefix, all_pointers, parents_of}
use Rattle.json_patch_laws.proofs.Common.{shared_of, shared_tokens, IsLongest, IsWithin, AreWithin, IsNotEmpty, IsShared}
use Rattle.json_patch_edit.proofs.Locations.{split_whole, split_is}
use Rattle.json_patch_laws.proofs.Common.{get_or}

-- the operation at k
abbrev pub IsAt : List PatchOperation → ℕ → PatchOperation → Type 0
IsAt os k o = o ≡ get_or os k o

-- ---- the longest beginning that is shared

prefix_trans : (P Q R : Pointer) → IsPrefix P Q → IsPrefix Q R → IsPrefix P R
prefix_trans P Q R h g = (h.0 ++ g.0, g.1 ∙ ap (λ X. X ++ g.0) h.1 ∙ append_assoc P h.0 g.0)

prefix_more : (t : List ℕ) (P Q : Pointer) → IsPrefix P Q → IsPrefix (t ∷ P) (t ∷ Q)
prefix_more t P Q h = (h.0, ap (λ X. t ∷ X) h.1)

either : (b : Bool) (X : Pointer → Type 0) (P : Pointer) → (b ≡ true → X P) → X [] → X (if b then P else [])
either b X P h g = search rules

common_left : (P Q : Pointer) → IsPrefix (common_prefix P Q) P
common_left (t ∷ P) (u ∷ Q) = either (bytes_eq t u) (λ X. IsPrefix X (t ∷ P)) (t ∷ common_prefix P Q) (λ e. prefix_more t (common_prefix P Q) P (common_left P Q)) (t ∷ P, refl)
common_left P Q = search rules

common_right : (P Q : Pointer) → IsPrefix (common_prefix P Q) Q
common_right (t ∷ P) (u ∷ Q) =
    either (bytes_eq t u) (λ X. IsPrefix X (u ∷ Q)) (t ∷ common_prefix P Q)
    (λ e. subst (λ x. IsPrefix (x ∷ common_prefix P Q) (u ∷ Q)) (sym ((bytes_eq-Decides t u).0 e)) (prefix_more u (common_prefix P Q) Q (common_right P Q))) (u ∷ Q, refl)
common_right P Q = search rules

common_longest : (T P Q : Pointer) → IsPrefix T P → IsPrefix T Q → IsPrefix T (common_prefix P Q)
common_longest (t ∷ T) (u ∷ P) (w ∷ Q) h g = search (rules, bytes_eq, bytes_eq-Decides, common_longest T P Q)
common_longest T P Q h g = search rules

push_some : (R : Pointer) (t : List ℕ) → (y : List ℕ) × (Y : Pointer) × (R ++ t ∷ [] ≡ y ∷ Y)
push_some [] t = (t, [], refl)
push_some (u ∷ R) t = (u, R ++ t ∷ [], refl)

front_proper : (T : Pointer) (t : List ℕ) (P : Pointer) → IsPrefix T (front_of t P) → IsProperPrefix T (t ∷ P)
front_proper T t P h = search (rules, push_some h.0 (last_of t P), split_whole t P, append_assoc T h.0 (last_of t P ∷ []), push_some, split_whole, append_assoc)

pub proper_front : (T : Pointer) (t : List ℕ) (P : Pointer) → IsProperPrefix T (t ∷ P) → IsPrefix T (front_of t P)
proper_front T t P h = search (rules, split_whole h.0 h.1, append_assoc T (front_of h.0 h.1) (last_of h.0 h.1 ∷ []), split_is t P (T ++ front_of h.0 h.1) (last_of h.0 h.1), split_whole, append_assoc, split_is)

pub no_proper : (T : Pointer) → IsProperPrefix T [] → ⊥
no_proper [] h = let e : [] ≡ h.0 ∷ h.1 = h.2 in cc
no_proper (t ∷ T) h = let e : [] ≡ t ∷ (T ++ h.0 ∷ h.1) = h.2 in cc

abbrev AllBegun : Pointer → List Pointer → Type 0
AllBegun S [] = Unit {0}
AllBegun S (P ∷ Ps) = IsProperPrefix S P × AllBegun S Ps

record Longest (S : Pointer) (Ps : List Pointer) (R : Pointer) : Type 0 where
  first : IsPrefix R S
  all : AllBegun R Ps
  longest : (T : Pointer) → IsPrefix T S → AllBegun T Ps → IsPrefix T R

parents_longest : (S : Pointer) (Ps : List Pointer) (R : Pointer) → parents_of S Ps ≡ Some R → Longest S Ps R
parents_longest S ((t ∷ P) ∷ Ps) R is =
    let i : Longest (common_prefix S (front_of t P)) Ps R = parents_longest (common_prefix S (front_of t P)) Ps R is in
    record {
      first = prefix_trans R (common_prefix S (front_of t P)) S i.first (common_left S (front_of t P));
      all = (front_proper R t P (prefix_trans R (common_prefix S (front_of t P)) (front_of t P) i.first (common_right S (front_of t P))), i.all);
      longest = λ T h g. i.longest T (common_longest T S (front_of t P) h (proper_front T t P g.0)) g.1;
    }
parents_longest S Ps R is = search (rules, append-nil)

parents_none : (S : Pointer) (Ps : List Pointer) (T : Pointer) → parents_of S Ps ≡ None → AllBegun T Ps → ⊥
parents_none S ((t ∷ P) ∷ Ps) T is h = parents_none (common_prefix S (front_of t P)) Ps T is h.1
parents_none S Ps T is h = search (rules, no_proper)

shared_longest : (Ps : List Pointer) (S : Pointer) → shared_of Ps ≡ Some S → AllBegun S Ps × ((T : Pointer) → AllBegun T Ps → IsPrefix T S)
shared_longest ((t ∷ P) ∷ Ps) S is = search (rules, parents_longest (front_of t P) Ps S is, front_proper S t P, proper_front, parents_longest, front_proper)
shared_longest Ps S is = search rules

shared_none : (Ps : List Pointer) (T : Pointer) → (Ps ≡ [] → ⊥) → shared_of Ps ≡ None → AllBegun T Ps → ⊥
shared_none ((t ∷ P) ∷ Ps) T some is h = parents_none (front_of t P) Ps T is h.1
shared_none Ps T some is h = search (rules, no_proper)

within_begun : (S : Pointer) (ops : List Operation) → AreWithin S ops → AllBegun S (all_pointers ops)
within_begun S [] h = tt
within_begun S (add P v ∷ ops) h = (h.0, within_begun S ops h.1)
within_begun S (remove P ∷ ops) h = (h.0, within_begun S ops h.1)
within_begun S (replace P v ∷ ops) h = (h.0, within_begun S ops h.1)
within_begun S (move F P ∷ ops) h = (h.0.0, (h.0.1, within_begun S ops h.1))
within_begun S (copy F P ∷ ops) h = (h.0.0, (h.0.1, within_begun S ops h.1))
within_begun S (test P v ∷ ops) h = (h.0, within_begun S ops h.1)

begun_within : (S : Pointer) (ops : List Operation) → AllBegun S (all_pointers ops) → AreWithin S ops
begun_within S [] h = tt
begun_within S (add P v ∷ ops) h = (h.0, begun_within S ops h.1)
begun_within S (remove P ∷ ops) h = (h.0, begun_within S ops h.1)
begun_within S (replace P v ∷ ops) h = (h.0, begun_within S ops h.1)
begun_within S (move F P ∷ ops) h = ((h.0, h.1.0), begun_within S ops h.1.1)
begun_within S (copy F P ∷ ops) h = ((h.0, h.1.0), begun_within S ops h.1.1)
begun_within S (test P v ∷ ops) h = (h.0, begun_within S ops h.1)

some_pointers : (ops : List Operation) → IsNotEmpty ops → all_pointers ops ≡ [] → ⊥
some_pointers ops h e = search rules

pub shared_is : (ops : List Operation) (S : Pointer) → shared_tokens ops ≡ Some S → IsShared ops S
shared_is [] S is = cc
shared_is (op ∷ ops) S is = search (rules, shared_longest (all_pointers (op ∷ ops)) S is, begun_within S (op ∷ ops), within_begun, shared_longest, begun_within)

pub not_shared : (ops : List Operation) (S : Pointer) → shared_tokens ops ≡ None → IsShared ops S → ⊥
not_shared ops S is h = shared_none (all_pointers ops) S (some_pointers ops h.some) is (within_begun S ops h.within)

prefix_same : (P Q : Pointer) → IsPrefix P Q → IsPrefix Q P → P ≡ Q
prefix_same [] (u ∷ Q) h g = let e : [] ≡ u ∷ (Q ++ g.0) = g.1 in cc
prefix_same (t ∷ P) (u ∷ Q) h g = search (rules, prefix_same P Q)
prefix_same P Q h g = search rules

pub shared_one : (ops : List Operation) (S T : Pointer) → IsShared ops S → IsShared ops T → S ≡ T
shared_one ops S T h g = prefix_same S T (g.longest S h.within) (h.longest T g.within)

on_shared : (ops : List Operation) (S : Pointer) (o : Option Pointer) → shared_tokens ops ≡ o → IsShared ops S → o ≡ Some S
on_shared ops S None is h = absurd (not_shared ops S is h)
on_shared ops S (Some T) is h = ap Some (shared_one ops T S (shared_is ops T is) h)

pub shared_exactly : (ops : List Operation) (S : Pointer) → IsShared ops S → shared_tokens ops ≡ Some S
shared_exactly ops S h = on_shared ops S (shared_tokens ops) refl h

pub shared_iff : (ops : List Operation) (S : Pointer) → IsShared ops S ↔ (shared_tokens ops ≡ Some S)
shared_iff ops S = (λ h. shared_exactly ops S h, λ h. shared_is ops S h)

-- ---- by what is looked up of each operation

prefix_proper : (T A : Pointer) (a : List ℕ) → IsPrefix T A → IsProperPrefix T (A ++ a ∷ [])
prefix_proper T A a h = search (rules, push_some h.0 a, append_assoc T h.0 (a ∷ []), push_some, append_assoc)

proper_prefix : (T A : Pointer) (a : List ℕ) → IsProperPrefix T (A ++ a ∷ []) → IsPrefix T A
proper_prefix T A a h =
    let y = push_some A a in
    subst (IsPrefix T) (sym (split_is y.0 y.1 A a (sym y.2)).0) (proper_front T y.0 y.1 (subst (IsProperPrefix T) y.2 h))

alone_within : (T : Pointer) (op : Operation) → from_of op ≡ None → IsWithin T op ↔ IsProperPrefix T (path_of op)
alone_within T op none = search rules

both_within : (T F : Pointer) (op : Operation) → from_of op ≡ Some F → IsWithin T op ↔ (IsProperPrefix T F × IsProperPrefix T (path_of op))
both_within T F op some = search rules

pub root_within : (op : Operation) → path_of op ≡ [] → (T : Pointer) → IsWithin T op → ⊥
root_within (add P v) root T h = no_proper T (subst (IsProperPrefix T) root h)
root_within (remove P) root T h = no_proper T (subst (IsProperPrefix T) root h)
root_within (replace P v) root T h = no_proper T (subst (IsProperPrefix T) root h)
root_within (move F P) root T h = no_proper T (subst (IsProperPrefix T) root h.1)
root_within (copy F P) root T h = no_proper T (subst (IsProperPrefix T) root h.1)
root_within (test P v) root T h = no_proper T (subst (IsProperPrefix T) root h)

pub root_source : (F : Pointer) (op : Operation) → from_of op ≡ Some F → F ≡ [] → (T : Pointer) → IsWithin T op → ⊥
root_source F op some root T h = no_proper T (subst (IsProperPrefix T) root ((both_within T F op some).0 h).0)

pub parent_longest : (op : Operation) (A : Pointer) (a : List ℕ) → from_of op ≡ None → path_of op ≡ A ++ a ∷ [] → IsLongest (λ T. IsWithin T op) A
parent_longest op A a none is = λ T.
    let w = alone_within T op none in
    (λ h. proper_prefix T A a (subst (IsProperPrefix T) is (w.0 h)), λ h. w.1 (subst (IsProperPrefix T) (sym is) (prefix_proper T A a h)))

pub both_longest : (op : Operation) (F A B C : Pointer) (a b : List ℕ) → from_of op ≡ Some F → path_of op ≡ A ++ a ∷ [] → F ≡ B ++ b ∷ [] → IsLongestShared A B C → IsLongest (λ T. IsWithin T op) C
both_longest op F A B C a b some is at m = λ T.
    let w = both_within T F op some in (
      λ h. m.2 T (proper_prefix T A a (subst (IsProperPrefix T) is (w.0 h).1)) (proper_prefix T B b (subst (IsProperPrefix T) at (w.0 h).0)),
      λ h. w.1 (subst (IsProperPrefix T) (sym at) (prefix_proper T B b (prefix_trans T C B h m.1)), subst (IsProperPrefix T) (sym is) (prefix_proper T A a (prefix_trans T C A h m.0))),
    )

-- ---- over a list of operations of the program: the first, and of the rest those before k, are gone over

abbrev pub Shares : List PatchOperation → List PatchOperation → ℕ → Pointer → Type 0
Shares os rest k S = (T : Pointer) → AreWithin T (operations os) ↔ (IsPrefix T S × AreWithin T (drop k (operations rest)))

pub shares_first : (os rest : List PatchOperation) (first : PatchOperation) (S : Pointer) → os ≡ first ∷ rest → IsLongest (λ T. IsWithin T (operation_of first)) S → Shares os rest 0 S
shares_first os rest first S is h = rw is (λ T. (λ w. ((h T).0 w.0, w.1), λ w. ((h T).1 w.0, w.1)))

within_at : (T : Pointer) (os : List PatchOperation) (k : ℕ) (o : PatchOperation) → k < length os → IsAt os k o
    → AreWithin T (drop k (operations os)) ↔ (IsWithin T (operation_of o) × AreWithin T (drop (suc k) (operations os)))
within_at T (x ∷ os) (suc k) o less is = within_at T os k o (omega arith) is
within_at T os k o less is = search rules

pub shares_more : (os rest : List PatchOperation) (k : ℕ) (o : PatchOperation) (S P C : Pointer) → k < length rest → IsAt rest k o → Shares os rest k S
    → IsLongest (λ T. IsWithin T (operation_of o)) P → IsLongestShared S P C → Shares os rest (k + 1) C
shares_more os rest k o S P C less is h p m =
    subst (λ n. Shares os rest n C) (sym (add-one k)) (λ T.
    let w = within_at T rest k o less is in (
      λ a. let l = (h T).0 a in let i = w.0 l.1 in (m.2 T l.0 ((p T).0 i.0), i.1),
      λ a. (h T).1 (prefix_trans T C S a.0 m.0, w.1 ((p T).1 (prefix_trans T C P a.0 m.1), a.1)),
    ))

none_left : (T : Pointer) (os : List PatchOperation) (k : ℕ) → length os ≤ k → AreWithin T (drop k (operations os))
none_left T os k le = grind (arith, common_steps)

pub shares_all : (os rest : List PatchOperation) (first : PatchOperation) (k : ℕ) (S : Pointer) → os ≡ first ∷ rest → length rest ≤ k → Shares os rest k S → IsShared (operations os) S
shares_all os rest first k S is le h = record {
  some = rw is tt;
  within = (h S).1 (([], sym (append-nil S)), none_left S rest k le);
  longest = λ T w. ((h T).0 w).0;
}

pub shares_none : (os rest : List PatchOperation) (k : ℕ) (o : PatchOperation) (S : Pointer) → k < length rest → IsAt rest k o → Shares os rest k S
    → ((T : Pointer) → IsWithin T (operation_of o) → ⊥) → (T : Pointer) → IsShared (operations os) T → ⊥
shares_none os rest k o S less is h none T shared = none T ((within_at T rest k o less is).0 ((h T).0 shared.within).1).0

pub first_shares_none : (os rest : List PatchOperation) (first : PatchOperation) → os ≡ first ∷ rest → ((T : Pointer) → IsWithin T (operation_of first) → ⊥) → (T : Pointer) → IsShared (operations os) T → ⊥
first_shares_none os rest first is none T shared = none T (subst (λ xs. AreWithin T (operations xs)) is shared.within).0

pub even_if_none : {T : Type 0} (o : Option T) (P : Type 0) → P → IfNone o P
even_if_none o P h = search rules

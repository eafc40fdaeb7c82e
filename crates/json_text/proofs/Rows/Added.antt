-- For the code that puts a value in, which hands on copies.
use Rattle.std.proofs.Common.{◌≡◌, ℕ, ◌+◌, ◌^◌, ◌<◌, ◌≤◌, arith, length-drop, Bool, true, false, List, [], ◌∷◌, ◌++◌, length, take, drop, Option, Some, None, sym, ap, ◌∙◌, subst}
use Rattle.std.specs.Prelude.{IfOk, MatchOption, Result, Ok, Err}
use Rattle.json.specs.Json.{Json}
use Rattle.json.specs.Print.{quoted}
use Rattle.json_text.specs.Added.{IsPutInto}
use Rattle.jsonptr.specs.Indexes.{IsIndexText, IsNoIndexText, place_in}
use Rattle.jsonptr.specs.declared.index.Index.{Index}
use Rattle.json_text.specs.Changed.{add_child, slot_in}
use Rattle.json_text.specs.Pointed.{child}
use Rattle.json_text.specs.Rows.{AreInOrder, Child, HasRow, IsComma, IsInside, IsLast, IsMember, IsMemberAhead, IsNumbered, IsTrail, tree_in}
use Rattle.json_lexemes.specs.Spelled.{Says}
use Rattle.json_text.specs.declared.parts.Numbered.{Numbered}
use Rattle.json_lexemes.proofs.Nests.{one_tree}
use Rattle.json_text.proofs.Rows.Befores.{count_within, element_before, last_count, no_slot, no_slot_past, nothing_added, slot_by}
use Rattle.json_text.proofs.Rows.Grows.{element_behind, first_element, first_member, member_behind}

pub if_grown : {A E : Type 0} (r : Result A E) (bytes : A → List ℕ) (whole : List ℕ → List ℕ) (is : List ℕ) (N : Json → Type 0) (P : Json → List ℕ → Type 0) → IfOk r (λ a. bytes a ≡ whole is) → ((v : Json) → N v → P v is)
    → IfOk r (λ a. (v : Json) → N v → (grown : List ℕ) × (bytes a ≡ whole grown) × P v grown)
if_grown (Ok a) bytes whole is N P e p = λ v n. (is, e, p v n)
if_grown (Err x) bytes whole is N P e p = tt

pub at_start : (t k put ahead : List ℕ) (i : ℕ) → HasRow t true i → ((cs : List Child) → IsInside t true cs i → cs ≡ []) → ahead ≡ quoted k ++ (58 ∷ []) → i ≤ length t → (v : Json) → Says t v → IsPutInto t v k put (take i t ++ (ahead ++ (put ++ ([] ++ drop i t))))
at_start t k put ahead i (cs, says, inside) none e w v is =
    subst (λ x. IsPutInto t x k put (take i t ++ (ahead ++ (put ++ ([] ++ drop i t))))) (one_tree t (tree_in true cs) v says is)
    (subst (λ a. IsPutInto t (tree_in true cs) k put (take i t ++ (a ++ (put ++ ([] ++ drop i t))))) (sym e) (first_member t k put cs i says (none cs inside) inside w))

pub last_member : (t : List ℕ) (n : ℕ) (r : Numbered) (i : ℕ) → HasRow t true i → ((cs : List Child) → IsInside t true cs i → IsLast t true cs n r) → IsMember t n r
last_member t n r i (cs, says, inside) last = (cs, says, (last cs inside).numbered)

pub at_end : (t k put ahead : List ℕ) (i n : ℕ) (r : Numbered) → HasRow t true i → ((cs : List Child) → IsInside t true cs i → IsLast t true cs n r) → AreInOrder t r.part → IsMemberAhead t r k ahead → ((v : Json) → Says t v → child k v ≡ None)
    → (v : Json) → Says t v → IsPutInto t v k put (take r.part.value.end t ++ (ahead ++ (put ++ ([] ++ drop r.part.value.end t))))
at_end t k put ahead i n r (cs, says, inside) last o a none v is =
    subst (λ x. IsPutInto t x k put (take r.part.value.end t ++ (ahead ++ (put ++ ([] ++ drop r.part.value.end t))))) (one_tree t (tree_in true cs) v says is)
    (member_behind t k put ahead cs n r says (none (tree_in true cs) says) (last cs inside) o a)

pub same_last : (copy t : List ℕ) (b : Bool) (n : ℕ) (r : Numbered) (i : ℕ) → copy ≡ t → ((cs : List Child) → IsInside copy b cs i → IsLast copy b cs n r) → (cs : List Child) → IsInside t b cs i → IsLast t b cs n r
same_last copy t b n r i e f = subst (λ x. (cs : List Child) → IsInside x b cs i → IsLast x b cs n r) e f

-- ---- elements

pub chosen_slot : (t k : List ℕ) (index : Index) (count m : ℕ) (cs : List Child) → IsIndexText k index → count ≡ length cs → m ≡ place_in index count → m ≤ count → slot_in k (length cs) ≡ Some m
chosen_slot t k index count m cs x e p h = subst (λ n. slot_in k n ≡ Some m) e (slot_by k index count m x p h)

pub no_index : (t k : List ℕ) (i : ℕ) → HasRow t false i → length t < 2 ^ 64 → IsNoIndexText k → (v : Json) → Says t v → (w : Json) → add_child k w v ≡ None
no_index t k i (cs, says, h) l x v is w = subst (λ y. add_child k w y ≡ None) (one_tree t (tree_in false cs) v says is) (nothing_added k w cs (no_slot k (length cs) (omega (arith, l, count_within t cs says)) x))

pub past_end : (t k : List ℕ) (i count : ℕ) (index : Index) → HasRow t false i → ((cs : List Child) → IsInside t false cs i → count ≡ length cs) → IsIndexText k index → count < place_in index count → (v : Json) → Says t v → (w : Json) → add_child k w v ≡ None
past_end t k i count index (cs, says, h) counted x p v is w =
    subst (λ y. add_child k w y ≡ None) (one_tree t (tree_in false cs) v says is) (nothing_added k w cs (subst (λ n. slot_in k n ≡ None) (counted cs h) (no_slot_past k index count x p)))

-- what the count tells
pub counted_by : (t : List ℕ) (cs : List Child) (last : Option (ℕ × Numbered)) (count : ℕ) → MatchOption last (cs ≡ []) (λ r. IsLast t false cs r.0 r.1) → MatchOption last (count ≡ 0) (λ r. count ≡ r.0 + 1) → count ≡ length cs
counted_by t cs None count e c = c ∙ ap length (sym e)
counted_by t cs (Some r) count l c = c ∙ sym (last_count t cs r.0 r.1 l)

pub before_put : (t k put trail : List ℕ) (i m : ℕ) (r : Numbered) → HasRow t false i → ((cs : List Child) → IsInside t false cs i → slot_in k (length cs) ≡ Some m) → ((cs : List Child) → IsInside t false cs i → IsNumbered t false cs m r) → AreInOrder t r.part → IsTrail t i m r trail
    → (v : Json) → Says t v → IsPutInto t v k put (take r.part.start t ++ ([] ++ (put ++ (trail ++ drop r.part.start t))))
before_put t k put trail i m r (cs, says, h) slot num o x v is =
    subst (λ y. IsPutInto t y k put (take r.part.start t ++ ([] ++ (put ++ (trail ++ drop r.part.start t))))) (one_tree t (tree_in false cs) v says is)
    (element_before t k put trail cs m i r says (slot cs h) (num cs h) o h x)

pub alone_put : (t k put : List ℕ) (i m : ℕ) → HasRow t false i → ((cs : List Child) → IsInside t false cs i → slot_in k (length cs) ≡ Some m) → ((cs : List Child) → IsInside t false cs i → m ≤ length cs) → ((cs : List Child) → IsInside t false cs i → cs ≡ []) → i ≤ length t
    → (v : Json) → Says t v → IsPutInto t v k put (take i t ++ ([] ++ (put ++ ([] ++ drop i t))))
alone_put t k put i m (cs, says, h) slot within none w v is =
    let empty : length cs ≡ 0 = ap length (none cs h) in
    let zero_is : m ≡ 0 = omega (arith, within cs h, empty) in
    subst (λ y. IsPutInto t y k put (take i t ++ ([] ++ (put ++ ([] ++ drop i t))))) (one_tree t (tree_in false cs) v says is)
    (first_element t k put cs i says (ap (slot_in k) (sym empty) ∙ slot cs h ∙ ap Some zero_is) (none cs h) h w)

pub behind_put : (t k put ahead : List ℕ) (i m n : ℕ) (r : Numbered) → HasRow t false i → ((cs : List Child) → IsInside t false cs i → slot_in k (length cs) ≡ Some m) → ((cs : List Child) → IsInside t false cs i → m ≤ length cs) → ((cs : List Child) → IsInside t false cs i → drop m cs ≡ [])
    → ((cs : List Child) → IsInside t false cs i → IsLast t false cs n r) → AreInOrder t r.part → IsComma t r.part.start ahead → (v : Json) → Says t v → IsPutInto t v k put (take r.part.value.end t ++ (ahead ++ (put ++ ([] ++ drop r.part.value.end t))))
behind_put t k put ahead i m n r (cs, says, h) slot within past last o c v is =
    let all : m ≡ length cs = omega (arith, within cs h, ap length (past cs h), length-drop m cs) in
    subst (λ y. IsPutInto t y k put (take r.part.value.end t ++ (ahead ++ (put ++ ([] ++ drop r.part.value.end t))))) (one_tree t (tree_in false cs) v says is)
    (element_behind t k put ahead cs n r says (slot cs h ∙ ap Some all) (last cs h) o c)

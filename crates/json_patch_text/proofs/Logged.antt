-- What a run keeps to take its operations back, one more each time.
use Rattle.std.proofs.Common.{◌≡◌, ◌<◌, ◌≤◌, ◌+◌, ◌-◌, ℕ, zero, suc, List, [], ◌∷◌, ◌++◌, length, map, take, get_or, Bool, true, false, Some, Result, Ok, Err, IfOk, if◌then◌else◌, String, Global, string_bytes, refl, sym, ap, ap₂, ◌∙◌, subst, append_assoc, append-nil, length-append, add-one, arith}
use Rattle.std.proofs.lemmas.List.{length-map, length-reverse, map-append, reverse-append, take_all}
use Rattle.std.proofs.lemmas.Bool.{false≢true}
use Rattle.std.specs.Prelude.{reverse}
use Rattle.json.specs.Json.{Json}
use Rattle.json_lexemes.specs.Spelled.{IsShallowText, Says}
use Rattle.json_text.specs.Removed.{IsRemoved}
use Rattle.json_text.specs.Pointed.{IsWrittenAt, tree_at}
use Rattle.jsonptr.specs.Text.{Pointer}
use Rattle.json_text.specs.Cuts.{pieces_text, row_text}
use Rattle.json_patch_text.specs.Logs.{AreLogged, HasLog, Logs, comma_before}
use Rattle.json_patch_text.specs.Undos.{IsMovedBack, PutsBack, TakesBack, backward_text, element_text, undo_list, undo_text}
use Rattle.json_patch_text.specs.declared.log.Log.{Log}
use Rattle.json_patch_text.specs.declared.undo.Undo.{Undo}
use Rattle.json_patch_text.specs.declared.undo.Undo.TheVariants as undo

-- ---- the text of a list

-- what comes behind so many elements
abbrev pub behind : ℕ → List (List ℕ) → List ℕ
behind k [] = 93 ∷ []
behind k (t ∷ ts) = comma_before k ++ (t ++ behind (suc k) ts)

pieces_behind : (k : ℕ) (ts : List (List ℕ)) → pieces_text 44 (map element_text ts) ++ 93 ∷ [] ≡ behind (suc k) ts
pieces_behind k [] = refl
pieces_behind k (t ∷ ts) =
    ap (λ l. 44 ∷ l) (append_assoc (t ++ []) (pieces_text 44 (map element_text ts)) (93 ∷ []) ∙ ap₂ (λ x y. x ++ y) (append-nil t) (pieces_behind (suc k) ts))

row_behind : (ts : List (List ℕ)) → row_text false [] (map element_text ts) ≡ 91 ∷ behind 0 ts
row_behind [] = refl
row_behind (t ∷ ts) =
    ap (λ l. 91 ∷ l) (append_assoc (t ++ []) (pieces_text 44 (map element_text ts)) (93 ∷ []) ∙ ap₂ (λ x y. x ++ y) (append-nil t) (pieces_behind 0 ts))

reversed_last : (ts : List (List ℕ)) (t : List ℕ) → reverse (ts ++ t ∷ []) ≡ t ∷ reverse ts
reversed_last ts t = reverse-append ts (t ∷ [])

-- ---- its length

same_behind : (k m : ℕ) (ts : List (List ℕ)) → behind (suc k) ts ≡ behind (suc m) ts
same_behind k m [] = refl
same_behind k m (t ∷ ts) = ap (λ l. 44 ∷ (t ++ l)) (same_behind (suc k) (suc m) ts)

later_longer : (ts : List (List ℕ)) → length (behind 1 ts) ≡ length (behind 0 ts) + length (comma_before (length ts))
later_longer [] = refl
later_longer (t ∷ ts) =
    let same : length (t ++ behind 2 ts) ≡ length (t ++ behind 1 ts) = ap (λ l. length (t ++ l)) (same_behind 1 0 ts) in
    let all : length (behind 1 (t ∷ ts)) ≡ suc (length (t ++ behind 2 ts)) = refl in
    let first : length (behind 0 (t ∷ ts)) ≡ length (t ++ behind 1 ts) = refl in
    let one : length (comma_before (length (t ∷ ts))) ≡ 1 = refl in
    omega (arith, same, all, first, one)

pub one_longer : (ts : List (List ℕ)) (t : List ℕ) → length (backward_text (ts ++ t ∷ [])) ≡ length (backward_text ts) + (length (comma_before (length ts)) + length t)
one_longer ts t =
    let a : length (backward_text (ts ++ t ∷ [])) ≡ length (91 ∷ behind 0 (t ∷ reverse ts)) = ap length (row_behind (reverse (ts ++ t ∷ [])) ∙ ap (λ l. 91 ∷ behind 0 l) (reversed_last ts t)) in
    let b : length (backward_text ts) ≡ length (91 ∷ behind 0 (reverse ts)) = ap length (row_behind (reverse ts)) in
    let c : length (t ++ behind 1 (reverse ts)) ≡ length t + length (behind 1 (reverse ts)) = length-append t (behind 1 (reverse ts)) in
    let d = later_longer (reverse ts) in
    let e : length (comma_before (length (reverse ts))) ≡ length (comma_before (length ts)) = ap (λ n. length (comma_before n)) (length-reverse ts) in
    omega (arith, a, b, c, d, e)

pub logged : (old : Log) (u : Undo) (t : String Global) (c : List ℕ) (n : ℕ) (items : List (String Global)) (size : ℕ) → n ≡ length old.texts.items → c ≡ comma_before n → string_bytes t ≡ undo_text u → items ≡ old.texts.items ++ t ∷ [] → size ≡ old.size + (length c + length (string_bytes t))
    → (us : List Undo) → HasLog old us → (map string_bytes items ≡ map undo_text (us ++ u ∷ [])) × (size ≡ length (undo_list (us ++ u ∷ [])))
logged old u t c n items size number comma same pushed longer us h =
    let texts : map string_bytes items ≡ map string_bytes old.texts.items ++ undo_text u ∷ [] = ap (map string_bytes) pushed ∙ map-append string_bytes old.texts.items (t ∷ []) ∙ ap (λ l. map string_bytes old.texts.items ++ l ∷ []) same in
    let ts : map undo_text (us ++ u ∷ []) ≡ map undo_text us ++ undo_text u ∷ [] = map-append undo_text us (u ∷ []) in
    let count : n ≡ length (map undo_text us) = number ∙ sym (length-map old.texts.items string_bytes) ∙ ap length h.0 in
    let more = one_longer (map undo_text us) (undo_text u) in
    let a : length c ≡ length (comma_before (length (map undo_text us))) = ap length comma ∙ ap (λ m. length (comma_before m)) count in
    let b : length (undo_list (us ++ u ∷ [])) ≡ length (backward_text (map undo_text us ++ undo_text u ∷ [])) = ap (λ l. length (backward_text l)) ts in
    let d : length (string_bytes t) ≡ length (undo_text u) = ap length same in
    let e = h.1 in
    (texts ∙ ap (λ l. l ++ undo_text u ∷ []) h.0 ∙ sym ts, omega (arith, longer, more, a, b, d, e))

-- what comes of a call that logs u
pub logs_one : {A E : Type 0} (old new : Log) (r : Result A E) (u : Undo) (Is : List Undo → Type 0) → IfOk r (λ none. new.kept ≡ old.kept) → IfOk r (λ none. AreLogged old (u ∷ []) new) → Is (u ∷ []) → IfOk r (λ none. Logs old Is new)
logs_one old new (Ok x) u Is k l is = (k, λ on. (u ∷ [], is, l))
logs_one old new (Err f) u Is k l is = tt

pub chosen_then : (b : Bool) (u x y : Undo) → b ≡ true → u ≡ x → u ≡ (if b then x else y)
chosen_then true u x y on e = e
chosen_then false u x y on e = absurd (false≢true on)

pub chosen_else : (b : Bool) (u x y : Undo) → b ≡ false → u ≡ y → u ≡ (if b then x else y)
chosen_else true u x y off e = absurd (false≢true (sym off))
chosen_else false u x y off e = e

-- and one that logs what stands in the text where P leads
pub logs_put : {A E : Type 0} (exchanged : Bool) (text : List ℕ) (P place : Pointer) (old new : Log) (r : Result A E) (s : String Global) (u : Undo) → place ≡ P → u ≡ (if exchanged then undo.Replace place s else undo.Add place s) → (j : Json) × IsShallowText text j × IsWrittenAt text j P (string_bytes s)
    → IfOk r (λ none. new.kept ≡ old.kept) → IfOk r (λ none. AreLogged old (u ∷ []) new) → IfOk r (λ none. (i v : Json) → Says text i → tree_at P i ≡ Some v → Logs old (PutsBack exchanged text P) new)
logs_put exchanged text P place old new (Ok x) s u same is (j, shallow, written) k l = λ i v said at.
    (k, λ on. (u ∷ [], (s, ap (λ y. y ∷ []) (is ∙ ap (λ X. if exchanged then undo.Replace X s else undo.Add X s) same), (j, shallow.0, written)), l))
logs_put exchanged text P place old new (Err f) s u same is there k l = tt

-- ---- what is logged one after another

pub logs_joined : (old mid new : Log) (A B C : List Undo → Type 0) → Logs old A mid → Logs mid B new → ((vs ws : List Undo) → A vs → B ws → C (vs ++ ws)) → Logs old C new
logs_joined old mid new A B C (e, first) (f, second) join = (
  f ∙ e,
  λ k.
      let (vs, a, x) = first k in
      let (ws, b, y) = second (e ∙ k) in
      (vs ++ ws, join vs ws a b, λ us h. subst (HasLog new) (append_assoc us vs ws) (y (us ++ vs) (x us h))),
)

pub logs_weaker : (old new : Log) (A B : List Undo → Type 0) → ((us : List Undo) → A us → B us) → Logs old A new → Logs old B new
logs_weaker old new A B f (e, h) = (e, λ k. let (vs, a, x) = h k in (vs, f vs a, x))

pub logs_moved : {A E : Type 0} (text less : List ℕ) (F P : Pointer) (old mid new : Log) (r : Result A E) → IsRemoved text F less → Logs old (PutsBack false text F) mid → IfOk r (λ none. Logs mid (λ us. (u : Undo) × (us ≡ u ∷ []) × TakesBack less P u) new) → IfOk r (λ none. Logs old (IsMovedBack text F P) new)
logs_moved text less F P old mid new (Ok x) gone a b = logs_joined old mid new (PutsBack false text F) (λ us. (u : Undo) × (us ≡ u ∷ []) × TakesBack less P u) (IsMovedBack text F P) a b (λ vs ws put one. (vs, one.0, less, ap (λ l. vs ++ l) one.1, put, gone, one.2))
logs_moved text less F P old mid new (Err f) gone a b = tt

pub logs_as : {A E : Type 0} (old new : Log) (r : Result A E) (Is Are : List Undo → Type 0) → ((us : List Undo) → Is us → Are us) → IfOk r (λ none. Logs old Is new) → IfOk r (λ none. Logs old Are new)
logs_as old new (Ok x) Is Are f h = logs_weaker old new Is Are f h
logs_as old new (Err e) Is Are f h = tt

-- ---- the text of what is kept

-- the texts that are still to come, with k of n behind
abbrev pub coming : List (String Global) → ℕ → ℕ → List (List ℕ)
coming items n k = reverse (take (n - k) (map string_bytes items))

take_next : (items : List (String Global)) (m : ℕ) (t : String Global) → m < length items → t ≡ get_or items m t → take (suc m) (map string_bytes items) ≡ take m (map string_bytes items) ++ string_bytes t ∷ []
take_next [] m t less at = absurd (omega arith)
take_next (x ∷ items) zero t less at = ap (λ y. string_bytes y ∷ []) (sym at)
take_next (x ∷ items) (suc m) t less at = ap (λ l. string_bytes x ∷ l) (take_next items m t (omega arith) at)

pub written_first : (items : List (String Global)) (n : ℕ) (s : List ℕ) → n ≡ length items → s ≡ 91 ∷ [] → s ++ behind 0 (coming items n 0) ≡ backward_text (map string_bytes items)
written_first items n s e f =
    let all : length (map string_bytes items) ≡ n = length-map items string_bytes ∙ sym e in
    ap₂ (λ x l. x ++ behind 0 (reverse l)) f (take_all (n - 0) (map string_bytes items) (omega (arith, all))) ∙ sym (row_behind (reverse (map string_bytes items)))

pub written_more : (items : List (String Global)) (n k : ℕ) (t : String Global) (s c s2 : List ℕ) → n ≡ length items → k < n → s ++ behind k (coming items n k) ≡ backward_text (map string_bytes items) → c ≡ comma_before k → t ≡ get_or items (n - 1 - k) t → s2 ≡ (s ++ c) ++ string_bytes t
    → s2 ++ behind (k + 1) (coming items n (k + 1)) ≡ backward_text (map string_bytes items)
written_more items n k t s c s2 e less h comma at f =
    let m : n - k ≡ suc (n - 1 - k) = omega (arith, less) in
    let m2 : n - (k + 1) ≡ n - 1 - k = omega (arith, less) in
    let rest = reverse (take (n - 1 - k) (map string_bytes items)) in
    let next : coming items n k ≡ string_bytes t ∷ rest =
    ap (λ x. reverse (take x (map string_bytes items))) m ∙ ap reverse (take_next items (n - 1 - k) t (omega (arith, less, e)) at) ∙ reversed_last (take (n - 1 - k) (map string_bytes items)) (string_bytes t) in
    ap₂ (λ x y. x ++ y) (f ∙ ap (λ x. (s ++ x) ++ string_bytes t) comma) (ap₂ (λ x y. behind x (reverse (take y (map string_bytes items)))) (add-one k) m2)
    ∙ append_assoc (s ++ comma_before k) (string_bytes t) (behind (suc k) rest)
    ∙ append_assoc s (comma_before k) (string_bytes t ++ behind (suc k) rest)
    ∙ sym (ap (λ l. s ++ behind k l) next) ∙ h

pub written_last : (items : List (String Global)) (n k : ℕ) (s : List ℕ) → n ≤ k → s ++ behind k (coming items n k) ≡ backward_text (map string_bytes items) → s ++ 93 ∷ [] ≡ backward_text (map string_bytes items)
written_last items n k s e h =
    let none : n - k ≡ 0 = omega (arith, e) in
    sym (ap (λ m. s ++ behind k (reverse (take m (map string_bytes items)))) none) ∙ h

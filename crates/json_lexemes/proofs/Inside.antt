-- A string's inside, a character at a time.
use Rattle.std.proofs.Common.{◌≡◌, ℕ, ◌+◌, ◌-◌, ◌<◌, ◌≤◌, Bool, true, false, cond, ◌&&◌, ◌==◌, List, [], ◌∷◌, ◌++◌, length, take, drop, get_or, Option, Some, None, option_and_then, inl, inr, ◌⊎◌, refl, sym, ap, ap₂, ◌∙◌, arith}
use Rattle.std.proofs.lemmas.Bool.{false≢true, ne_eqb, and_parts}
use Rattle.std.proofs.lemmas.Bool.Decides.{Decides-eqb, Decides-ltb, Decides-like}
use Rattle.std.proofs.lemmas.List.{drop_all, length-drop, append_cancel_left}
use Rattle.std.proofs.Math.Seq.{take-length}
use Rattle.std.proofs.Common.{length-append, drop-drop}
use Rattle.std.proofs.lemmas.Option.{none-some, same_Some}
use Rattle.std.specs.Bool.{Decides}
use Rattle.std.specs.List.{starts_with}
use Rattle.std.specs.Int.{IsInRange}
use Rattle.std.specs.Prelude.{nat_eq, nat_lt, nat_le, IfSome, IfNone}
use Rattle.std.specs.Char.{encode_utf8}
use Rattle.json.specs.Text.{content, plain, after_backslash, after_u, after_high, code_unit, short_escape, prepend, is_high_surrogate, is_low_surrogate, surrogate_pair}
use Rattle.json_lexemes.proofs.Steps.{drop_step}

two : (t : List ℕ) (i : ℕ) → i + 2 ≤ length t → drop i t ≡ get_or t i 0 ∷ get_or t (i + 1) 0 ∷ drop (i + 2) t
two t i h =
    let e : i + 1 + 1 ≡ i + 2 = omega arith in
    drop_step t i (omega arith) ∙ ap (λ l. get_or t i 0 ∷ l) (drop_step t (i + 1) (omega arith) ∙ ap (λ k. get_or t (i + 1) 0 ∷ drop k t) e)

pub four : (t : List ℕ) (i : ℕ) → i + 4 ≤ length t → drop i t ≡ get_or t i 0 ∷ get_or t (i + 1) 0 ∷ get_or t (i + 2) 0 ∷ get_or t (i + 3) 0 ∷ drop (i + 4) t
four t i h =
    let e : i + 2 + 1 ≡ i + 3 = omega arith in
    let f : i + 2 + 2 ≡ i + 4 = omega arith in
    two t i (omega arith)
    ∙ ap (λ l. get_or t i 0 ∷ get_or t (i + 1) 0 ∷ l) (two t (i + 2) (omega arith) ∙ ap₂ (λ k l. get_or t (i + 2) 0 ∷ get_or t k 0 ∷ drop l t) e f)

-- the code unit at a place
abbrev pub unit_at : List ℕ → ℕ → Option ℕ
unit_at t i = code_unit (get_or t i 0) (get_or t (i + 1) 0) (get_or t (i + 2) 0) (get_or t (i + 3) 0)

few : (xs : List ℕ) → length xs < 4 → content after_u xs ≡ None
unfolding content
few [] h = refl
few (a ∷ []) h = refl
few (a ∷ b ∷ []) h = refl
few (a ∷ b ∷ c ∷ []) h = refl
few (a ∷ b ∷ c ∷ d ∷ xs) h = absurd (omega arith)

few_high : (high : ℕ) (xs : List ℕ) → length xs < 6 → content (after_high high) xs ≡ None
unfolding content
few_high high [] h = refl
few_high high (s ∷ []) h = refl
few_high high (s ∷ u ∷ []) h = refl
few_high high (s ∷ u ∷ a ∷ []) h = refl
few_high high (s ∷ u ∷ a ∷ b ∷ []) h = refl
few_high high (s ∷ u ∷ a ∷ b ∷ c ∷ []) h = refl
few_high high (s ∷ u ∷ a ∷ b ∷ c ∷ d ∷ xs) h = absurd (omega arith)

pub u_short : (t : List ℕ) (i : ℕ) → length t - i < 4 → content after_u (drop i t) ≡ None
u_short t i h = few (drop i t) (omega (arith, length-drop i t))

pub high_short : (t : List ℕ) (i high : ℕ) → length t - i < 6 → content (after_high high) (drop i t) ≡ None
high_short t i high h = few_high high (drop i t) (omega (arith, length-drop i t))

abbrev by_unit : List ℕ → ℕ → Option (List ℕ)
by_unit xs u = cond (is_high_surrogate u) (content (after_high u) xs) (cond (is_low_surrogate u) None (prepend (encode_utf8 u) (content plain xs)))

u_is : (t : List ℕ) (i : ℕ) (o : Option ℕ) → i + 4 ≤ length t → unit_at t i ≡ o → content after_u (drop i t) ≡ option_and_then (by_unit (drop (i + 4) t)) o
unfolding content
u_is t i o h e = ap (content after_u) (four t i h) ∙ ap (option_and_then (by_unit (drop (i + 4) t))) e

abbrev by_low : List ℕ → ℕ → ℕ → Option (List ℕ)
by_low xs high l = cond (is_low_surrogate l) (prepend (encode_utf8 (surrogate_pair high l)) (content plain xs)) None

high_is : (t : List ℕ) (i high : ℕ) (o : Option ℕ) → i + 6 ≤ length t → unit_at t (i + 2) ≡ o
    → content (after_high high) (drop i t) ≡ cond ((get_or t i 0 == 92) && (get_or t (i + 1) 0 == 117)) (option_and_then (by_low (drop (i + 6) t) high) o) None
unfolding content
high_is t i high o h e =
    let f : i + 2 + 4 ≡ i + 6 = omega arith in
    ap (content (after_high high)) (two t i (omega arith) ∙ ap (λ l. get_or t i 0 ∷ get_or t (i + 1) 0 ∷ l) (four t (i + 2) (omega arith)))
    ∙ ap₂ (λ k o. cond ((get_or t i 0 == 92) && (get_or t (i + 1) 0 == 117)) (option_and_then (by_low (drop k t) high) o) None) f e

is_within : (a b u : ℕ) → a ≤ u → u < b → (nat_le a u && nat_lt u b) ≡ true
is_within a b u h k = grind arith

not_within : (a b u : ℕ) → (u < a) ⊎ (b ≤ u) → (nat_le a u && nat_lt u b) ≡ false
not_within a b u h = grind arith

pub u_none : (t : List ℕ) (i : ℕ) → i + 4 ≤ length t → unit_at t i ≡ None → content after_u (drop i t) ≡ None
u_none t i h e = u_is t i None h e

pub u_high : (t : List ℕ) (i u : ℕ) → i + 4 ≤ length t → unit_at t i ≡ Some u → 0xd800 ≤ u → u < 0xdc00 → content after_u (drop i t) ≡ content (after_high u) (drop (i + 4) t)
u_high t i u h e a b = u_is t i (Some u) h e ∙ ap (λ x. cond x (content (after_high u) (drop (i + 4) t)) (cond (is_low_surrogate u) None (prepend (encode_utf8 u) (content plain (drop (i + 4) t))))) (is_within 0xd800 0xdc00 u a b)

pub u_low : (t : List ℕ) (i u : ℕ) → i + 4 ≤ length t → unit_at t i ≡ Some u → 0xdc00 ≤ u → u < 0xe000 → content after_u (drop i t) ≡ None
u_low t i u h e a b =
    u_is t i (Some u) h e
    ∙ ap₂ (λ x y. cond x (content (after_high u) (drop (i + 4) t)) (cond y None (prepend (encode_utf8 u) (content plain (drop (i + 4) t))))) (not_within 0xd800 0xdc00 u (inr a)) (is_within 0xdc00 0xe000 u a b)

no_high : (u : ℕ) → (u < 0xd800) ⊎ (0xe000 ≤ u) → (u < 0xd800) ⊎ (0xdc00 ≤ u)
no_high u (inl a) = inl a
no_high u (inr b) = inr (omega arith)

no_low : (u : ℕ) → (u < 0xd800) ⊎ (0xe000 ≤ u) → (u < 0xdc00) ⊎ (0xe000 ≤ u)
no_low u (inl a) = inl (omega arith)
no_low u (inr b) = inr b

pub u_plain : (t : List ℕ) (i u : ℕ) → i + 4 ≤ length t → unit_at t i ≡ Some u → (u < 0xd800) ⊎ (0xe000 ≤ u) → content after_u (drop i t) ≡ prepend (encode_utf8 u) (content plain (drop (i + 4) t))
u_plain t i u h e a =
    u_is t i (Some u) h e
    ∙ ap₂ (λ x y. cond x (content (after_high u) (drop (i + 4) t)) (cond y None (prepend (encode_utf8 u) (content plain (drop (i + 4) t))))) (not_within 0xd800 0xdc00 u (no_high u a)) (not_within 0xdc00 0xe000 u (no_low u a))

pub high_no_escape : (t : List ℕ) (i high : ℕ) → i + 6 ≤ length t → ((get_or t i 0 == 92) && (get_or t (i + 1) 0 == 117)) ≡ false → content (after_high high) (drop i t) ≡ None
high_no_escape t i high h e = high_is t i high _ h refl ∙ ap (λ x. cond x (option_and_then (by_low (drop (i + 6) t) high) (unit_at t (i + 2))) None) e

high_by : (t : List ℕ) (i high : ℕ) (o : Option ℕ) → i + 6 ≤ length t → get_or t i 0 ≡ 92 → get_or t (i + 1) 0 ≡ 117 → unit_at t (i + 2) ≡ o → content (after_high high) (drop i t) ≡ option_and_then (by_low (drop (i + 6) t) high) o
high_by t i high o h a b e = high_is t i high o h e ∙ ap₂ (λ x y. cond ((x == 92) && (y == 117)) (option_and_then (by_low (drop (i + 6) t) high) o) None) a b

pub high_none : (t : List ℕ) (i high : ℕ) → i + 6 ≤ length t → get_or t i 0 ≡ 92 → get_or t (i + 1) 0 ≡ 117 → unit_at t (i + 2) ≡ None → content (after_high high) (drop i t) ≡ None
high_none t i high h a b e = high_by t i high None h a b e

pub high_apart : (t : List ℕ) (i high l : ℕ) → i + 6 ≤ length t → get_or t i 0 ≡ 92 → get_or t (i + 1) 0 ≡ 117 → unit_at t (i + 2) ≡ Some l → (l < 0xdc00) ⊎ (0xe000 ≤ l) → content (after_high high) (drop i t) ≡ None
high_apart t i high l h a b e s = high_by t i high (Some l) h a b e ∙ ap (λ x. cond x (prepend (encode_utf8 (surrogate_pair high l)) (content plain (drop (i + 6) t))) None) (not_within 0xdc00 0xe000 l s)

pub high_pair : (t : List ℕ) (i high l : ℕ) → i + 6 ≤ length t → get_or t i 0 ≡ 92 → get_or t (i + 1) 0 ≡ 117 → unit_at t (i + 2) ≡ Some l → 0xdc00 ≤ l → l < 0xe000
    → content (after_high high) (drop i t) ≡ prepend (encode_utf8 (surrogate_pair high l)) (content plain (drop (i + 6) t))
high_pair t i high l h a b e p q = high_by t i high (Some l) h a b e ∙ ap (λ x. cond x (prepend (encode_utf8 (surrogate_pair high l)) (content plain (drop (i + 6) t))) None) (is_within 0xdc00 0xe000 l p q)

-- ---- for the code

pub some_by : {A : Type 0} (o : Option A) (x y : Option (List ℕ)) (z : A → Option (List ℕ)) → x ≡ y → IfSome o (λ r. y ≡ z r) → IfSome o (λ r. x ≡ z r)
some_by None x y z e h = tt
some_by (Some a) x y z e h = e ∙ h

pub none_by : {A : Type 0} (o : Option A) (x y : Option (List ℕ)) → x ≡ y → IfNone o (y ≡ None) → IfNone o (x ≡ None)
none_by None x y e h = e ∙ h
none_by (Some a) x y e h = tt

pub backslash_end : (t : List ℕ) (i : ℕ) → i ≡ length t → content after_backslash (drop i t) ≡ None
unfolding content
backslash_end t i h = ap (content after_backslash) (drop_all i t (omega arith))

pub backslash_u : (t : List ℕ) (i : ℕ) → i < length t → get_or t i 0 ≡ 117 → content after_backslash (drop i t) ≡ content after_u (drop (i + 1) t)
unfolding content
backslash_u t i h e = ap (content after_backslash) (drop_step t i h ∙ ap (λ x. x ∷ drop (i + 1) t) e)

pub backslash_short : (t : List ℕ) (i : ℕ) (o : Option ℕ) → i < length t → (get_or t i 0 ≡ 117 → ⊥) → o ≡ short_escape (get_or t i 0) → content after_backslash (drop i t) ≡ option_and_then (λ c. prepend (c ∷ []) (content plain (drop (i + 1) t))) o
unfolding content
backslash_short t i o h n e =
    ap (content after_backslash) (drop_step t i h)
    ∙ ap₂ (λ b o. cond b (content after_u (drop (i + 1) t)) (option_and_then (λ c. prepend (c ∷ []) (content plain (drop (i + 1) t))) o)) (ne_eqb (get_or t i 0) 117 n) (sym e)

pub quote_is : (t : List ℕ) (i : ℕ) → i < length t → get_or t i 0 ≡ 34 → content plain (drop i t) ≡ Some []
unfolding content
quote_is t i h e = ap (content plain) (drop_step t i h ∙ ap (λ x. x ∷ drop (i + 1) t) e)

pub backslash_is : (t : List ℕ) (i : ℕ) → i < length t → get_or t i 0 ≡ 92 → content plain (drop i t) ≡ content after_backslash (drop (i + 1) t)
unfolding content
backslash_is t i h e = ap (content plain) (drop_step t i h ∙ ap (λ x. x ∷ drop (i + 1) t) e)

byte_is : (t : List ℕ) (i : ℕ) (b : Bool) → i < length t → (get_or t i 0 ≡ 34 → ⊥) → (get_or t i 0 ≡ 92 → ⊥) → nat_lt (get_or t i 0) 32 ≡ b
    → content plain (drop i t) ≡ cond b None (prepend (get_or t i 0 ∷ []) (content plain (drop (i + 1) t)))
unfolding content
byte_is t i b h q s e =
    ap (content plain) (drop_step t i h)
    ∙ ap₂ (λ x y. cond x (Some []) (cond y (content after_backslash (drop (i + 1) t)) (cond (nat_lt (get_or t i 0) 32) None (prepend (get_or t i 0 ∷ []) (content plain (drop (i + 1) t)))))) (ne_eqb _ 34 q) (ne_eqb _ 92 s)
    ∙ ap (λ z. cond z None (prepend (get_or t i 0 ∷ []) (content plain (drop (i + 1) t)))) e

pub control_is : (t : List ℕ) (i : ℕ) → i < length t → (get_or t i 0 ≡ 34 → ⊥) → (get_or t i 0 ≡ 92 → ⊥) → get_or t i 0 < 32 → content plain (drop i t) ≡ None
control_is t i h q s l = byte_is t i true h q s ((Decides-ltb (get_or t i 0) 32).1 l)

pub plain_is : (t : List ℕ) (i : ℕ) → i < length t → (get_or t i 0 ≡ 34 → ⊥) → (get_or t i 0 ≡ 92 → ⊥) → 32 ≤ get_or t i 0 → content plain (drop i t) ≡ prepend (get_or t i 0 ∷ []) (content plain (drop (i + 1) t))
plain_is t i h q s l = byte_is t i false h q s (grind arith)

pub end_is : (t : List ℕ) (i : ℕ) → length t ≤ i → content plain (drop i t) ≡ None
unfolding content
end_is t i h = ap (content plain) (drop_all i t h)

-- ---- a name

pub decided : (b : Bool) (x y : Option (List ℕ)) (m n : List ℕ) → (y ≡ Some n → x ≡ Some m) → (x ≡ Some m → y ≡ Some n) → Decides b (x ≡ Some m) → Decides b (y ≡ Some n)
decided b x y m n forth back d = Decides-like b back forth d

pub not_none : (x : Option (List ℕ)) (m : List ℕ) → x ≡ None → Decides false (x ≡ Some m)
not_none x m e = (λ f. absurd (false≢true f), λ f. absurd (none-some m (sym e ∙ f)))

pub at_quote : (x : Option (List ℕ)) (n : List ℕ) (j : ℕ) → j ≤ length n → x ≡ Some [] → Decides (j == length n) (x ≡ Some (drop j n))
at_quote x n j h e = (
  λ f. e ∙ ap Some (sym (drop_all j n (omega (arith, (Decides-eqb j (length n)).0 f)))),
  λ f. (Decides-eqb j (length n)).1 (omega (arith, h, length-drop j n, ap length (same_Some [] (drop j n) (sym e ∙ f)))),
)

prepended : (bs : List ℕ) (o : Option (List ℕ)) (m : List ℕ) → prepend bs o ≡ Some m → (r : List ℕ) × (o ≡ Some r) × (bs ++ r ≡ m)
prepended bs None m e = absurd (none-some m e)
prepended bs (Some r) m e = (r, refl, same_Some (bs ++ r) m e)

begins : (bs r : List ℕ) → starts_with nat_eq (bs ++ r) bs ≡ true
begins [] r = refl
begins (b ∷ bs) r = ap₂ (λ x y. x && y) ((Decides-eqb b b).1 refl) (begins bs r)

splits : (bs m : List ℕ) → starts_with nat_eq m bs ≡ true → bs ++ drop (length bs) m ≡ m
splits [] m e = refl
splits (b ∷ bs) [] e = absurd (false≢true e)
splits (b ∷ bs) (x ∷ m) e = let p = and_parts _ _ e in ap₂ (λ y l. y ∷ l) (sym-eq b x p.0) (splits bs m p.1)
  where
    sym-eq : (b x : ℕ) → (b == x) ≡ true → b ≡ x
    sym-eq b x p = (Decides-eqb b x).0 p

pub not_begun : (x o : Option (List ℕ)) (bs m : List ℕ) → x ≡ prepend bs o → starts_with nat_eq m bs ≡ false → Decides false (x ≡ Some m)
not_begun x o bs m e s =
    (λ f. absurd (false≢true f), λ f. let (r, p, q) = prepended bs o m (sym e ∙ f) in sym s ∙ ap (λ l. starts_with nat_eq l bs) (sym q) ∙ begins bs r)

pub goes_on : (x o : Option (List ℕ)) (bs m : List ℕ) → x ≡ prepend bs o → starts_with nat_eq m bs ≡ true → (x ≡ Some m → o ≡ Some (drop (length bs) m)) × (o ≡ Some (drop (length bs) m) → x ≡ Some m)
goes_on x o bs m e s = (
  λ f. let (r, p, q) = prepended bs o m (sym e ∙ f) in p ∙ ap Some (append_cancel_left bs r (drop (length bs) m) (q ∙ sym (splits bs m s))),
  λ f. e ∙ ap (prepend bs) f ∙ ap Some (splits bs m s),
)

pub unit_there : (t : List ℕ) (i : ℕ) → unit_at t (i + 2) ≡ code_unit (get_or t (i + 2) 0) (get_or t (i + 2 + 1) 0) (get_or t (i + 2 + 2) 0) (get_or t (i + 2 + 3) 0)
unit_there t i = refl

pub no_escape_first : (x y : ℕ) → (x ≡ 92 → ⊥) → ((x == 92) && (y == 117)) ≡ false
no_escape_first x y n = ap (λ b. b && (y == 117)) (ne_eqb x 92 n)

pub no_escape_second : (x y : ℕ) → (y ≡ 117 → ⊥) → ((x == 92) && (y == 117)) ≡ false
no_escape_second x y n = ap (λ b. (x == 92) && b) (ne_eqb y 117 n) ∙ gone (x == 92)
  where
    gone : (b : Bool) → (b && false) ≡ false
    gone true = refl
    gone false = refl

pub scalar_plain : (u k : ℕ) → (u < 0xd800) ⊎ IsInRange 0xe000 k u → (u < 0xd800) ⊎ (0xe000 ≤ u)
scalar_plain u k (inl a) = inl a
scalar_plain u k (inr b) = inr b.0

pub apart_low : (l : ℕ) → (l < 0xdc00) ⊎ ((0xdc00 ≤ l) × (0xe000 ≤ l)) → (l < 0xdc00) ⊎ (0xe000 ≤ l)
apart_low l (inl a) = inl a
apart_low l (inr b) = inr b.1

name_slice : (n : List ℕ) (j : ℕ) → take (length n - j) (drop j n) ≡ drop j n
name_slice n j = ap (λ k. take k (drop j n)) (sym (length-drop j n)) ∙ take-length (drop j n)

pub begun_by : (n bs code : List ℕ) (j : ℕ) (r b : Bool) → r ≡ starts_with nat_eq (take (length n - j) (drop j n)) bs → bs ≡ code → r ≡ b → starts_with nat_eq (drop j n) code ≡ b
begun_by n bs code j r b e f g = ap₂ (starts_with nat_eq) (sym (name_slice n j)) (sym f) ∙ sym e ∙ g

drop_more : (n : List ℕ) (j k : ℕ) → drop k (drop j n) ≡ drop (j + k) n
drop_more n j k = drop-drop k j n

pub step_by : (x o : Option (List ℕ)) (code n : List ℕ) (j k : ℕ) → x ≡ prepend code o → starts_with nat_eq (drop j n) code ≡ true → k ≡ length code → (x ≡ Some (drop j n) → o ≡ Some (drop (j + k) n)) × (o ≡ Some (drop (j + k) n) → x ≡ Some (drop j n))
step_by x o code n j k e s h =
    let g = goes_on x o code (drop j n) e s in
    let d : drop (length code) (drop j n) ≡ drop (j + k) n = ap (λ l. drop l (drop j n)) (sym h) ∙ drop_more n j k in
    (λ f. g.0 f ∙ ap Some d, λ f. g.1 (f ∙ ap Some (sym d)))

pub begun_fits : (code n : List ℕ) (j k : ℕ) → starts_with nat_eq (drop j n) code ≡ true → j ≤ length n → k ≡ length code → j + k ≤ length n
begun_fits code n j k s h e = omega (arith, ap length (splits code (drop j n) s), length-append code (drop (length code) (drop j n)), length-drop j n)

pub past_name : (n : List ℕ) (j c : ℕ) → j ≡ length n → starts_with nat_eq (drop j n) (c ∷ []) ≡ false
past_name n j c e = ap (λ l. starts_with nat_eq l (c ∷ [])) (drop_all j n (omega arith))

no_and : (b : Bool) → b ≡ false → (b && true) ≡ false
no_and b e = ap (λ x. x && true) e

pub other_byte : (n : List ℕ) (j c : ℕ) → j < length n → (get_or n j 0 ≡ c → ⊥) → starts_with nat_eq (drop j n) (c ∷ []) ≡ false
other_byte n j c h d = ap (λ l. starts_with nat_eq l (c ∷ [])) (drop_step n j h) ∙ no_and (c == get_or n j 0) (ne_eqb c (get_or n j 0) (λ e. d (sym e)))

pub same_byte : (n : List ℕ) (j c : ℕ) → j < length n → get_or n j 0 ≡ c → starts_with nat_eq (drop j n) (c ∷ []) ≡ true
same_byte n j c h d = ap (λ l. starts_with nat_eq l (c ∷ [])) (drop_step n j h) ∙ ap (λ x. x && true) ((Decides-eqb c (get_or n j 0)).1 (sym d))

pub below : (j k : ℕ) → j ≤ k → (j ≡ k → ⊥) → j < k
below j k h n = grind arith

-- The digits of a number, from the last on.
use Rattle.std.proofs.Common.{◌≡◌, ℕ, ◌+◌, ◌-◌, ◌*◌, ◌%◌, ◌/◌, ◌<◌, ◌≤◌, ◌==◌, false, List, ◌++◌, length, get_or, sym, ap, ◌∙◌, inl, inr, arith, subst, length-append}
use Rattle.std.proofs.lemmas.Bool.{cases_Bool}
use Rattle.std.proofs.lemmas.Bool.Decides.{Decides-eqb, Decides-like, same_from_decides}
use Rattle.std.proofs.lemmas.List.{take-append-le, get_or-append-add}
use Rattle.std.proofs.lemmas.Int.Digits.{digits_value_more}
use Rattle.std.proofs.lemmas.Str.{digit_value_digit}
use Rattle.std.proofs.lemmas.Str.Parse.{digit_at}
use Rattle.std.proofs.Math.Seq.{take-length}
use Rattle.std.specs.Char.{digit_value}
use Rattle.std.specs.Int.{IsInRange}
use Rattle.std.specs.Str.Parse.{digits_value, AllDigits}
use Rattle.json_number.specs.Digits.{front}

pub in_digits : (ds : List ℕ) (i : ℕ) → AllDigits 10 ds → i < length ds → IsInRange 48 57 (get_or ds (length ds - 1 - i) 0)
in_digits ds i all l = digit_at ds (length ds - 1 - i) all (omega arith)

front_digit : (ds : List ℕ) (i : ℕ) → i < length ds → front ds i ≡ front ds (i + 1) * 10 + digit_value (get_or ds (length ds - 1 - i) 0)
front_digit ds i l =
    let k = length ds - 1 - i in
    let e : length ds - i ≡ k + 1 = omega arith in
    let f : length ds - (i + 1) ≡ k = omega arith in
    rw (e, f) (digits_value_more 10 ds k (omega arith))

pub front_step : (ds : List ℕ) (i : ℕ) → AllDigits 10 ds → i < length ds → front ds i ≡ front ds (i + 1) * 10 + (get_or ds (length ds - 1 - i) 0 - 48)
front_step ds i all l =
    let d = get_or ds (length ds - 1 - i) 0 in
    let e : digit_value d ≡ d - 48 = omega (arith, digit_value_digit d (in_digits ds i all l)) in
    front_digit ds i l ∙ ap (λ n. front ds (i + 1) * 10 + n) e

pub front_all : (ds : List ℕ) → front ds 0 ≡ digits_value 10 ds
front_all ds = let e : length ds - 0 ≡ length ds = omega arith in rw e (ap (digits_value 10) (take-length ds))

-- past the digits of ys those of xs come
pub front_append : (xs ys : List ℕ) (i : ℕ) → length ys ≤ i → front (xs ++ ys) i ≡ front xs (i - length ys)
front_append xs ys i h =
    let e : length (xs ++ ys) - i ≡ length xs - (i - length ys) = omega (arith, length-append xs ys) in
    rw e (ap (digits_value 10) (take-append-le (length xs - (i - length ys)) xs ys (omega arith)))

pub front_second : (xs ys : List ℕ) (i : ℕ) → AllDigits 10 ys → i < length ys → front (xs ++ ys) i ≡ front (xs ++ ys) (i + 1) * 10 + (get_or ys (length ys - 1 - i) 0 - 48)
front_second xs ys i all l =
    let d = get_or ys (length ys - 1 - i) 0 in
    let e : length (xs ++ ys) - 1 - i ≡ length xs + (length ys - 1 - i) = omega (arith, length-append xs ys) in
    let f : get_or (xs ++ ys) (length (xs ++ ys) - 1 - i) 0 ≡ d = ap (λ k. get_or (xs ++ ys) k 0) e ∙ get_or-append-add xs ys (length ys - 1 - i) 0 in
    let g : digit_value d ≡ d - 48 = omega (arith, digit_value_digit d (in_digits ys i all l)) in
    front_digit (xs ++ ys) i (omega (arith, length-append xs ys)) ∙ ap (λ n. front (xs ++ ys) (i + 1) * 10 + n) (ap digit_value f ∙ g)

pub second_of : (xs ys fs : List ℕ) (i : ℕ) → fs ≡ ys → AllDigits 10 fs → i < length fs → front (xs ++ ys) i ≡ front (xs ++ ys) (i + 1) * 10 + (get_or fs (length fs - 1 - i) 0 - 48)
second_of xs ys fs i e = subst (λ l. AllDigits 10 l → i < length l → front (xs ++ ys) i ≡ front (xs ++ ys) (i + 1) * 10 + (get_or l (length l - 1 - i) 0 - 48)) (sym e) (front_second xs ys i)

-- ---- tests of two numbers by their digits

pub same_tests : (u v x y : ℕ) → (u ≡ v → x ≡ y) → (x ≡ y → u ≡ v) → (u == v) ≡ (x == y)
same_tests u v x y f g = same_from_decides (u == v) (x == y) (Decides-eqb u v) (Decides-like (x == y) g f (Decides-eqb x y))

pub false_test : (u v : ℕ) → (u ≡ v → ⊥) → (u == v) ≡ false
false_test u v f = elim (cases_Bool (u == v)) [ inl e ↦ absurd (f ((Decides-eqb u v).0 e)) | inr e ↦ e ]

-- ---- sums with what is carried

pub carried : (a b c d p q r s : ℕ) (i j k l m n : ℕ)
    → a ≡ p * 10 + i → b ≡ q * 10 + j → c ≡ r * 10 + k → d ≡ s * 10 + l
    → (m + (i + j)) % 10 ≡ (n + (k + l)) % 10
    → (a + b + m == c + d + n) ≡ (p + q + (m + (i + j)) / 10 == r + s + (n + (k + l)) / 10)
carried a b c d p q r s i j k l m n ea eb ec ed h =
    same_tests _ _ _ _ (λ e. omega arith) (λ e. omega arith)

-- A reading for each text: the whole numbers, a for the texts of the number of c, and b for all others.
use Rattle.std.proofs.Common.{◌≡◌, ◌⊎◌, ◌↔◌, ◌≢◌, ℕ, zero, suc, ◌*◌, ◌+◌, ◌^◌, ◌<◌, ◌==◌, Bool, true, false, cond, List, [], ◌∷◌, length, drop, not, Option, Some, None, refl, sym, ap, ap₂, ◌∙◌, subst, inl, inr, arith, pos, negsuc}
use Rattle.std.proofs.lemmas.Bool.{false≢true, true≢false, leb-true, and_parts}
use Rattle.std.proofs.lemmas.Bool.Decides.{Decides-eqb, Decides-ltb}
use Rattle.std.proofs.lemmas.Option.{none-some, same_Some, cond_some}
use Rattle.std.specs.Prelude.{nat_lt, nat_le, if◌then◌else◌}
use Rattle.std.specs.Str.Parse.{digits_value}
use Rattle.std.specs.Float.Numeral.{scan_numeral}
use Rattle.serde_json.specs.Read.{is_integer, float_of, number_from, number_of}
use Rattle.fast_float.specs.Text.{Parts, digits_of, tens_up, tens_down, scan, with_sign}
use Rattle.serde_json.specs.Data.{Num, unsigned, negative, float}
use Rattle.json_patch_document.specs.Document.{IsWhole}
use Rattle.json_number.specs.Numbers.{is_negative, parts_of, denominator, IsZero, SameNumber}
use Rattle.json_number.proofs.Powers.{none_times}
use Rattle.json_number.proofs.Same.{is_same, is_same-Decides, is_same-alike, same_reflexive, quotient, quotient_of, quotient-alike, quotient-same, quotient-zero}
use Rattle.json_reading.specs.Reading.{Reading}

-- the whole number of 64 bits that has this sign and size
abbrev whole_num : Bool → Option ℕ → Option Num
whole_num b None = None
whole_num b (Some zero) = Some (unsigned 0)
whole_num true (Some (suc k)) = cond (nat_lt k (2 ^ 63)) (Some (negative (negsuc k))) None
whole_num false (Some (suc k)) = cond (nat_lt (suc k) (2 ^ 64)) (Some (unsigned (suc k))) None

size_of : Num → ℕ
size_of (unsigned n) = n
size_of (negative (pos n)) = n
size_of (negative (negsuc k)) = suc k
size_of (float x) = 0

whole_num_is : (b : Bool) (o : Option ℕ) (n : Num) → whole_num b o ≡ Some n → (q : ℕ) × (o ≡ Some q) × (size_of n ≡ q) × IsWhole n
unfolding size_of
whole_num_is b None n e = absurd (none-some n e)
whole_num_is b (Some zero) n e = let f = same_Some (unsigned 0) n e in (zero, refl, ap size_of (sym f), subst IsWhole f (omega arith))
whole_num_is true (Some (suc k)) n e =
    let f = cond_some (nat_lt k (2 ^ 63)) (negative (negsuc k)) n e in (suc k, refl, ap size_of (sym f.1), subst IsWhole f.1 ((Decides-ltb k (2 ^ 63)).0 f.0))
whole_num_is false (Some (suc k)) n e =
    let f = cond_some (nat_lt (suc k) (2 ^ 64)) (unsigned (suc k)) n e in (suc k, refl, ap size_of (sym f.1), subst IsWhole f.1 ((Decides-ltb (suc k) (2 ^ 64)).0 f.0))

-- ---- the whole number that a text spells in any form

pub text_num : List ℕ → Option Num
text_num s = whole_num (is_negative s) (quotient (parts_of s))

zero_num : (b c : Bool) (o p : Option ℕ) → o ≡ Some 0 → p ≡ Some 0 → whole_num b o ≡ whole_num c p
zero_num b c o p e f = ap (whole_num b) e ∙ sym (ap (whole_num c) f)

zero_quotient : (p : Parts) → IsZero p → quotient p ≡ Some 0
zero_quotient p z = quotient_of p 0 (ap (λ n. n * 10 ^ tens_up p) z ∙ none_times (10 ^ tens_up p) ∙ sym (none_times (denominator p)))

text_num-alike : (s t : List ℕ) → SameNumber s t → text_num s ≡ text_num t
unfolding text_num
text_num-alike s t (e, inl n) = ap₂ whole_num n (quotient-alike (parts_of s) (parts_of t) e)
text_num-alike s t (e, inr z) =
    let q = zero_quotient (parts_of s) z in
    zero_num (is_negative s) (is_negative t) _ _ q (sym (quotient-alike (parts_of s) (parts_of t) e) ∙ q)

-- the sign of a number that isn't zero
sign_of : Num → Bool
sign_of (unsigned n) = false
sign_of (negative z) = true
sign_of (float x) = false

signed : (b : Bool) (q : ℕ) (n : Num) → whole_num b (Some q) ≡ Some n → (b ≡ sign_of n) ⊎ (q ≡ 0)
unfolding sign_of
signed b zero n e = inr refl
signed true (suc k) n e = let f = cond_some (nat_lt k (2 ^ 63)) (negative (negsuc k)) n e in inl (ap sign_of f.1)
signed false (suc k) n e = let f = cond_some (nat_lt (suc k) (2 ^ 64)) (unsigned (suc k)) n e in inl (ap sign_of f.1)

same_signs : (b c : Bool) (q : ℕ) (n : Num) → (b ≡ sign_of n) ⊎ (q ≡ 0) → (c ≡ sign_of n) ⊎ (q ≡ 0) → (b ≡ c) ⊎ (q ≡ 0)
same_signs b c q n (inl e) (inl f) = inl (e ∙ sym f)
same_signs b c q n (inl e) (inr z) = inr z
same_signs b c q n (inr z) f = inr z

one_number : (s t : List ℕ) (q : ℕ) → quotient (parts_of s) ≡ Some q → quotient (parts_of t) ≡ Some q → (is_negative s ≡ is_negative t) ⊎ (q ≡ 0) → SameNumber s t
one_number s t q e f (inl n) = (quotient-same (parts_of s) (parts_of t) q e f, inl n)
one_number s t q e f (inr z) = (quotient-same (parts_of s) (parts_of t) q e f, inr (quotient-zero (parts_of s) (e ∙ ap Some z)))

text_num-same : (s t : List ℕ) (n : Num) → text_num s ≡ Some n → text_num t ≡ Some n → SameNumber s t
unfolding text_num
text_num-same s t n e f =
    let (q, p, size, w) = whole_num_is (is_negative s) (quotient (parts_of s)) n e in
    let (r, o, size', w') = whole_num_is (is_negative t) (quotient (parts_of t)) n f in
    let o' : quotient (parts_of t) ≡ Some q = o ∙ ap Some (sym size' ∙ size) in
    one_number s t q p o' (same_signs _ _ q n (signed (is_negative s) q n (ap (whole_num (is_negative s)) (sym p) ∙ e)) (signed (is_negative t) q n (ap (whole_num (is_negative t)) (sym o') ∙ f)))

-- ---- what a text spells as a whole number

by_sign : (b : Bool) (s : List ℕ) → (if b then number_from true (scan (drop 1 s)) else number_from false (scan s)) ≡ number_from b (scan (if b then drop 1 s else s))
by_sign true s = refl
by_sign false s = refl

gone : (b : Bool) (xs : List ℕ) → b ≡ false → (if b then xs else []) ≡ []
gone true xs e = absurd (true≢false e)
gone false xs e = refl

no_fraction : (t : List ℕ) → (scan t).point ≡ false → (scan t).fraction ≡ []
unfolding scan_numeral
no_fraction t e = gone _ _ e

empty : (xs : List ℕ) → length xs ≡ 0 → xs ≡ []
empty [] e = refl
empty (x ∷ xs) e = absurd (omega (arith, e))

no_tens : (b : Bool) (e : List ℕ) → e ≡ [] → ((if b then 0 else digits_value 10 e) ≡ 0) × ((if b then digits_value 10 e else 0) ≡ 0)
no_tens true e h = (refl, ap (digits_value 10) h)
no_tens false e h = (ap (digits_value 10) h, refl)

-- neither a point nor an exponent
integer_quotient : (t : List ℕ) → is_integer (scan t) ≡ true → quotient (scan t) ≡ Some (digits_of (scan t))
integer_quotient t h =
    let p = scan t in
    let a = and_parts _ _ h in
    let b = and_parts _ _ a.0 in
    let f : length p.fraction ≡ 0 = ap length (no_fraction t (not_is p.point b.1)) in
    let z = no_tens p.exponent_negative p.exponent (empty p.exponent ((Decides-eqb _ 0).0 a.1)) in
    let up : tens_up p ≡ 0 = z.0 in
    let down : tens_down p ≡ 0 = ap₂ (λ m n. m + n) f z.1 in
    quotient_of p (digits_of p) (ap (λ n. digits_of p * 10 ^ n) (up ∙ sym down))
  where
    not_is : (b : Bool) → not b ≡ true → b ≡ false
    not_is true e = absurd (false≢true e)
    not_is false e = refl

unsigned_is : (d : ℕ) → nat_lt d (2 ^ 64) ≡ true → whole_num false (Some d) ≡ Some (unsigned d)
unsigned_is zero e = refl
unsigned_is (suc k) e = ap (λ b. cond b (Some (unsigned (suc k))) None) e

negative_is : (d : ℕ) → nat_lt 0 d ≡ true → nat_le d (2 ^ 63) ≡ true → whole_num true (Some d) ≡ Some (negative (with_sign true d))
negative_is zero a b = absurd (omega (arith, (Decides-ltb 0 0).0 a))
negative_is (suc k) a b = ap (λ b. cond b (Some (negative (negsuc k))) None) ((Decides-ltb k (2 ^ 63)).1 (omega (arith, leb-true _ _ b)))

no_float : (b : Bool) (p : Parts) (n : Num) → float_of b p ≡ Some n → IsWhole n → ⊥
no_float b p n e w = let f = cond_some _ _ n e in subst IsWhole (sym f.1) w

from_test : (b : Bool) (neg : Bool) (p : Parts) (m n : Num) (o : Option Num) → (if b then Some m else float_of neg p) ≡ Some n → IsWhole n → (b ≡ true → o ≡ Some m) → o ≡ Some n
from_test true neg p m n o e w f = f refl ∙ e
from_test false neg p m n o e w f = absurd (no_float neg p n e w)

from_parts : (b : Bool) (t : List ℕ) (n : Num) → number_from b (scan t) ≡ Some n → IsWhole n → whole_num b (quotient (scan t)) ≡ Some n
from_parts false t n e w = from_test _ false (scan t) _ n _ e w (λ h. let a = and_parts _ _ h in ap (whole_num false) (integer_quotient t a.0) ∙ unsigned_is _ a.1)
from_parts true t n e w =
    from_test _ true (scan t) _ n _ e w (λ h. let a = and_parts _ _ h in let b = and_parts _ _ a.0 in ap (whole_num true) (integer_quotient t b.0) ∙ negative_is _ b.1 a.1)

spelled : (s : List ℕ) (n : Num) → number_of s ≡ Some n → IsWhole n → text_num s ≡ Some n
unfolding number_of text_num
spelled s n e w = from_parts (is_negative s) (if is_negative s then drop 1 s else s) n (sym (by_sign (is_negative s) s) ∙ e) w

-- ---- the reading

pub or_else : Option Num → Num → Num
or_else None d = d
or_else (Some n) d = n

-- a for the texts of the number of c
pub other_num : List ℕ → ℕ → ℕ → List ℕ → Num
other_num c a b s = unsigned (cond (is_same s c) a b)

either_below : (x : Bool) (a b : ℕ) → a < 2 ^ 64 → b < 2 ^ 64 → cond x a b < 2 ^ 64
either_below true a b h k = h
either_below false a b h k = k

or_else-whole : (b : Bool) (o : Option ℕ) (m : Option Num) (d : Num) → whole_num b o ≡ m → IsWhole d → IsWhole (or_else m d)
unfolding or_else
or_else-whole b o None d e h = h
or_else-whole b o (Some n) d e h = let (q, p, size, w) = whole_num_is b o n e in w

pub reading : (c : List ℕ) (a b : ℕ) → a < 2 ^ 64 → b < 2 ^ 64 → Reading
unfolding other_num text_num or_else
reading c a b h k = record {
  of = λ s. or_else (text_num s) (other_num c a b s);
  whole = λ s. or_else-whole (is_negative s) (quotient (parts_of s)) (text_num s) (other_num c a b s) refl (either_below (is_same s c) a b h k);
  honest = λ s n e w. ap (λ m. or_else m (other_num c a b s)) (spelled s n e w);
  alike = λ s t e. ap₂ or_else (text_num-alike s t e) (ap (λ x. unsigned (cond x a b)) (is_same-alike s t c e));
}

pub some_reading : Reading
some_reading = reading [] 0 0 (omega arith) (omega arith)

pub of_is : (c s : List ℕ) (a b : ℕ) (h : a < 2 ^ 64) (k : b < 2 ^ 64) (m : Option Num) → text_num s ≡ m → (reading c a b h k).of s ≡ or_else m (other_num c a b s)
unfolding reading
of_is c s a b h k m e = ap (λ m. or_else m (other_num c a b s)) e

abbrev Apart : List ℕ → List ℕ → Type 0
Apart s t = (r : Reading) × (r.of s ≢ r.of t)

swapped : (s t : List ℕ) → Apart s t → Apart t s
swapped s t (r, d) = (r, λ e. d (sym e))

-- a number that isn't n
not_num : Num → ℕ
not_num n = cond (size_of n == 0) 1 0

not_num-below : (n : Num) → not_num n < 2 ^ 64
unfolding not_num
not_num-below n = either_below (size_of n == 0) 1 0 (omega arith) (omega arith)

not_num-other : (n : Num) → n ≡ unsigned (not_num n) → ⊥
unfolding not_num size_of
not_num-other n e = other (size_of n) (size_of n == 0) refl (ap size_of e)
  where
    other : (k : ℕ) (b : Bool) → (k == 0) ≡ b → k ≡ cond b 1 0 → ⊥
    other k true e h = absurd (omega (arith, (Decides-eqb k 0).0 e, h))
    other k false e h = false≢true (sym e ∙ (Decides-eqb k 0).1 h)

cond_same : (x : Bool) (a : ℕ) → unsigned (cond x a a) ≡ unsigned a
cond_same true a = refl
cond_same false a = refl

whole_and_other : (s t : List ℕ) (n : Num) → text_num s ≡ Some n → text_num t ≡ None → Apart s t
unfolding or_else other_num
whole_and_other s t n e f =
    let b = not_num-below n in
    (reading [] (not_num n) (not_num n) b b, λ h. not_num-other n (sym (of_is [] s (not_num n) (not_num n) b b (Some n) e) ∙ h ∙ of_is [] t (not_num n) (not_num n) b b None f ∙ cond_same (is_same t []) (not_num n)))

neither : (s t : List ℕ) → ¬ SameNumber s t → text_num s ≡ None → text_num t ≡ None → Apart s t
unfolding or_else other_num
neither s t d e f =
    let one : 1 < 2 ^ 64 = omega arith in
    let none : 0 < 2 ^ 64 = omega arith in
    let x : is_same s t ≡ false = not_true (is_same s t) (λ h. d ((is_same-Decides s t).0 h)) in
    let y : is_same t t ≡ true = (is_same-Decides t t).1 (same_reflexive t) in
    (reading t 1 0 one none, λ h. zero_one (sym (of_is t s 1 0 one none None e ∙ ap (λ b. unsigned (cond b 1 0)) x) ∙ h ∙ of_is t t 1 0 one none None f ∙ ap (λ b. unsigned (cond b 1 0)) y))
  where
    not_true : (b : Bool) → (b ≡ true → ⊥) → b ≡ false
    not_true true h = absurd (h refl)
    not_true false h = refl

    zero_one : unsigned 0 ≡ unsigned 1 → ⊥
    zero_one h = absurd (omega (arith, ap whole_size h))
      where
        whole_size : Num → ℕ
        whole_size (unsigned n) = n
        whole_size (negative z) = 0
        whole_size (float x) = 0

by_nums : (s t : List ℕ) (m n : Option Num) → ¬ SameNumber s t → text_num s ≡ m → text_num t ≡ n → Apart s t
unfolding or_else
by_nums s t None None d e f = neither s t d e f
by_nums s t None (Some n) d e f = swapped t s (whole_and_other t s n f e)
by_nums s t (Some m) None d e f = whole_and_other s t m e f
by_nums s t (Some m) (Some n) d e f =
    let h : 0 < 2 ^ 64 = omega arith in
    (reading [] 0 0 h h, λ g. d (text_num-same s t m e (f ∙ ap Some (sym (of_is [] t 0 0 h h (Some n) f) ∙ sym g ∙ of_is [] s 0 0 h h (Some m) e))))

pub told_apart : (s t : List ℕ) → ¬ SameNumber s t → Apart s t
told_apart s t d = by_nums s t (text_num s) (text_num t) d refl refl

pub same_exactly : (s t : List ℕ) → SameNumber s t ↔ ((r : Reading) → r.of s ≡ r.of t)
same_exactly s t = (λ h r. r.alike s t h, λ h. by h (is_same s t) refl)
  where
    by : ((r : Reading) → r.of s ≡ r.of t) → (b : Bool) → is_same s t ≡ b → SameNumber s t
    by h true e = (is_same-Decides s t).0 e
    by h false e = let (r, d) = told_apart s t (λ k. false≢true (sym e ∙ (is_same-Decides s t).1 k)) in absurd (d (h r))

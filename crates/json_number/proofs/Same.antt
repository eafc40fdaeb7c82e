-- Being one number is an equivalence, and can be decided; the quotient of a text that is a whole number.
use Rattle.std.proofs.Common.{◌≡◌, ◌⊎◌, ℕ, ◌*◌, ◌/◌, ◌^◌, ◌<◌, ◌==◌, ◌&&◌, ◌||◌, Bool, true, false, not, cond, List, Option, Some, None, refl, sym, ap, ap₂, ◌∙◌, inl, inr}
use Rattle.std.proofs.lemmas.Bool.{false≢true, true≢false}
use Rattle.std.proofs.lemmas.Bool.Decides.{Decides-eqb, Decides-and, Decides-or, same_from_decides, Decides-like}
use Rattle.std.proofs.lemmas.Option.{none-some, same_Some}
use Rattle.std.proofs.Math.Nat.{mul_right_comm, mul-div_cancel}
use Rattle.std.specs.Bool.{Decides}
use Rattle.fast_float.specs.Text.{Parts, digits_of, tens_up, tens_down}
use Rattle.json_number.specs.Numbers.{is_negative, parts_of, numerator, denominator, IsZero, SameSize, SameNumber}
use Rattle.json_number.proofs.Powers.{pow_above, no_product, none_times}

cancel : (m a b : ℕ) → 0 < m → a * m ≡ b * m → a ≡ b
cancel m a b h e = sym (mul-div_cancel a h) ∙ ap (λ n. n / m) e ∙ mul-div_cancel b h

-- a / x, b / y and c / z
through : (a x b y c z : ℕ) → 0 < y → a * y ≡ b * x → b * z ≡ c * y → a * z ≡ c * x
through a x b y c z h e f =
    cancel y (a * z) (c * x) h (mul_right_comm a z y ∙ ap (λ n. n * z) e ∙ mul_right_comm b x z ∙ ap (λ n. n * x) f ∙ mul_right_comm c y x)

denominator_above : (p : Parts) → 0 < denominator p
denominator_above p = pow_above (tens_down p)

size_transitive : (p q r : Parts) → SameSize p q → SameSize q r → SameSize p r
size_transitive p q r e f = through (numerator p) (denominator p) (numerator q) (denominator q) (numerator r) (denominator r) (denominator_above q) e f

-- what is of one size with zero is zero
zero_like : (p q : Parts) → SameSize p q → IsZero p → IsZero q
zero_like p q e z =
    let f : numerator p ≡ 0 = ap (λ n. n * 10 ^ tens_up p) z ∙ none_times (10 ^ tens_up p) in
    let g : numerator q * denominator p ≡ 0 = sym e ∙ ap (λ n. n * denominator q) f ∙ none_times (denominator q) in
    no_product (digits_of q) (10 ^ tens_up q) (pow_above (tens_up q)) (no_product (numerator q) (denominator p) (denominator_above p) g)

pub same_reflexive : (s : List ℕ) → SameNumber s s
same_reflexive s = (refl, inl refl)

sign_symmetric : (s t : List ℕ) → SameSize (parts_of s) (parts_of t) → (is_negative s ≡ is_negative t) ⊎ IsZero (parts_of s) → (is_negative t ≡ is_negative s) ⊎ IsZero (parts_of t)
sign_symmetric s t e (inl n) = inl (sym n)
sign_symmetric s t e (inr z) = inr (zero_like (parts_of s) (parts_of t) e z)

pub same_symmetric : (s t : List ℕ) → SameNumber s t → SameNumber t s
same_symmetric s t (e, n) = (sym e, sign_symmetric s t e n)

sign_transitive : (s t u : List ℕ) → SameSize (parts_of s) (parts_of t) → (is_negative s ≡ is_negative t) ⊎ IsZero (parts_of s) → (is_negative t ≡ is_negative u) ⊎ IsZero (parts_of t) → (is_negative s ≡ is_negative u) ⊎ IsZero (parts_of s)
sign_transitive s t u e (inl m) (inl n) = inl (m ∙ n)
sign_transitive s t u e (inl m) (inr z) = inr (zero_like (parts_of t) (parts_of s) (sym e) z)
sign_transitive s t u e (inr z) n = inr z

pub same_transitive : (s t u : List ℕ) → SameNumber s t → SameNumber t u → SameNumber s u
same_transitive s t u (e, m) (f, n) = (size_transitive (parts_of s) (parts_of t) (parts_of u) e f, sign_transitive s t u e m n)

-- ---- the decision

abbrev same_bool : Bool → Bool → Bool
same_bool a b = cond a b (not b)

decides_bool : (a b : Bool) → Decides (same_bool a b) (a ≡ b)
decides_bool true true = (λ e. refl, λ e. refl)
decides_bool true false = (λ e. absurd (false≢true e), λ e. absurd (true≢false e))
decides_bool false true = (λ e. absurd (false≢true e), λ e. absurd (false≢true e))
decides_bool false false = (λ e. refl, λ e. refl)

pub is_same : List ℕ → List ℕ → Bool
is_same s t =
    (numerator (parts_of s) * denominator (parts_of t) == numerator (parts_of t) * denominator (parts_of s)) && (same_bool (is_negative s) (is_negative t) || (digits_of (parts_of s) == 0))

pub is_same-Decides : (s t : List ℕ) → Decides (is_same s t) (SameNumber s t)
unfolding is_same
is_same-Decides s t =
    Decides-and _ _ (Decides-eqb _ _) (Decides-or _ _ (decides_bool (is_negative s) (is_negative t)) (Decides-eqb (digits_of (parts_of s)) 0))

pub is_same-alike : (s t c : List ℕ) → SameNumber s t → is_same s c ≡ is_same t c
is_same-alike s t c h =
    same_from_decides (is_same s c) (is_same t c) (is_same-Decides s c)
    (Decides-like (is_same t c) (λ k. same_transitive s t c h k) (λ k. same_transitive t s c (same_symmetric s t h) k) (is_same-Decides t c))

-- ---- the quotient, where it is whole

pub if_whole : Bool → ℕ → Option ℕ
if_whole true q = Some q
if_whole false q = None

pub quotient : Parts → Option ℕ
quotient p = if_whole (numerator p / denominator p * denominator p == numerator p) (numerator p / denominator p)

whole_by : (n m q : ℕ) → 0 < m → n ≡ q * m → if_whole (n / m * m == n) (n / m) ≡ Some q
unfolding if_whole
whole_by n m q h e =
    let f : n / m ≡ q = ap (λ k. k / m) e ∙ mul-div_cancel q h in
    ap₂ if_whole ((Decides-eqb (n / m * m) n).1 (ap (λ k. k * m) f ∙ sym e)) f

whole_is : (b : Bool) (k q : ℕ) → if_whole b k ≡ Some q → (b ≡ true) × (k ≡ q)
unfolding if_whole
whole_is true k q e = (refl, same_Some k q e)
whole_is false k q e = absurd (none-some q e)

pub quotient_of : (p : Parts) (q : ℕ) → numerator p ≡ q * denominator p → quotient p ≡ Some q
unfolding quotient
quotient_of p q e = whole_by (numerator p) (denominator p) q (denominator_above p) e

pub quotient_is : (p : Parts) (q : ℕ) → quotient p ≡ Some q → numerator p ≡ q * denominator p
unfolding quotient
quotient_is p q e =
    let w = whole_is _ _ q e in
    sym ((Decides-eqb _ _).0 w.0) ∙ ap (λ k. k * denominator p) w.1

-- q / 1 goes on through p
quotient_through : (p r : Parts) (q : ℕ) → SameSize p r → quotient p ≡ Some q → quotient r ≡ Some q
quotient_through p r q e f =
    let d = denominator p in
    quotient_of r q (cancel d (numerator r) (q * denominator r) (denominator_above p)
    (sym e ∙ ap (λ n. n * denominator r) (quotient_is p q f) ∙ mul_right_comm q d (denominator r)))

alike_options : (a b : Option ℕ) → ((q : ℕ) → a ≡ Some q → b ≡ Some q) → ((q : ℕ) → b ≡ Some q → a ≡ Some q) → a ≡ b
alike_options None None f g = refl
alike_options None (Some q) f g = g q refl
alike_options (Some q) b f g = sym (f q refl)

pub quotient-alike : (p r : Parts) → SameSize p r → quotient p ≡ quotient r
quotient-alike p r e = alike_options (quotient p) (quotient r) (λ q. quotient_through p r q e) (λ q. quotient_through r p q (sym e))

-- two of one quotient are of one size
pub quotient-same : (p r : Parts) (q : ℕ) → quotient p ≡ Some q → quotient r ≡ Some q → SameSize p r
quotient-same p r q e f =
    ap (λ n. n * denominator r) (quotient_is p q e) ∙ mul_right_comm q (denominator p) (denominator r) ∙ sym (ap (λ n. n * denominator p) (quotient_is r q f))

pub quotient-zero : (p : Parts) → quotient p ≡ Some 0 → IsZero p
quotient-zero p e = no_product (digits_of p) (10 ^ tens_up p) (pow_above (tens_up p)) (quotient_is p 0 e ∙ none_times (denominator p))

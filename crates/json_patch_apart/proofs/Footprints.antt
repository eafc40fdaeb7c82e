-- The reach of a pointer as the program finds it: by its last token.
use Rattle.std.proofs.Common.{◌≡◌, ◌<◌, ◌≤◌, ℕ, List, [], ◌∷◌, ◌++◌, length, get_or, Option, Some, None, refl, sym, ap}
use Rattle.std.proofs.Common.{◌∙◌, ⊎_elim, Bool, true, false, not, bytes_eq, if◌then◌else◌, arith, ◌==◌}
use Rattle.std.specs.Prelude.{◌||◌, ◌^◌, is_some}
use Rattle.std.specs.Int.{IsInRange}
use Rattle.std.specs.Str.{all_ascii_digits}
use Rattle.std.specs.Str.Parse.{digits_value}
use Rattle.std.proofs.lemmas.Bool.Decides.{nat_tests}
use Rattle.std.proofs.lemmas.Slice.Eq.{bytes_eq-Decides}
use Rattle.std.proofs.lemmas.Str.Parse.{IsNumeralModel, numerals_by_value, tells_by_index, tells_all_ascii_digits}
use Rattle.jsonptr.specs.Indexes.{HasLeadingZero, IsFirstNonDigit, IsNoIndexText, IsNoInteger}
use Rattle.jsonptr.specs.PlaceLaws.{Tells, tells, place_is_token, place_is_plain}
use Rattle.jsonptr.specs.Places.{decimal_token, next_token, place_of}
use Rattle.jsonptr.specs.Text.{Pointer, encoded}
use Rattle.jsonptr.specs.TextLaws.{encoded_once}
use Rattle.json_patch_apart.specs.Apart.{may_be_place, reach}

-- ---- the reach of a pointer

-- the reach of a pointer that is split before its last token
pub reach_split : (A : Pointer) (t : List ℕ) → reach (A ++ t ∷ []) ≡ (if may_be_place t then A else A ++ t ∷ [])
reach_split [] t = refl
reach_split (a ∷ []) t = sym (outside (may_be_place t))
  where
    outside : (b : Bool) → (if b then a ∷ [] else a ∷ t ∷ []) ≡ a ∷ (if b then [] else t ∷ [])
    outside true = refl
    outside false = refl
reach_split (a ∷ c ∷ A) t = ap (λ R. a ∷ R) (reach_split (c ∷ A) t) ∙ outside (may_be_place t)
  where
    outside : (b : Bool) → a ∷ (if b then c ∷ A else c ∷ A ++ t ∷ []) ≡ (if b then a ∷ c ∷ A else a ∷ c ∷ A ++ t ∷ [])
    outside true = refl
    outside false = refl

-- ---- whether a token may name an index

-- a token names an index exactly where its text in a pointer does
encoded_place : (t : List ℕ) (i : ℕ) → place_of t ≡ Some i → place_of (encoded t) ≡ Some i
encoded_place t i h =
    let is : t ≡ decimal_token i = (place_is_token t i).0 h in
    (place_is_token (encoded t) i).1 (ap encoded is ∙ place_is_plain i)

decoded_place : (t : List ℕ) (i : ℕ) → place_of (encoded t) ≡ Some i → place_of t ≡ Some i
decoded_place t i h =
    let is : encoded t ≡ decimal_token i = (place_is_token (encoded t) i).0 h in
    (place_is_token t i).1 (encoded_once t (decimal_token i) (is ∙ sym (place_is_plain i)))

no_place : (t : List ℕ) → (t ≡ next_token → ⊥) → ((i : ℕ) → place_of t ≡ Some i → ⊥) → false ≡ may_be_place t
no_place t other none = on (bytes_eq t next_token) refl (place_of t) refl
  where
    on : (b : Bool) → bytes_eq t next_token ≡ b → (o : Option ℕ) → place_of t ≡ o → false ≡ b || is_some o
    on true is o at = absurd (other ((bytes_eq-Decides t next_token).0 is))
    on false is (Some i) at = absurd (none i at)
    on false is None at = refl

pub leading_zero : (t : List ℕ) → IsNoIndexText t → HasLeadingZero (encoded t) → false ≡ may_be_place t
leading_zero t h z = no_place t h.other (λ i at. (let w : Tells (encoded t) i = tells (encoded t) i (encoded_place t i at) in omega (arith, z.0, w.first z.1)))

numerals : IsNumeralModel (λ ds. (i : ℕ) → i < length ds → IsInRange 48 57 (get_or ds i 0)) (digits_value 10)
numerals = numerals_by_value _ tells_by_index

by_test : IsNumeralModel (λ ds. all_ascii_digits ds ≡ true) (digits_value 10)
by_test = numerals_by_value _ tells_all_ascii_digits

pub other_character : (t : List ℕ) (k : ℕ) → IsNoIndexText t → IsFirstNonDigit (encoded t) k → false ≡ may_be_place t
other_character t k h at = no_place t h.other (λ i is. at.1 (numerals.from (encoded t) (by_test.to (encoded t) (tells (encoded t) i (encoded_place t i is)).digits) k at.0))

none_there : false ≡ may_be_place []
unfolding place_of
none_there = refl

pub no_integer : (t s : List ℕ) → s ≡ encoded t → IsNoInteger (encoded t) → not (length s == 0) ≡ may_be_place t
no_integer t s is h =
    ⊎_elim (λ (none : encoded t ≡ []). (let e : t ≡ [] = encoded_once t [] none in rw (is, none) (rw e none_there)))
    (λ (at : (i : ℕ) × (place_of (encoded t) ≡ Some i) × (2 ^ 64 ≤ i)).
    (let w : Tells (encoded t) at.0 = tells (encoded t) at.0 at.1 in
    rw (is, decoded_place t at.0 at.1) (some (length (encoded t)) (bytes_eq t next_token) w.nonempty))) h
  where
    some : (n : ℕ) (b : Bool) → 0 < n → not (n == 0) ≡ b || true
    some n b h = grind (arith, nat_tests)

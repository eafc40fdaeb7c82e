-- Which index a text names in an array, by its digits.
use Rattle.std.proofs.Common.{◌≡◌, ℕ, true, ◌<◌, ◌^◌, List, [], ◌∷◌, ◌++◌, length, get_or, suc, subst, Result, Ok, Err}
use Rattle.std.proofs.Common.{Some, None, refl, sym, ap, ◌∙◌, inl, inr, ⊎_elim, arith}
use Rattle.std.specs.Prelude.{IfOk, IfErr, OnErr, MatchResult, ◌≢◌}
use Rattle.std.specs.Int.{IsInRange}
use Rattle.std.specs.Str.{all_ascii_digits}
use Rattle.std.specs.Str.Parse.{digits_value, ParsesUnsigned}
use Rattle.std.proofs.lemmas.Bool.{cases_lt}
use Rattle.std.proofs.lemmas.Str.Parse.{IsNumeralModel, numerals_by_value, tells_by_index, tells_all_ascii_digits}
use Rattle.std.proofs.lemmas.Str.Parse.{parse_digits}
use Rattle.jsonptr.specs.Indexes.{HasLeadingZero, IsIndexText, IsNoIndexText, IsNoInteger, IsIndexFault}
use Rattle.jsonptr.specs.Places.{place_of, next_token}
use Rattle.jsonptr.specs.Text.{decoded, encoded}
use Rattle.jsonptr.specs.declared.index.Index.TheVariants.{Num, Next}
use Rattle.jsonptr.specs.declared.index.Index.{Index}
use Rattle.jsonptr.specs.declared.index.ParseIndexError.TheVariants.{InvalidInteger, LeadingZeros, InvalidCharacter}
use Rattle.jsonptr.specs.declared.index.ParseIndexError.{ParseIndexError}
use Rattle.jsonptr.specs.PlaceLaws.{Tells, tells, tells_back, encoded_digit, next_is_no_place}
use Rattle.jsonptr.specs.TextLaws.{decoded_again}
use Rattle.jsonptr.proofs.Texts.{NoTilde-from, decoded-NoTilde}

abbrev IsDigits : List ℕ → Type 0
IsDigits ds = (i : ℕ) → i < length ds → IsInRange 48 57 (get_or ds i 0)

numerals : IsNumeralModel IsDigits (digits_value 10)
numerals = numerals_by_value IsDigits tells_by_index

by_test : IsNumeralModel (λ ds. all_ascii_digits ds ≡ true) (digits_value 10)
by_test = numerals_by_value _ tells_all_ascii_digits

-- ---- indexes

-- digits without a leading zero name the number that they write
place_of-digits : (t : List ℕ) → IsDigits t → 0 < length t → ¬ HasLeadingZero t → place_of t ≡ Some (digits_value 10 t)
place_of-digits t d some z = tells_back t (digits_value 10 t) (record {
  digits = by_test.from t (numerals.to t d);
  nonempty = some;
  first = λ e. ⊎_elim (λ l. omega arith) (λ l. absurd (z (l, e))) (cases_lt (length t) 2);
  value = refl;
})

place_digits : (t : List ℕ) (i : ℕ) → place_of t ≡ Some i → IsDigits t
place_digits t i h = let w : Tells t i = tells t i h in numerals.from t (by_test.to t w.digits)

-- the text of a number isn't `-`
pub place_other : (t : List ℕ) (i : ℕ) → place_of t ≡ Some i → t ≢ next_token
place_other t i h is = let none : place_of t ≡ None = ap place_of is ∙ next_is_no_place in cc

-- ---- a text of digits

pub index_ok : (t : List ℕ) (n : ℕ) → IsDigits t → ¬ HasLeadingZero t → ParsesUnsigned {E = ℕ} 64 10 t (Ok n) → IsIndexText t (Num n)
index_ok t n d z h =
    let r = parse_digits numerals {E = ℕ} 64 t (Ok n) h d in
    (place_of-digits t d r.0.0 z ∙ ap Some (sym r.1), omega (arith, r.0.1, r.1))

empty : (t : List ℕ) → length t ≡ 0 → t ≡ []
empty [] h = refl
empty (x ∷ t) h = absurd (omega arith)

pub index_err : (t : List ℕ) → IsDigits t → ¬ HasLeadingZero t → ParsesUnsigned {E = ℕ} 64 10 t (Err 0) → IsNoInteger t
index_err t d z h =
    let r = parse_digits numerals {E = ℕ} 64 t (Err 0) h d in
    ⊎_elim
    (λ l. ⊎_elim (λ m. absurd (r (l, m))) (λ m. inr (digits_value 10 t, place_of-digits t d l z, m)) (cases_lt (digits_value 10 t) (2 ^ 64)))
    (λ l. inl (empty t (omega arith)))
    (cases_lt 0 (length t))

-- a text with a fault names no index
pub fault_names_none : (t : List ℕ) (e : ParseIndexError) → IsIndexFault t e → IsNoIndexText t
fault_names_none t LeadingZeros h = record {
  other = λ is. (let k : HasLeadingZero next_token = subst HasLeadingZero is h in absurd (omega (arith, k.0)));
  past = λ i p. (let w : Tells t i = tells t i p in absurd (omega (arith, h.0, w.first h.1)));
}
fault_names_none t (InvalidCharacter i) h = record { other = h.0; past = λ j p. absurd (h.2.1 (place_digits t j p i h.2.0)) }
fault_names_none t InvalidInteger h = ⊎_elim
    (λ (is : t ≡ []). record {
      other = λ e. cc;
      past = λ i p. (let w : Tells t i = tells t i p in absurd (omega (arith, w.nonempty, ap length is)));
    })
    (λ (j, p, big). record { other = place_other t j p; past = λ i q. (let same : j ≡ i = cc in omega arith) })
    h

-- ---- an encoded token

decoded-digits : (e : List ℕ) → IsDigits e → decoded e ≡ e
decoded-digits e d = decoded-NoTilde e (NoTilde-from e (λ i l is. let r : IsInRange 48 57 (get_or e i 0) = d i l in omega arith))

encoded-digits : (t : List ℕ) → IsDigits t → encoded t ≡ t
encoded-digits [] d = refl
encoded-digits (x ∷ t) d =
    let r : IsInRange 48 57 x = d 0 (omega arith) in
    ap (λ b. b ++ encoded t) (encoded_digit x r.0 r.1) ∙ ap (λ r. x ∷ r) (encoded-digits t (λ i l. d (suc i) (omega arith)))

token_index : (d : List ℕ) (i : Index) → IsIndexText (encoded d) i → IsIndexText d i
token_index d (Num n) h =
    let same : encoded d ≡ d = sym (decoded-digits (encoded d) (place_digits (encoded d) n h.0)) ∙ decoded_again d in
    subst (λ t. IsIndexText t (Num n)) same h
token_index d Next h =
    sym (decoded_again d) ∙ ap decoded h

token_none : (d : List ℕ) → IsNoIndexText (encoded d) → IsNoIndexText d
token_none d h = record {
  other = λ is. h.other (ap encoded is);
  past = λ i p. h.past i (ap place_of (encoded-digits d (place_digits d i p)) ∙ p);
}

-- the answers that `parse` gives for the encoded token
pub token_ok : (d e : List ℕ) (r : Result Index ParseIndexError) → e ≡ encoded d → IfOk r (IsIndexText e) → IfOk r (IsIndexText d)
token_ok d e (Ok i) is h = token_index d i (subst (λ t. IsIndexText t i) is h)
token_ok d e (Err f) is h = tt

pub token_err : (d e : List ℕ) (r : Result Index ParseIndexError) → e ≡ encoded d → OnErr r (IsNoIndexText e) → OnErr r (IsNoIndexText d)
token_err d e (Ok i) is h = tt
token_err d e (Err f) is h = token_none d (subst IsNoIndexText is h)

pub token_parse : (t e : List ℕ) (r : Result Index ParseIndexError) → e ≡ t → IfOk r (IsIndexText e) → IfErr r (IsIndexFault e) → MatchResult r (IsIndexText t) (IsIndexFault t)
token_parse t e (Ok i) is h k = subst (λ t. IsIndexText t i) is h
token_parse t e (Err f) is h k = subst (λ t. IsIndexFault t f) is k

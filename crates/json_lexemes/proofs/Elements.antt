-- The elements of an array, from one to the next.
use Rattle.std.proofs.Common.{◌≡◌, ℕ, zero, suc, ◌+◌, ◌-◌, ◌<◌, ◌≤◌, false, List, [], ◌∷◌, ◌++◌, length, get_or, None, refl, sym, ap, ◌∙◌, arith, append_assoc}
use Rattle.std.proofs.lemmas.List.{get_or_default}
use Rattle.json.specs.Json.{Json, null, boolean, number, string, array, object, Items, no_items, item}
use Rattle.json.specs.Word.{is_space}
use Rattle.json.specs.Token.{end_array}
use Rattle.json.specs.Lex.{Lexeme, token, comma}
use Rattle.json_lexemes.specs.Found.{AreAhead, ReachesNumbered, later, numbered}
use Rattle.json_lexemes.specs.Signposts.{IsStep}
use Rattle.json_lexemes.specs.declared.signposts.Step.{Step}
use Rattle.json_lexemes.specs.Places.{left_at}
use Rattle.json_lexemes.specs.Skipped.{skip}
use Rattle.json_lexemes.specs.Spelled.{spelled, first_elements, more_elements}
use Rattle.json_lexemes.specs.declared.span.Next.TheVariants.{Value, End}
use Rattle.json_lexemes.proofs.FirstBytes.{kind, byte_by_kind}
use Rattle.json_lexemes.proofs.Skipping.{skip-value, skip-more_elements}
use Rattle.json_lexemes.proofs.Steps.{operator_left}

abbrev tail : List Lexeme → List Lexeme
tail [] = []
tail (l ∷ ls) = ls

-- no value begins as an array ends
pub no_end : (j : Json) (ls : List Lexeme) → kind (spelled j ++ ls) ≡ 93 → ⊥
no_end null ls e = absurd (omega (arith, e))
no_end (boolean b) ls e = absurd (omega (arith, e))
no_end (number s) ls e = absurd (omega (arith, e))
no_end (string s) ls e = absurd (omega (arith, e))
no_end (array js) ls e = absurd (omega (arith, e))
no_end (object ms) ls e = absurd (omega (arith, e))

-- at the bracket there is no element
pub none_ahead : (t : List ℕ) (n : ℕ) (js : Items) (ls : List Lexeme) (i m e : ℕ) → i < length t → get_or t i 32 ≡ 93 → ((xs : List Lexeme) → left_at t i ≡ token end_array ∷ xs → left_at t e ≡ xs) → AreAhead t n js ls i m → ReachesNumbered t (End e) n js ls
none_ahead t n js ls i m e h b c (rest, at, is) = by_rest rest at is
  where
    by_rest : (r : Items) → left_at t i ≡ first_elements r ++ ls → numbered n js ≡ numbered m r → ReachesNumbered t (End e) n js ls
    by_rest no_items f g = (g, c ls f)
    by_rest (item j more) f g =
        absurd (no_end j (more_elements more ++ ls) (ap kind (sym (append_assoc (spelled j) (more_elements more) ls)) ∙ sym (ap kind (sym (operator_left t i 93 h (get_or_default t i 0 32 h ∙ b) refl) ∙ f))))

-- an element stands at i
pub record HasElement (t : List ℕ) (n : ℕ) (js : Items) (ls : List Lexeme) (i m : ℕ) : Type 0 where
  pub value : Json
  pub more : Items
  pub left : left_at t i ≡ spelled value ++ (more_elements more ++ ls)
  pub is : numbered n js ≡ numbered m (item value more)

pub has_element : (t : List ℕ) (n : ℕ) (js : Items) (ls : List Lexeme) (i m : ℕ) → (i < length t → is_space (get_or t i 0) ≡ false) → (get_or t i 32 ≡ 93 → ⊥) → AreAhead t n js ls i m → HasElement t n js ls i m
has_element t n js ls i m w z (rest, at, is) = by_rest rest at is
  where
    by_rest : (r : Items) → left_at t i ≡ first_elements r ++ ls → numbered n js ≡ numbered m r → HasElement t n js ls i m
    by_rest no_items e f = let c = byte_by_kind t i 93 w (ap kind e) (λ x. absurd (omega (arith, x))) in absurd (z (get_or_default t i 32 0 c.0 ∙ c.1))
    by_rest (item j more) e f = record { value = j; more = more; left = e ∙ append_assoc (spelled j) (more_elements more) ls; is = f }

pub element_here : (t : List ℕ) (n : ℕ) (js : Items) (ls : List Lexeme) (i m : ℕ) → m ≡ 0 → HasElement t n js ls i m → ReachesNumbered t (Value i) n js ls
element_here t n js ls i m z h = (h.value, h.more, h.is ∙ ap (λ k. numbered k (item h.value h.more)) z, h.left)

none_numbered : (m : ℕ) → numbered m no_items ≡ None
none_numbered zero = refl
none_numbered (suc m) = refl

numbered_later : (n m : ℕ) (js : Items) → numbered (n + m) js ≡ numbered m (later n js)
numbered_later zero m js = let same : 0 + m ≡ m = omega arith in ap (λ k. numbered k js) same
numbered_later (suc n) m no_items = let same : numbered m no_items ≡ None = none_numbered m in none_numbered (suc n + m) ∙ sym same
numbered_later (suc n) m (item j js) = let same : suc n + m ≡ suc (n + m) = omega arith in ap (λ k. numbered k (item j js)) same ∙ numbered_later n m js

-- from a place that is known, in an array that isn't empty
pub from_step : (t : List ℕ) (s : Step) (start n i k : ℕ) → (i < length t → is_space (get_or t i 0) ≡ false) → (get_or t i 32 ≡ 93 → ⊥) → left_at t i ≡ left_at t (start + 1) → get_or t start 0 ≡ 91
    → (s.array ≡ start) × (s.number ≤ n) × IsStep t s → left_at t k ≡ left_at t s.place → (js : Items) (ls : List Lexeme) → left_at t (start + 1) ≡ first_elements js ++ ls → AreAhead t n js ls k (n - s.number)
from_step t s start n i k w z a q f b no_items ls e = let c = byte_by_kind t i 93 w (ap kind (a ∙ e)) (λ x. absurd (omega (arith, x))) in absurd (z (get_or_default t i 32 0 c.0 ∙ c.1))
from_step t s start n i k w z a q f b (item j js) ls e =
    let at = f.2.ahead (ap (λ m. get_or t m 0) f.0 ∙ q) j js ls (ap (λ m. left_at t (m + 1)) f.0 ∙ e) in
    let same : s.number + (n - s.number) ≡ n = omega (arith, f.1) in
    (later s.number (item j js), b ∙ at, sym (ap (λ m. numbered m (item j js)) same) ∙ numbered_later s.number (n - s.number) (item j js))

next_is : (m : ℕ) (j : Json) (js : Items) → (m ≡ 0 → ⊥) → numbered m (item j js) ≡ numbered (m - 1) js
next_is zero j js n = absurd (n refl)
next_is (suc m) j js n = let e : m ≡ suc m - 1 = omega arith in ap (λ k. numbered k js) e

-- behind its value
value_passed : (t : List ℕ) (n : ℕ) (js : Items) (ls : List Lexeme) (i m ve : ℕ) → left_at t ve ≡ skip 0 (left_at t i) → (h : HasElement t n js ls i m) → left_at t ve ≡ more_elements h.more ++ ls
value_passed t n js ls i m ve v h = v ∙ ap (skip 0) h.left ∙ skip-value h.value (more_elements h.more ++ ls)

pub next_ahead : (t : List ℕ) (n : ℕ) (js : Items) (ls : List Lexeme) (i m ve next : ℕ) → (m ≡ 0 → ⊥) → left_at t ve ≡ skip 0 (left_at t i) → left_at t ve ≡ comma ∷ left_at t next → HasElement t n js ls i m → AreAhead t n js ls next (m - 1)
next_ahead t n js ls i m ve next z v c h = (h.more, by_more h.more (value_passed t n js ls i m ve v h), h.is ∙ next_is m h.value h.more z)
  where
    by_more : (r : Items) → left_at t ve ≡ more_elements r ++ ls → left_at t next ≡ first_elements r ++ ls
    by_more no_items e = absurd (omega (arith, sym (ap kind c) ∙ ap kind e))
    by_more (item j more) e = ap tail (sym c ∙ e)

-- no comma: the array ends
pub last_passed : (t : List ℕ) (n : ℕ) (js : Items) (ls : List Lexeme) (i m ve e : ℕ) → (m ≡ 0 → ⊥) → left_at t ve ≡ skip 0 (left_at t i) → ((xs : List Lexeme) → left_at t ve ≡ comma ∷ xs → ⊥)
    → ((xs : List Lexeme) → left_at t ve ≡ token end_array ∷ xs → left_at t e ≡ xs) → HasElement t n js ls i m → ReachesNumbered t (End e) n js ls
last_passed t n js ls i m ve e z v c b h = by_more h.more (value_passed t n js ls i m ve v h) (h.is ∙ next_is m h.value h.more z)
  where
    by_more : (r : Items) → left_at t ve ≡ more_elements r ++ ls → numbered n js ≡ numbered (m - 1) r → ReachesNumbered t (End e) n js ls
    by_more no_items f g = (g, b ls f)
    by_more (item j more) f g = absurd (c _ f)

-- ---- the rest of an array

-- behind a comma all that is open is passed
pub rest_passed : (t : List ℕ) (js : Items) (ls : List Lexeme) (i next e : ℕ) → left_at t i ≡ comma ∷ left_at t next → left_at t e ≡ skip 1 (left_at t next) → left_at t i ≡ more_elements js ++ ls → left_at t e ≡ ls
unfolding skip
rest_passed t js ls i next e c s f = s ∙ ap (skip 1) (sym c ∙ f) ∙ skip-more_elements js 0 ls

pub no_rest : (t : List ℕ) (js : Items) (ls : List Lexeme) (i e : ℕ) → (i < length t → is_space (get_or t i 0) ≡ false) → (get_or t i 32 ≡ 44 → ⊥) → ((xs : List Lexeme) → left_at t i ≡ token end_array ∷ xs → left_at t e ≡ xs) → left_at t i ≡ more_elements js ++ ls → left_at t e ≡ ls
no_rest t no_items ls i e s n b f = b ls f
no_rest t (item j js) ls i e s n b f = let b = byte_by_kind t i 44 s (ap kind f) (λ z. absurd (omega (arith, z))) in absurd (n (get_or_default t i 32 0 b.0 ∙ b.1))

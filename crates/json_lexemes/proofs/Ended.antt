-- Strings, numbers and literals that are checked to their end.
use Rattle.std.proofs.Common.{◌≡◌, ◌⊎◌, ℕ, ◌+◌, ◌-◌, ◌<◌, ◌≤◌, true, false, ◌||◌, ◌==◌, nat_lt, List, [], ◌∷◌, ◌++◌, length, take, drop, get_or, Option, Some, None, inl, inr, refl, sym, ap, ap₂, ◌∙◌, subst, arith}
use Rattle.std.proofs.Common.{drop-drop}
use Rattle.std.proofs.lemmas.List.{take-append-drop, get_or_default, get_or_past, length-take-le, length-drop}
use Rattle.std.proofs.lemmas.Bool.{or_parts, cases_lt}
use Rattle.std.specs.Prelude.{IfSome}
use Rattle.json.specs.Json.{number, string, boolean, null}
use Rattle.json.specs.Token as tokens
use Rattle.json.specs.Text.{content, plain, after_backslash, prepend}
use Rattle.json.specs.Word.{ends_word, word, after_number}
use Rattle.json.specs.Run.{EndsAt}
use Rattle.json.specs.Print.{IsNumber}
use Rattle.std.proofs.lemmas.Option.{none-some}
use Rattle.json.specs.Lex.{Lexeme, token, string_token, between, in_string, in_escape, lex}
use Rattle.json.proofs.Printed.Numbers.{number_alone, lex-number, in_word-ended}
use Rattle.json_lexemes.specs.Places.{left_at, mode_at, IsEnd}
use Rattle.json_lexemes.specs.Grammar.{is_stop, IsFree, HasContent, Spells}
use Rattle.json_lexemes.proofs.Contents.{is_found}
use Rattle.json_lexemes.proofs.Closed.{unit_goes}
use Rattle.json_lexemes.proofs.Wide.{free_along}
use Rattle.json_lexemes.proofs.Inside.{four, unit_at, quote_is, backslash_is, plain_is}
use Rattle.json_lexemes.proofs.Steps.{drop_step, escaped, string_closes, string_escapes, string_passes, string_mode, quote_mode}
use Rattle.json_lexemes.proofs.Strings.{escape_begins, quote_begins}
use Rattle.json_lexemes.proofs.Numbers.{number_inner, word_over}

-- a byte that is read with a space past the end
pub here : (t : List ℕ) (i x : ℕ) → (32 ≡ x → ⊥) → get_or t i 32 ≡ x → (i < length t) × (get_or t i 0 ≡ x)
here t i x n e = by_place (cases_lt i (length t))
  where
    by_place : (i < length t) ⊎ (length t ≤ i) → (i < length t) × (get_or t i 0 ≡ x)
    by_place (inl h) = (h, get_or_default t i 0 32 h ∙ e)
    by_place (inr h) = absurd (n (sym (get_or_past t i 32 h) ∙ e))

-- ---- escapes

pub unit_passes : (t : List ℕ) (i u : ℕ) → i + 4 ≤ length t → unit_at t i ≡ Some u → lex in_string (drop i t) ≡ lex in_string (drop (i + 4) t)
unit_passes t i u h e = ap (lex in_string) (four t i h) ∙ (unit_goes _ _ _ _ (drop (i + 4) t) (ap is_found e)).left

pub pair_passes : (t : List ℕ) (i u : ℕ) → i + 6 ≤ length t → get_or t i 0 ≡ 92 → unit_at t (i + 2) ≡ Some u → lex in_string (drop i t) ≡ lex in_string (drop (i + 6) t)
pair_passes t i u h b e =
    let six : i + 2 + 4 ≡ i + 6 = omega arith in
    escaped t i (omega arith) b ∙ unit_passes t (i + 2) u (omega arith) e ∙ ap (λ k. lex in_string (drop k t)) six

pub passes_by : {A : Type 0} (r : Option A) (a b : List Lexeme) (f : A → List Lexeme) → a ≡ b → IfSome r (λ p. b ≡ f p) → IfSome r (λ p. a ≡ f p)
passes_by None a b f e h = tt
passes_by (Some p) a b f e h = e ∙ h

-- ---- the inside of a string

-- the bytes from `from` to i are of a string's inside
pub record IsInside (t : List ℕ) (from i : ℕ) : Type 0 where
  pub left : lex in_string (drop from t) ≡ lex in_string (drop i t)
  pub content : HasContent t i → HasContent t from
  pub mode : mode_at t from ≡ in_string → mode_at t i ≡ in_string

has_prepended : (bs : List ℕ) (o p : Option (List ℕ)) → o ≡ prepend bs p → (s : List ℕ) × (p ≡ Some s) → (s : List ℕ) × (o ≡ Some s)
has_prepended bs o p e h = (bs ++ h.0, e ∙ ap (prepend bs) h.1)

pub inside_itself : (t : List ℕ) (from : ℕ) → IsInside t from from
inside_itself t from = record { left = refl; content = λ h. h; mode = λ m. m }

pub inside_on : (t : List ℕ) (a b c : ℕ) → IsInside t a b → IsInside t b c → IsInside t a c
inside_on t a b c p q = record { left = p.left ∙ q.left; content = λ h. p.content (q.content h); mode = λ m. q.mode (p.mode m) }

pub plain_byte : (x : ℕ) → is_stop x ≡ false → (x ≡ 34 → ⊥) × (x ≡ 92 → ⊥) × (32 ≤ x)
plain_byte x h =
    let p = or_parts ((x == 34) || (x == 92)) (nat_lt x 32) h in
    let q = or_parts (x == 34) (x == 92) p.0 in
    (no_number x 34 q.0, no_number x 92 q.1, grind arith)
  where
    no_number : (x y : ℕ) → (x == y) ≡ false → x ≡ y → ⊥
    no_number x y e f = grind arith

pub inside_byte : (t : List ℕ) (i : ℕ) → i < length t → (get_or t i 0 ≡ 34 → ⊥) × (get_or t i 0 ≡ 92 → ⊥) × (32 ≤ get_or t i 0) → IsInside t i (i + 1)
inside_byte t i h p = record {
  left = string_passes t i h p.0 p.1;
  content = has_prepended (get_or t i 0 ∷ []) _ _ (plain_is t i h p.0 p.1 p.2);
  mode = string_mode t i h p.0 p.1;
}

pub inside_to : (t : List ℕ) (from i : ℕ) → (from ≤ i) × (i ≤ length t) → IsFree is_stop t from i → IsInside t from i
inside_to t from i bounds p =
    free_along (IsInside t from) is_stop t from (i - from) i (omega (arith, bounds)) bounds.1
    (λ j le lt f before. inside_on t from j (j + 1) before (inside_byte t j lt (plain_byte (get_or t j 0) f))) p (inside_itself t from)

pub inside_escape : (t bs : List ℕ) (i k : ℕ) → i < length t → get_or t i 0 ≡ 92 → lex in_escape (drop (i + 1) t) ≡ lex in_string (drop k t)
    → content after_backslash (drop (i + 1) t) ≡ prepend bs (content plain (drop k t)) → (mode_at t (i + 1) ≡ in_escape → mode_at t k ≡ in_string) → IsInside t i k
inside_escape t bs i k h b l c m = record {
  left = string_escapes t i h b ∙ l;
  content = has_prepended bs _ _ (backslash_is t i h b ∙ c);
  mode = λ s. m (escape_begins t i h b s);
}

pub content_on : (t : List ℕ) (from i : ℕ) (r : Option ℕ) → IsInside t from i → IfSome r (λ _. HasContent t i) → IfSome r (λ _. HasContent t from)
content_on t from i None p h = tt
content_on t from i (Some k) p h = p.content h

pub inside_closes : (t : List ℕ) (from i : ℕ) → i < length t → get_or t i 0 ≡ 34 → IsInside t from i → (lex in_string (drop from t) ≡ left_at t (i + 1)) × HasContent t from
inside_closes t from i h q p = (p.left ∙ string_closes t i h q, p.content ([], quote_is t i h q))

pub inside_ends : (t : List ℕ) (from i : ℕ) → i < length t → get_or t i 0 ≡ 34 → IsInside t from i → mode_at t from ≡ in_string → mode_at t (i + 1) ≡ between
inside_ends t from i h q p m = quote_mode t i h q (p.mode m)

pub mode_on : (t : List ℕ) (from i : ℕ) (r : Option ℕ) → IsInside t from i → IfSome r (λ k. mode_at t i ≡ in_string → mode_at t k ≡ between) → IfSome r (λ k. mode_at t from ≡ in_string → mode_at t k ≡ between)
mode_on t from i None p h = tt
mode_on t from i (Some k) p h = λ m. h (p.mode m)

-- ---- a string

pub string_spells : (t : List ℕ) (i k : ℕ) → i < length t → get_or t i 0 ≡ 34 → lex in_string (drop (i + 1) t) ≡ left_at t k → HasContent t (i + 1)
    → (s : List ℕ) × (left_at t i ≡ token (tokens.string s) ∷ left_at t k)
unfolding lex
string_spells t i k h q l c = (
  c.0,
  ap (lex between) (drop_step t i h ∙ ap (λ x. x ∷ drop (i + 1) t) q) ∙ ap₂ (λ o ls. token (string_token o) ∷ ls) c.1 l,
)

pub string_closed : (t : List ℕ) (i : ℕ) (r : Option ℕ) → i < length t → get_or t i 0 ≡ 34 → IfSome r (λ k. lex in_string (drop (i + 1) t) ≡ left_at t k) → IfSome r (λ _. HasContent t (i + 1))
    → IfSome r (Spells t 0 i)
string_closed t i None h q l c = tt
string_closed t i (Some k) h q l c = let s = string_spells t i k h q l c in (string s.0, s.1, omega arith)

pub string_ended : (t : List ℕ) (i : ℕ) (r : Option ℕ) → i < length t → get_or t i 0 ≡ 34 → IfSome r (λ k. mode_at t (i + 1) ≡ in_string → mode_at t k ≡ between) → IfSome r (λ k. IsEnd t i → IsEnd t k)
string_ended t i None h q c = tt
string_ended t i (Some k) h q c = λ e. inl (c (quote_begins t i h q e))

-- ---- numbers and literals

pub if_ended : (P : ℕ → Type 0) (t : List ℕ) (r : Option ℕ) (k : ℕ) → IfSome r (λ i. (i ≡ k) × (ends_word (drop k t) ≡ true)) → (ends_word (drop k t) ≡ true → P k) → IfSome r P
if_ended P t None k h f = tt
if_ended P t (Some i) k h f = subst P (sym h.0) (f h.1)

number_here : (t : List ℕ) (i k : ℕ) → EndsAt t i (Some k) (after_number (drop i t)) → drop i t ≡ take (k - i) (drop i t) ++ drop k t
number_here t i k e =
    let there : i + (k - i) ≡ k = omega (arith, e.1) in
    sym (take-append-drop (k - i) (drop i t)) ∙ ap (λ r. take (k - i) (drop i t) ++ r) (drop-drop (k - i) i t ∙ ap (λ n. drop n t) there)

number_is : (t : List ℕ) (i k : ℕ) → EndsAt t i (Some k) (after_number (drop i t)) → ends_word (drop k t) ≡ true → IsNumber (take (k - i) (drop i t))
number_is t i k e ended = number_alone (take (k - i) (drop i t)) (drop k t) ended (ap after_number (sym (number_here t i k e)) ∙ sym e.0)

pub number_spells : (t : List ℕ) (i k : ℕ) → EndsAt t i (Some k) (after_number (drop i t)) → ends_word (drop k t) ≡ true → Spells t 0 i k
number_spells t i k e ended =
    let s = take (k - i) (drop i t) in
    (number s, ap (lex between) (number_here t i k e) ∙ lex-number s (drop k t) (number_is t i k e ended) ended, omega arith)

no_number : IsNumber [] → ⊥
unfolding after_number
no_number e = none-some [] e

pub number_moves : (t : List ℕ) (i k : ℕ) → EndsAt t i (Some k) (after_number (drop i t)) → ends_word (drop k t) ≡ true → i < k
number_moves t i k e ended = by_order (cases_lt i k)
  where
    by_order : (i < k) ⊎ (k ≤ i) → i < k
    by_order (inl h) = h
    by_order (inr h) = let none : k - i ≡ 0 = omega arith in absurd (no_number (subst (λ n. IsNumber (take n (drop i t))) none (number_is t i k e ended)))

pub number_ends : (t : List ℕ) (i k : ℕ) → EndsAt t i (Some k) (after_number (drop i t)) → ends_word (drop k t) ≡ true → IsEnd t i → IsEnd t k
number_ends t i k e ended =
    let s = take (k - i) (drop i t) in
    let more = number_moves t i k e ended in
    let size : length s ≡ k - i = length-take-le (k - i) (drop i t) (omega (arith, length-drop i t, e.1)) in
    word_over t s i k (omega (arith, more, e.1)) (omega (arith, size, more)) (omega (arith, size, more)) (number_here t i k e) (number_inner s (number_is t i k e ended)) ended

true_left : (r : List ℕ) → ends_word r ≡ true → lex between (116 ∷ 114 ∷ 117 ∷ 101 ∷ r) ≡ token (tokens.boolean true) ∷ lex between r
unfolding lex word
true_left r e = rw e (ap (λ ls. token (tokens.boolean true) ∷ ls) (in_word-ended r e))

false_left : (r : List ℕ) → ends_word r ≡ true → lex between (102 ∷ 97 ∷ 108 ∷ 115 ∷ 101 ∷ r) ≡ token (tokens.boolean false) ∷ lex between r
unfolding lex word
false_left r e = rw e (ap (λ ls. token (tokens.boolean false) ∷ ls) (in_word-ended r e))

null_left : (r : List ℕ) → ends_word r ≡ true → lex between (110 ∷ 117 ∷ 108 ∷ 108 ∷ r) ≡ token tokens.null ∷ lex between r
unfolding lex word
null_left r e = rw e (ap (λ ls. token tokens.null ∷ ls) (in_word-ended r e))

true_here : (t : List ℕ) (i : ℕ) → i < length t → get_or t i 0 ≡ 116 → drop (i + 1) t ≡ 114 ∷ 117 ∷ 101 ∷ drop (i + 1 + 3) t → drop i t ≡ 116 ∷ 114 ∷ 117 ∷ 101 ∷ drop (i + 4) t
true_here t i h b e = let four : i + 1 + 3 ≡ i + 4 = omega arith in drop_step t i h ∙ ap₂ (λ x r. x ∷ r) b (e ∙ ap (λ k. 114 ∷ 117 ∷ 101 ∷ drop k t) four)

pub true_spells : (t : List ℕ) (i : ℕ) → i < length t → get_or t i 0 ≡ 116 → drop (i + 1) t ≡ 114 ∷ 117 ∷ 101 ∷ drop (i + 1 + 3) t → ends_word (drop (i + 4) t) ≡ true → Spells t 0 i (i + 4)
true_spells t i h b e ended = (boolean true, ap (lex between) (true_here t i h b e) ∙ true_left (drop (i + 4) t) ended, omega arith)

pub true_ends : (t : List ℕ) (i : ℕ) → i < length t → get_or t i 0 ≡ 116 → drop (i + 1) t ≡ 114 ∷ 117 ∷ 101 ∷ drop (i + 1 + 3) t → ends_word (drop (i + 4) t) ≡ true → IsEnd t i → IsEnd t (i + 4)
true_ends t i h b e = word_over t (116 ∷ 114 ∷ 117 ∷ 101 ∷ []) i (i + 4) h refl (omega arith) (true_here t i h b e) (refl, (refl, (refl, (refl, tt))))

null_here : (t : List ℕ) (i : ℕ) → i < length t → get_or t i 0 ≡ 110 → drop (i + 1) t ≡ 117 ∷ 108 ∷ 108 ∷ drop (i + 1 + 3) t → drop i t ≡ 110 ∷ 117 ∷ 108 ∷ 108 ∷ drop (i + 4) t
null_here t i h b e = let four : i + 1 + 3 ≡ i + 4 = omega arith in drop_step t i h ∙ ap₂ (λ x r. x ∷ r) b (e ∙ ap (λ k. 117 ∷ 108 ∷ 108 ∷ drop k t) four)

pub null_spells : (t : List ℕ) (i : ℕ) → i < length t → get_or t i 0 ≡ 110 → drop (i + 1) t ≡ 117 ∷ 108 ∷ 108 ∷ drop (i + 1 + 3) t → ends_word (drop (i + 4) t) ≡ true → Spells t 0 i (i + 4)
null_spells t i h b e ended = (null, ap (lex between) (null_here t i h b e) ∙ null_left (drop (i + 4) t) ended, omega arith)

pub null_ends : (t : List ℕ) (i : ℕ) → i < length t → get_or t i 0 ≡ 110 → drop (i + 1) t ≡ 117 ∷ 108 ∷ 108 ∷ drop (i + 1 + 3) t → ends_word (drop (i + 4) t) ≡ true → IsEnd t i → IsEnd t (i + 4)
null_ends t i h b e = word_over t (110 ∷ 117 ∷ 108 ∷ 108 ∷ []) i (i + 4) h refl (omega arith) (null_here t i h b e) (refl, (refl, (refl, (refl, tt))))

false_here : (t : List ℕ) (i : ℕ) → i + 1 < length t → get_or t i 0 ≡ 102 → get_or t (i + 1) 0 ≡ 97 → drop (i + 2) t ≡ 108 ∷ 115 ∷ 101 ∷ drop (i + 2 + 3) t
    → drop i t ≡ 102 ∷ 97 ∷ 108 ∷ 115 ∷ 101 ∷ drop (i + 5) t
false_here t i h b c e =
    let two : i + 1 + 1 ≡ i + 2 = omega arith in
    let five : i + 2 + 3 ≡ i + 5 = omega arith in
    let rest : drop (i + 1) t ≡ 97 ∷ 108 ∷ 115 ∷ 101 ∷ drop (i + 5) t = drop_step t (i + 1) h ∙ ap₂ (λ x r. x ∷ r) c (ap (λ k. drop k t) two ∙ e ∙ ap (λ k. 108 ∷ 115 ∷ 101 ∷ drop k t) five) in
    drop_step t i (omega arith) ∙ ap₂ (λ x r. x ∷ r) b rest

pub false_spells : (t : List ℕ) (i : ℕ) → i + 1 < length t → get_or t i 0 ≡ 102 → get_or t (i + 1) 0 ≡ 97 → drop (i + 2) t ≡ 108 ∷ 115 ∷ 101 ∷ drop (i + 2 + 3) t → ends_word (drop (i + 5) t) ≡ true
    → Spells t 0 i (i + 5)
false_spells t i h b c e ended = (boolean false, ap (lex between) (false_here t i h b c e) ∙ false_left (drop (i + 5) t) ended, omega arith)

pub false_ends : (t : List ℕ) (i : ℕ) → i + 1 < length t → get_or t i 0 ≡ 102 → get_or t (i + 1) 0 ≡ 97 → drop (i + 2) t ≡ 108 ∷ 115 ∷ 101 ∷ drop (i + 2 + 3) t → ends_word (drop (i + 5) t) ≡ true → IsEnd t i
    → IsEnd t (i + 5)
false_ends t i h b c e = word_over t (102 ∷ 97 ∷ 108 ∷ 115 ∷ 101 ∷ []) i (i + 5) (omega arith) refl (omega arith) (false_here t i h b c e) (refl, (refl, (refl, (refl, (refl, tt)))))

-- Passing over bytes that open and close no bracket.
use Rattle.std.proofs.Common.{◌≡◌, ◌≢◌, ◌⊎◌, ℕ, zero, suc, ◌+◌, ◌-◌, ◌<◌, ◌≤◌, Bool, true, false, not, cond, ◌&&◌, ◌||◌, ◌==◌, max, List, ◌∷◌, length, drop, get_or, inl, inr, refl, sym, ap, ap₂, ◌∙◌, subst, arith}
use Rattle.std.proofs.lemmas.Bool.{false≢true, not-true, not-false, or_parts, or_cases, or_left, cases_Bool, cases_eq, lt-ltb, le-ltb, eqb-true}
use Rattle.json.specs.Token.{bad}
use Rattle.json.specs.Word.{is_operator, is_space, ends_word, word}
use Rattle.json.specs.Lex.{Lexeme, token, comma, colon, operator_lexeme, Class, quote, backslash, operator, space, other, class, between, in_word, in_string, lex, lex_byte}
use Rattle.json_lexemes.specs.Lexing.{next_mode}
use Rattle.json_lexemes.specs.Skipped.{depth_after, most_open, if_open, skip}
use Rattle.json_lexemes.specs.Places.{mode_at, left_at, depth_by, IsEnd, Steps}
use Rattle.json_lexemes.specs.Runs.{is_bracket, is_quote, is_mark, is_flat, of_word, is_of_word, goes_on, mode_of, run_mode, string_mode, Passes, InRun, InString}
use Rattle.json_lexemes.specs.Grammar.{IsFree}
use Rattle.json_lexemes.proofs.Steps.{drop_step, mode_step, end_modes, begins_here, most_least, flat_word, word_left, string_escapes, escape_passes, string_passes}
use Rattle.json_lexemes.proofs.Steps.{string_mode as plain_in_string}
use Rattle.json_lexemes.proofs.Wide.{free_along}

-- ---- lexemes that open and close nothing

pub passes_itself : (a : List Lexeme) → Passes a a
passes_itself a = record { most = λ n. refl; skips = λ n. refl }

pub passes_on : (a b c : List Lexeme) → Passes a b → Passes b c → Passes a c
passes_on a b c p q = record { most = λ n. p.most n ∙ q.most n; skips = λ n. p.skips n ∙ q.skips n }

pub passes_same : (a b : List Lexeme) → a ≡ b → Passes a b
passes_same a b e = record { most = λ n. ap (most_open n) e; skips = λ n. ap (skip (suc n)) e }

pub passes_lexeme : (l : Lexeme) (ls : List Lexeme) → ((n : ℕ) → depth_after n l ≡ n) → Passes (l ∷ ls) ls
unfolding most_open skip
passes_lexeme l ls flat = record {
  most = λ n. let e = ap (λ m. max n (most_open m ls)) (flat n) in omega (arith, e, most_least n ls);
  skips = λ n. ap (λ m. if_open m ls (skip m ls)) (flat (suc n));
}

-- where a bracket is open
pub still_open : (n : ℕ) (a b : List Lexeme) → 0 < n → Passes a b → if_open n a (skip n a) ≡ skip n b
still_open zero a b h p = let never : ⊥ = omega arith in absurd never
still_open (suc n) a b h p = p.skips n

-- ---- classes of flat bytes

flat_parts : (x : ℕ) → is_flat x ≡ true → (is_bracket x ≡ false) × ((x == 34) ≡ false)
flat_parts x h = or_parts (is_bracket x) (x == 34) (not-true _ h)

pub stops_at_bracket : (x : ℕ) → is_flat x ≡ false → x ≢ 34 → is_bracket x ≡ true
stops_at_bracket x h q = go (or_cases (is_bracket x) (x == 34) (not-false _ h))
  where
    go : (is_bracket x ≡ true) ⊎ ((x == 34) ≡ true) → is_bracket x ≡ true
    go (inl b) = b
    go (inr e) = absurd (q (eqb-true x 34 e))

pub bracket_operator : (x : ℕ) → is_bracket x ≡ true → is_operator x ≡ true
bracket_operator x b = or_left (is_bracket x || (x == 58)) (x == 44) (or_left (is_bracket x) (x == 58) b)

rest_no_quote : (b o s : Bool) → cond b backslash (cond o operator (cond s space other)) ≢ quote
rest_no_quote true o s e = cc
rest_no_quote false true s e = cc
rest_no_quote false false true e = cc
rest_no_quote false false false e = cc

no_quote : (x : ℕ) → (x == 34) ≡ false → class x ≢ quote
no_quote x q e =
    let c : class x ≡ cond (x == 92) backslash (cond (is_operator x) operator (cond (is_space x) space other)) = ap (λ v. cond v quote (cond (x == 92) backslash (cond (is_operator x) operator (cond (is_space x) space other)))) q in
    rest_no_quote (x == 92) (is_operator x) (is_space x) (sym c ∙ e)

comma_or_colon : (n : ℕ) (b : Bool) → depth_after n (cond b comma colon) ≡ n
comma_or_colon n true = refl
comma_or_colon n false = refl

operator_flat : (x : ℕ) → is_bracket x ≡ false → (n : ℕ) → depth_after n (operator_lexeme x) ≡ n
operator_flat x h n =
    let c = or_parts ((x == 123) || (x == 125) || (x == 91)) (x == 93) h in
    let d = or_parts ((x == 123) || (x == 125)) (x == 91) c.0 in
    let e = or_parts (x == 123) (x == 125) d.0 in
    rw (e.0, e.1, d.1, c.1) (comma_or_colon n (x == 44))

byte_passes : (b : Bool) (c : Class) (x : ℕ) (xs : List ℕ) → c ≢ quote → ((n : ℕ) → depth_after n (operator_lexeme x) ≡ n)
    → Passes (lex_byte (mode_of b) c x xs (λ m. lex m xs)) (lex (mode_of (of_word c)) xs)
byte_passes b quote x xs q o = absurd (q refl)
byte_passes false backslash x xs q o = passes_lexeme (token bad) (lex in_word xs) (λ n. refl)
byte_passes false operator x xs q o = passes_lexeme (operator_lexeme x) (lex between xs) o
byte_passes false space x xs q o = passes_itself (lex between xs)
byte_passes false other x xs q o = passes_lexeme (token (word (x ∷ xs))) (lex in_word xs) (flat_word (x ∷ xs)).stays
byte_passes true backslash x xs q o = passes_itself (lex in_word xs)
byte_passes true operator x xs q o = passes_lexeme (operator_lexeme x) (lex between xs) o
byte_passes true space x xs q o = passes_itself (lex between xs)
byte_passes true other x xs q o = passes_itself (lex in_word xs)

byte_mode : (b : Bool) (c : Class) → c ≢ quote → next_mode (mode_of b) c ≡ mode_of (of_word c)
byte_mode b quote q = absurd (q refl)
byte_mode false backslash q = refl
byte_mode false operator q = refl
byte_mode false space q = refl
byte_mode false other q = refl
byte_mode true backslash q = refl
byte_mode true operator q = refl
byte_mode true space q = refl
byte_mode true other q = refl

-- ---- runs of flat bytes

goes_on_here : (t : List ℕ) (from : ℕ) → goes_on t from from ≡ false
goes_on_here t from = ap (λ b. b && is_of_word (get_or t (from - 1) 0)) (le-ltb from from (omega arith))

goes_on_next : (t : List ℕ) (from k : ℕ) → from ≤ k → goes_on t from (k + 1) ≡ is_of_word (get_or t k 0)
goes_on_next t from k h =
    let same : k + 1 - 1 ≡ k = omega arith in
    ap₂ (λ b i. b && is_of_word (get_or t i 0)) (lt-ltb from (k + 1) (omega arith)) same

-- a mode in which a flat byte is met
mode_here : (t : List ℕ) (from k : ℕ) → k < length t → IsEnd t from → (k ≡ from) ⊎ (mode_at t k ≡ run_mode t from k) → (b : Bool) × (mode_at t k ≡ mode_of b)
mode_here t from k h e (inr m) = (goes_on t from k, m)
mode_here t from k h e (inl s) = by_mode (end_modes t k h (subst (IsEnd t) (sym s) e))
  where
    by_mode : (mode_at t k ≡ between) ⊎ (mode_at t k ≡ in_word) → (b : Bool) × (mode_at t k ≡ mode_of b)
    by_mode (inl m) = (false, m)
    by_mode (inr m) = (true, m)

pub run_step : (t : List ℕ) (from k : ℕ) → from ≤ k → k < length t → is_flat (get_or t k 0) ≡ true → InRun t from k → InRun t from (k + 1)
unfolding lex
run_step t from k l h f r =
    let x = get_or t k 0 in
    let xs = drop (k + 1) t in
    let p = flat_parts x f in
    let q = no_quote x p.1 in
    let g = sym (goes_on_next t from k l) in
    record {
      passes =
          passes_on _ _ _ r.passes (passes_on _ _ _ (passes_same _ _ (ap (lex (run_mode t from k)) (drop_step t k h)))
          (passes_on _ _ _ (byte_passes (goes_on t from k) (class x) x xs q (operator_flat x p.0)) (passes_same _ _ (ap (λ b. lex (mode_of b) xs) g))));
      mode = λ e.
          let m = mode_here t from k h e (r.mode e) in
          inr (mode_step t k h ∙ ap (λ n. next_mode n (class x)) m.1 ∙ byte_mode m.0 (class x) q ∙ ap mode_of g);
    }

-- the same of several bytes
pub flat_run : (t : List ℕ) (from i k : ℕ) → from ≤ i → i ≤ k → k ≤ length t → IsFree is_mark t i k → InRun t from i → InRun t from k
flat_run t from i k l m h p r = free_along (InRun t from) is_mark t i (k - i) k (omega arith) h (λ j le lt f. run_step t from j (omega (arith, l, le)) lt (ap not f)) p r

ended_left : (t : List ℕ) (k : ℕ) (b : Bool) → ends_word (drop k t) ≡ true → lex (mode_of b) (drop k t) ≡ left_at t k
ended_left t k true e = word_left t k e
ended_left t k false e = refl

ended_end : (t : List ℕ) (k : ℕ) (b : Bool) → ends_word (drop k t) ≡ true → mode_at t k ≡ mode_of b → IsEnd t k
ended_end t k true e m = inr (inl (m, e))
ended_end t k false e m = inl m

-- where no word goes on behind a run
pub run_left : (t : List ℕ) (from k : ℕ) → InRun t from k → ends_word (drop k t) ≡ true → Passes (left_at t from) (left_at t k)
run_left t from k r e = passes_on _ _ _ r.passes (passes_same _ _ (ended_left t k (goes_on t from k) e))

pub run_end : (t : List ℕ) (from k : ℕ) → InRun t from k → ends_word (drop k t) ≡ true → IsEnd t from → IsEnd t k
run_end t from k r e i = by_place (r.mode i)
  where
    by_place : (k ≡ from) ⊎ (mode_at t k ≡ run_mode t from k) → IsEnd t k
    by_place (inl s) = subst (IsEnd t) (sym s) i
    by_place (inr m) = ended_end t k (goes_on t from k) e m

-- ---- a quote behind a run

-- no word has just ended there
pub run_here : (t : List ℕ) (from k : ℕ) → k < length t → get_or t k 0 ≡ 34 → InRun t from k → IsEnd t from → mode_at t k ≡ run_mode t from k
run_here t from k h q r i = by_place (r.mode i)
  where
    by_place : (k ≡ from) ⊎ (mode_at t k ≡ run_mode t from k) → mode_at t k ≡ run_mode t from k
    by_place (inr m) = m
    by_place (inl s) =
        begins_here t k h (ap is_operator q) (ap is_space q) (subst (IsEnd t) (sym s) i)
        ∙ ap mode_of (sym (ap (goes_on t from) s ∙ goes_on_here t from))

pub flat_quote : (t : List ℕ) (i k : ℕ) → get_or t i 0 ≡ 34 → Steps t i k → Passes (left_at t i) (left_at t k)
flat_quote t i k q s = passes_on _ _ _ (passes_same _ _ s.left) (passes_lexeme s.first (left_at t k) (λ n. s.opens n ∙ ap (depth_by n) q))

-- ---- bytes of a string up to a quote

pub string_begins : (t : List ℕ) (from : ℕ) → InString t from from
string_begins t from = record { escaped = false; left = refl; mode = λ m. m; behind = λ e. absurd (false≢true e) }

string_byte : (t : List ℕ) (from k : ℕ) → from ≤ k → k < length t → get_or t k 0 ≢ 34 → (b : Bool) → lex (string_mode b) (drop k t) ≡ lex in_string (drop from t)
    → (mode_at t from ≡ in_string → mode_at t k ≡ string_mode b) → InString t from (k + 1)
string_byte t from k l h q true left mode = record {
  escaped = false;
  left = sym (escape_passes t k h) ∙ left;
  mode = λ m. mode_step t k h ∙ ap (λ n. next_mode n (class (get_or t k 0))) (mode m);
  behind = λ e. absurd (false≢true e);
}
string_byte t from k l h q false left mode = by_byte (cases_eq (get_or t k 0) 92)
  where
    by_byte : (get_or t k 0 ≡ 92) ⊎ (get_or t k 0 ≢ 92) → InString t from (k + 1)
    by_byte (inl e) = record {
      escaped = true;
      left = sym (string_escapes t k h e) ∙ left;
      mode = λ m. mode_step t k h ∙ ap₂ (λ n x. next_mode n (class x)) (mode m) e;
      behind = λ b. let same : k + 1 - 1 ≡ k = omega arith in (omega arith, ap (λ j. get_or t j 0) same ∙ e);
    }
    by_byte (inr b) = record {
      escaped = false;
      left = sym (string_passes t k h q b) ∙ left;
      mode = λ m. plain_in_string t k h q b (mode m);
      behind = λ e. absurd (false≢true e);
    }

pub string_step : (t : List ℕ) (from k : ℕ) → from ≤ k → k < length t → get_or t k 0 ≢ 34 → InString t from k → InString t from (k + 1)
string_step t from k l h q s = string_byte t from k l h q s.escaped s.left s.mode

not_quote : (x : ℕ) → is_quote x ≡ false → x ≢ 34
not_quote x h e = grind arith

-- the same of several bytes, from the string's inside on
pub string_run : (t : List ℕ) (from k : ℕ) → from ≤ k → k ≤ length t → IsFree is_quote t from k → InString t from k
string_run t from k l h p = free_along (InString t from) is_quote t from (k - from) k (omega arith) h (λ j le lt f. string_step t from j le lt (not_quote _ f)) p (string_begins t from)

-- where no backslash stands before k, its byte isn't escaped
pub unescaped : (t : List ℕ) (from k : ℕ) → (s : InString t from k) → (from < k → get_or t (k - 1) 0 ≢ 92) → s.escaped ≡ false
unescaped t from k s n = by_state (cases_Bool s.escaped)
  where
    by_state : (s.escaped ≡ true) ⊎ (s.escaped ≡ false) → s.escaped ≡ false
    by_state (inl e) = absurd (n (s.behind e).0 (s.behind e).1)
    by_state (inr e) = e

pub unescaped_left : (t : List ℕ) (from k : ℕ) → InString t from k → (from < k → get_or t (k - 1) 0 ≢ 92) → lex in_string (drop k t) ≡ lex in_string (drop from t)
unescaped_left t from k s n = ap (λ b. lex (string_mode b) (drop k t)) (sym (unescaped t from k s n)) ∙ s.left

pub unescaped_mode : (t : List ℕ) (from k : ℕ) → InString t from k → (from < k → get_or t (k - 1) 0 ≢ 92) → mode_at t from ≡ in_string → mode_at t k ≡ in_string
unescaped_mode t from k s n m = s.mode m ∙ ap string_mode (unescaped t from k s n)

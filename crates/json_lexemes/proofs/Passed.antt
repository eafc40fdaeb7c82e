-- A block is passed by its masks as by its bytes.
use Rattle.std.proofs.Common.{◌≡◌, ◌≢◌, ℕ, zero, suc, ◌+◌, ◌-◌, ◌<◌, ◌≤◌, ◌^◌, Bool, true, false, cond, max, ◌&&◌, ◌||◌, ◌==◌, ◌⊎◌, inl, inr, List, length, drop, get_or, refl, sym, ap, ap₂, ◌∙◌, subst, arith}
use Rattle.std.proofs.lemmas.Bool.{or_parts, true≢false, or_cases, eqb-true, cases_lt, lt-ltb, le-ltb}
use lib.Count.{ones}
use Rattle.json.specs.Word.{is_operator}
use Rattle.json.specs.Lex.{Class, operator, class, Mode, between, in_word, in_string, in_escape, lex}
use Rattle.json.specs.Scan.{test}
use Rattle.json_lexemes.specs.Lexing.{next_mode}
use Rattle.json_lexemes.specs.Skipped.{one_less, most_open, skip}
use Rattle.json_lexemes.specs.Places.{mode_at, left_at, depth_by}
use Rattle.json_lexemes.specs.Runs.{is_of_word, goes_on, mode_of, run_mode}
use Rattle.json_lexemes.specs.Blocks.{is_string_mark, is_opening, is_closing, is_outside, mode_along, open_along, mode_by, carried, HasBrackets, open_by, StaysOpen}
use Rattle.json_lexemes.proofs.Bits.{set_below, ones_below, below_within}
use Rattle.json_lexemes.proofs.Steps.{each_operator, operator_class, string_passes, string_mode}
use Rattle.json_lexemes.proofs.Masked.{neither}
use Rattle.json_lexemes.proofs.Wide.{free_along}
use Rattle.json_lexemes.specs.Grammar.{IsFree}
use Rattle.std.proofs.lemmas.Simd.{get_or-chunk}
use lib.Bits.{bit_or}
use lib.Lanes.{chunk}
use Rattle.json_lexemes.proofs.Blocks.{along_skips, along_closes, along_most}

-- ---- counts

opening_alone : (x : ℕ) → is_opening x ≡ true → is_closing x ≡ false
opening_alone x h = by_byte (or_cases (x == 123) (x == 91) h)
  where
    by_byte : ((x == 123) ≡ true) ⊎ ((x == 91) ≡ true) → is_closing x ≡ false
    by_byte (inl e) = ap is_closing (eqb-true x 123 e)
    by_byte (inr e) = ap is_closing (eqb-true x 91 e)

pub closing_operator : (x : ℕ) → is_closing x ≡ true → is_operator x ≡ true
closing_operator x h = by_byte (or_cases (x == 125) (x == 93) h)
  where
    by_byte : ((x == 125) ≡ true) ⊎ ((x == 93) ≡ true) → is_operator x ≡ true
    by_byte (inl e) = ap is_operator (eqb-true x 125 e)
    by_byte (inr e) = ap is_operator (eqb-true x 93 e)

pub opening_operator : (x : ℕ) → is_opening x ≡ true → is_operator x ≡ true
opening_operator x h = by_byte (or_cases (x == 123) (x == 91) h)
  where
    by_byte : ((x == 123) ≡ true) ⊎ ((x == 91) ≡ true) → is_operator x ≡ true
    by_byte (inl e) = ap is_operator (eqb-true x 123 e)
    by_byte (inr e) = ap is_operator (eqb-true x 91 e)

least_step : (o s : Bool) (d n b : ℕ) → n ≤ d + b → n ≤ cond o (suc d) (cond s (one_less d) d) + (b + cond s 1 0)
least_step true true d n b h = omega (arith, h)
least_step true false d n b h = omega (arith, h)
least_step false true zero n b h = omega (arith, h)
least_step false true (suc d) n b h = omega (arith, h)
least_step false false d n b h = omega (arith, h)

total_step : (o s : Bool) (d n a b : ℕ) → 0 < d → (o && s) ≡ false → d + b ≡ n + a → cond o (suc d) (cond s (one_less d) d) + (b + cond s 1 0) ≡ n + (a + cond o 1 0)
total_step true true d n a b p h e = absurd (true≢false h)
total_step true false d n a b p h e = omega (arith, e)
total_step false true zero n a b p h e = let never : ⊥ = omega (arith, p) in absurd never
total_step false true (suc d) n a b p h e = omega (arith, e)
total_step false false d n a b p h e = omega (arith, e)

most_step : (o s : Bool) (d n a : ℕ) → d ≤ n + a → cond o (suc d) (cond s (one_less d) d) ≤ n + (a + cond o 1 0)
most_step true s d n a h = omega (arith, h)
most_step false true zero n a h = omega (arith, h)
most_step false true (suc d) n a h = omega (arith, h)
most_step false false d n a h = omega (arith, h)

module _ (o s n : ℕ) where
  count_least : (i : ℕ) → n ≤ open_by o s n i + set_below s i
  unfolding open_by set_below
  count_least zero = omega arith
  count_least (suc i) = least_step (test o i) (test s i) (open_by o s n i) n (set_below s i) (count_least i)

  -- too few close to close the last
  pub few_close : s < 2 ^ 64 → ones s < n → StaysOpen o s n 64
  few_close small few j l = let a = count_least j in let b = below_within s j 64 l in let e = ones_below 64 s small in omega (arith, a, b, e, few)

  count_most : (i : ℕ) → open_by o s n i ≤ n + set_below o i
  unfolding open_by set_below
  count_most zero = omega arith
  count_most (suc i) = most_step (test o i) (test s i) (open_by o s n i) n (set_below o i) (count_most i)

  counted : (i : ℕ) → i ≤ 64 → StaysOpen o s n i → ((j : ℕ) → j < 64 → (test o j && test s j) ≡ false) → open_by o s n i + set_below s i ≡ n + set_below o i
  unfolding open_by set_below
  counted zero h p a = refl
  counted (suc i) h p a = total_step (test o i) (test s i) (open_by o s n i) n (set_below o i) (set_below s i) (p i (omega arith)) (a i (omega (arith, h))) (counted i (omega (arith, h)) (λ j l. p j (omega (arith, l))) a)

-- ---- masks and bytes

both_ways : (a b w : Bool) (d : ℕ) → cond (a && w) (suc d) (cond (b && w) (one_less d) d) ≡ cond w (cond a (suc d) (cond b (one_less d) d)) d
both_ways true true true d = refl
both_ways true false true d = refl
both_ways false true true d = refl
both_ways false false true d = refl
both_ways true true false d = refl
both_ways true false false d = refl
both_ways false true false d = refl
both_ways false false false d = refl

never_both : (a b w : Bool) → (a ≡ true → b ≡ false) → ((a && w) && (b && w)) ≡ false
never_both true true w h = absurd (true≢false (h refl))
never_both true false true h = refl
never_both true false false h = refl
never_both false b w h = refl

closes_by : (w a b : Bool) (d : ℕ) → 0 < d → cond w (cond a (suc d) (cond b (one_less d) d)) d ≡ 0 → (w ≡ true) × (b ≡ true)
closes_by false a b d p e = let never : ⊥ = omega (arith, p, e) in absurd never
closes_by true true b d p e = let never : ⊥ = omega (arith, e) in absurd never
closes_by true false true d p e = (refl, refl)
closes_by true false false d p e = let never : ⊥ = omega (arith, p, e) in absurd never

outside_next : (m : Mode) (c : Class) → is_outside m ≡ true → c ≡ operator → next_mode m c ≡ between
outside_next between c w e = ap (next_mode between) e
outside_next in_word c w e = ap (next_mode in_word) e
outside_next in_string c w e = absurd (true≢false (sym w))
outside_next in_escape c w e = absurd (true≢false (sym w))

pub record Closed (t : List ℕ) (at : ℕ) (m : Mode) (n i : ℕ) : Type 0 where
  pub left : left_at t (at + i + 1) ≡ skip n (lex m (drop at t))
  pub closing : is_closing (get_or t (at + i) 0) ≡ true
  pub mode : mode_along t at m (i + 1) ≡ between

module _ (t : List ℕ) (at : ℕ) (m : Mode) (o s : ℕ) (f : HasBrackets t at m o s) (room : at + 64 ≤ length t) where
  same_count : (n i : ℕ) → i ≤ 64 → open_by o s n i ≡ open_along t at m n i
  unfolding open_by open_along
  same_count n zero h = refl
  same_count n (suc i) h =
      let d = open_by o s n i in
      let x = get_or t (at + i) 0 in
      let w = is_outside (mode_along t at m i) in
      ap₂ (λ a b. cond a (suc d) (cond b (one_less d) d)) (f.opening i (omega (arith, h))) (f.closing i (omega (arith, h)))
      ∙ both_ways (is_opening x) (is_closing x) w d ∙ ap (λ k. cond w (depth_by k x) k) (same_count n i (omega (arith, h)))

  along_open : (n i : ℕ) → i ≤ 64 → StaysOpen o s n i → (j : ℕ) → j ≤ i → 0 < open_along t at m n j
  along_open n i h p j l = subst (λ k. 0 < k) (same_count n j (omega (arith, h, l))) (p j l)

  pub passes_block : (n : ℕ) → StaysOpen o s n 64 → skip n (lex m (drop at t)) ≡ skip (open_by o s n 64) (lex (mode_along t at m 64) (drop (at + 64) t))
  passes_block n p =
      along_skips t at m n 64 room (along_open n 64 (omega arith) p) ∙ ap (λ d. skip d (lex (mode_along t at m 64) (drop (at + 64) t))) (sym (same_count n 64 (omega arith)))

  pub most_block : (n most : ℕ) → o < 2 ^ 64 → n + ones o ≤ most
      → max most (most_open n (lex m (drop at t))) ≡ max most (most_open (open_by o s n 64) (lex (mode_along t at m 64) (drop (at + 64) t)))
  most_block n most ho h =
      along_most t at m n most 64 room
      (λ j le.
      let a = same_count n j le in
      let b = count_most o s n j in
      let c = below_within o j 64 le in
      let d = ones_below 64 o ho in
      omega (arith, a, b, c, d, h))
      ∙ ap (λ k. max most (most_open k (lex (mode_along t at m 64) (drop (at + 64) t)))) (sym (same_count n 64 (omega arith)))

  pub total : (n : ℕ) → o < 2 ^ 64 → s < 2 ^ 64 → StaysOpen o s n 64 → open_by o s n 64 + ones s ≡ n + ones o
  total n ho hs p =
      let e = counted o s n 64 (omega arith) p (λ j h. ap₂ (λ a b. a && b) (f.opening j h) (f.closing j h) ∙ never_both _ _ _ (opening_alone (get_or t (at + j) 0))) in
      let a = ones_below 64 o ho in
      let b = ones_below 64 s hs in
      omega (arith, e, a, b)

  pub closes_block : (n i : ℕ) → i < 64 → StaysOpen o s n i → open_by o s n (suc i) ≡ 0 → Closed t at m n i
  unfolding open_along mode_along
  closes_block n i h p e =
      let x = get_or t (at + i) 0 in
      let z : open_along t at m n (suc i) ≡ 0 = sym (same_count n (suc i) (omega (arith, h))) ∙ e in
      let c = closes_by (is_outside (mode_along t at m i)) (is_opening x) (is_closing x) (open_along t at m n i) (along_open n i (omega (arith, h)) p i (omega arith)) z in
      let between_then : mode_along t at m (suc i) ≡ between = outside_next (mode_along t at m i) (class x) c.0 (operator_class x (closing_operator x c.1)) in
      let there : at + i + 1 ≡ at + suc i = omega arith in
      let more : i + 1 ≡ suc i = omega arith in
      record {
        left = ap (left_at t) there ∙ sym (ap (λ k. lex k (drop (at + suc i) t)) between_then) ∙ sym (along_closes t at m n i (omega (arith, h, room)) (along_open n i (omega (arith, h)) p) z);
        closing = c.1;
        mode = ap (mode_along t at m) more ∙ between_then;
      }

-- ---- the inside of an object or array

pub closing_depth : (x : ℕ) → is_closing x ≡ true → depth_by 1 x ≡ 0
closing_depth x h = by_byte (or_cases (x == 125) (x == 93) h)
  where
    by_byte : ((x == 125) ≡ true) ⊎ ((x == 93) ≡ true) → depth_by 1 x ≡ 0
    by_byte (inl e) = ap (depth_by 1) (eqb-true x 125 e)
    by_byte (inr e) = ap (depth_by 1) (eqb-true x 93 e)

pub opening_depth : (x : ℕ) → is_opening x ≡ true → depth_by 0 x ≡ 1
opening_depth x h = ap (λ b. cond b 1 (cond (is_closing x) 0 0)) h

pub other_depth : (x : ℕ) → is_opening x ≡ false → depth_by 0 x ≡ 0
other_depth x h = ap (λ b. cond b 1 (cond (is_closing x) (one_less 0) 0)) h ∙ none (is_closing x)
  where
    none : (b : Bool) → cond b (one_less 0) 0 ≡ one_less 0
    none true = refl
    none false = refl

operator_ends : (x : ℕ) → is_operator x ≡ true → is_of_word x ≡ false
operator_ends = each_operator (λ x. is_of_word x ≡ false) refl refl refl refl refl refl

module _ (t : List ℕ) (from k : ℕ) (le : from ≤ k) (ends : is_operator (get_or t (from - 1) 0) ≡ true) where
  -- the byte before tells whether a word goes on, since none does at the beginning
  word_before : is_of_word (get_or t (k - 1) 0) ≡ goes_on t from k
  word_before = by_place (cases_lt from k)
    where
      by_place : (from < k) ⊎ (k ≤ from) → is_of_word (get_or t (k - 1) 0) ≡ goes_on t from k
      by_place (inl l) = ap (λ b. b && is_of_word (get_or t (k - 1) 0)) (sym (lt-ltb from k l))
      by_place (inr m) =
          let same : k ≡ from = omega (arith, le, m) in
          ap (λ j. is_of_word (get_or t (j - 1) 0)) same ∙ operator_ends (get_or t (from - 1) 0) ends ∙ sym (ap (λ b. b && is_of_word (get_or t (k - 1) 0)) (le-ltb from k m))

  pub carried_run : carried t k false false ≡ run_mode t from k
  carried_run = ap mode_of word_before

  pub carried_here : mode_at t from ≡ between → (k ≡ from) ⊎ (mode_at t k ≡ run_mode t from k) → mode_at t k ≡ carried t k false false
  carried_here e (inr m) = m ∙ sym carried_run
  carried_here e (inl same) = ap (mode_at t) same ∙ e ∙ sym (ap (λ j. mode_of (is_of_word (get_or t (j - 1) 0))) same ∙ ap mode_of (operator_ends (get_or t (from - 1) 0) ends))

-- ---- blocks that a string holds

string_mark_free : (x : ℕ) → is_string_mark x ≡ false → (x ≢ 34) × (x ≢ 92)
string_mark_free x h = let p = or_parts (x == 34) (x == 92) h in (λ e. true≢false (sym (ap (λ y. y == 34) e) ∙ p.0), λ e. true≢false (sym (ap (λ y. y == 92) e) ∙ p.1))

pub unmarked_load : (t : List ℕ) (i a b : ℕ) → ((j : ℕ) → j < 64 → test a j ≡ (get_or (chunk i 64 t) j 0 == 34)) → ((j : ℕ) → j < 64 → test b j ≡ (get_or (chunk i 64 t) j 0 == 92)) → bit_or a b ≡ 0 → IsFree is_string_mark t i (i + 64)
unmarked_load t i a b ha hb none k le lt =
    let j = k - i in
    let h : j < 64 = omega (arith, le, lt) in
    let there : i + j ≡ k = omega (arith, le) in
    let n = neither a b j none in
    let x = ap (λ m. get_or t m 0) (sym there) ∙ sym (get_or-chunk i 64 t j 0 h) in
    ap is_string_mark x ∙ ap₂ (λ v w. v || w) (sym (ha j h) ∙ n.0) (sym (hb j h) ∙ n.1)

-- in a string the mode stays
abbrev KeepsString : List ℕ → ℕ → ℕ → Type 0
KeepsString t at k = (lex in_string (drop k t) ≡ lex in_string (drop at t)) × (mode_at t at ≡ in_string → mode_at t k ≡ in_string)

pub string_kept : (t : List ℕ) (at k : ℕ) → at ≤ k → k ≤ length t → IsFree is_string_mark t at k → KeepsString t at k
string_kept t at k le h free =
    free_along (KeepsString t at) is_string_mark t at (k - at) k (omega (arith, le)) h
    (λ j l lt f r.
    let q = string_mark_free (get_or t j 0) f in
    (sym (string_passes t j lt q.0 q.1) ∙ r.0, λ m. string_mode t j lt q.0 q.1 (r.1 m)))
    free (refl, λ m. m)

pub carried_string : (t : List ℕ) (k : ℕ) {s e : Bool} → s ≡ true → e ≡ false → carried t k s e ≡ in_string
carried_string t k p q = ap₂ (λ a b. mode_by a b (is_of_word (get_or t (k - 1) 0))) p q

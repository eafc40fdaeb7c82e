-- Masks of a block against its bytes, one by one.
use Rattle.std.proofs.Common.{◌≡◌, ◌≢◌, ◌⊎◌, ℕ, zero, suc, ◌+◌, ◌-◌, ◌*◌, ◌%◌, ◌^◌, ◌<◌, ◌≤◌, Bool, true, false, not, cond, ◌&&◌, ◌||◌, ◌==◌, List, get_or, inl, inr, refl, sym, ap, ap₂, ◌∙◌, subst, arith, add-zero, add-one, mod-lt, pow_pos}
use Rattle.std.proofs.lemmas.Bool.{false≢true, true≢false, cases_lt, eqb-true, or_cases, or_parts, not-true}
use lib.Bits.{bit_and, bit_or, bit_xor, or_lt, xor_lt}
use mir.Val.{bool_byte}
use Rattle.json.specs.Word.{is_operator, is_space}
use Rattle.json.specs.Lex.{Class, quote, backslash, operator, space, other, class}
use Rattle.json.specs.Scan.{test, xor, escaped_in, parity}
use Rattle.json_lexemes.proofs.Bits.{and_true, and_false, or_false, xor_false, test_and, test_or, test_xor, flipped, test_not, test_zero, shifted, shifted_one, shifted_low, flag_lt, flag_first, flag_next, test_above, flipped_lt, IsLowest, moved, not_moved, not_moved_low, low_bits, one_bits, two_bits, three_bits}
use Rattle.json_lexemes.specs.Lexing.{next_mode}
use Rattle.json_lexemes.specs.Skipped.{one_less}
use Rattle.json_lexemes.specs.Runs.{of_word, is_of_word}
use Rattle.json_lexemes.specs.Blocks.{is_opening, is_closing, is_outside, mode_along, mode_by, carried, HasBrackets, open_by, StaysOpen}
use Rattle.json_lexemes.proofs.Steps.{space_class}

-- ---- bits

-- no bit of these stays behind another
abbrev pub behind : ℕ → Bool → ℕ
behind others first = bit_or (shifted 1 others) (bool_byte first)

behind_lt : (others : ℕ) (first : Bool) → behind others first < 2 ^ 64
behind_lt others first = or_lt 64 (shifted 1 others) (bool_byte first) (mod-lt (others * 2) (pow_pos 64)) (flag_lt first)

pub not_behind_first : (bits others : ℕ) (first : Bool) → test (bit_and bits (flipped (behind others first))) 0 ≡ (test bits 0 && not first)
not_behind_first bits others first =
    test_and bits _ 0
    ∙ ap (λ b. test bits 0 && b)
    (test_not (behind others first) 0 (behind_lt others first) (omega arith)
    ∙ ap not (test_or (shifted 1 others) _ 0 ∙ ap₂ (λ x y. x || y) (shifted_low 1 0 others (omega arith) (omega arith)) (flag_first first)))

pub not_behind_next : (bits others : ℕ) (first : Bool) (i : ℕ) → suc i < 64 → test (bit_and bits (flipped (behind others first))) (suc i) ≡ (test bits (suc i) && not (test others i))
not_behind_next bits others first i h =
    test_and bits _ (suc i)
    ∙ ap (λ b. test bits (suc i) && b)
    (test_not (behind others first) (suc i) (behind_lt others first) h
    ∙ ap not (test_or (shifted 1 others) _ (suc i) ∙ ap₂ (λ x y. x || y) (shifted_one i others h) (flag_next first i) ∙ or_false (test others i)))

-- ---- bytes that no word goes on behind

opening_ends : (x : ℕ) → is_opening x ≡ true → is_of_word x ≡ false
opening_ends x h = by_byte (or_cases (x == 123) (x == 91) h)
  where
    by_byte : ((x == 123) ≡ true) ⊎ ((x == 91) ≡ true) → is_of_word x ≡ false
    by_byte (inl e) = ap is_of_word (eqb-true x 123 e)
    by_byte (inr e) = ap is_of_word (eqb-true x 91 e)

comma_ends : (x : ℕ) → ((x == 44) || (x == 58)) ≡ true → is_of_word x ≡ false
comma_ends x h = by_byte (or_cases (x == 44) (x == 58) h)
  where
    by_byte : ((x == 44) ≡ true) ⊎ ((x == 58) ≡ true) → is_of_word x ≡ false
    by_byte (inl e) = ap is_of_word (eqb-true x 44 e)
    by_byte (inr e) = ap is_of_word (eqb-true x 58 e)

space_ends : (x : ℕ) → is_space x ≡ true → is_of_word x ≡ false
space_ends x h = ap of_word (space_class x h)

-- one of three is behind what is no part of a word
pub ends_behind : (x : ℕ) (b o c s : Bool) → b ≡ true → o ≡ is_opening x → c ≡ ((x == 44) || (x == 58)) → s ≡ is_space x → ((b && not (o || c)) && not s) ≡ false → is_of_word x ≡ false
ends_behind x true true c s p o k l h = opening_ends x (sym o)
ends_behind x true false true s p o k l h = comma_ends x (sym k)
ends_behind x true false false true p o k l h = space_ends x (sym l)
ends_behind x true false false false p o k l h = absurd (true≢false h)
ends_behind x false o c s p q k l h = absurd (false≢true p)

pub first_behind : (b f : Bool) → b ≡ true → (b && not f) ≡ false → f ≡ true
first_behind true true p h = refl
first_behind true false p h = absurd (true≢false h)
first_behind false f p h = absurd (false≢true p)

-- ---- one byte more

abbrev is_quote_class : Class → Bool
is_quote_class quote = true
is_quote_class backslash = false
is_quote_class operator = false
is_quote_class space = false
is_quote_class other = false

abbrev is_backslash_class : Class → Bool
is_backslash_class quote = false
is_backslash_class backslash = true
is_backslash_class operator = false
is_backslash_class space = false
is_backslash_class other = false

quote_sorted : (q b o s : Bool) → is_quote_class (cond q quote (cond b backslash (cond o operator (cond s space other)))) ≡ q
quote_sorted true b o s = refl
quote_sorted false true o s = refl
quote_sorted false false true s = refl
quote_sorted false false false true = refl
quote_sorted false false false false = refl

backslash_sorted : (q b o s : Bool) → (q ≡ true → b ≡ false) → is_backslash_class (cond q quote (cond b backslash (cond o operator (cond s space other)))) ≡ b
backslash_sorted true b o s h = sym (h refl)
backslash_sorted false true o s h = refl
backslash_sorted false false true s h = refl
backslash_sorted false false false true h = refl
backslash_sorted false false false false h = refl

class_quote : (x : ℕ) → is_quote_class (class x) ≡ (x == 34)
class_quote x = quote_sorted (x == 34) (x == 92) (is_operator x) (is_space x)

class_backslash : (x : ℕ) → is_backslash_class (class x) ≡ (x == 92)
class_backslash x = backslash_sorted (x == 34) (x == 92) (is_operator x) (is_space x) (λ e. ap (λ y. y == 92) (eqb-true x 34 e))

-- a byte of class c, where s says that a string is open, e that it is escaped, w that a word goes on
next_by : (s e w : Bool) (c : Class) → (e ≡ true → s ≡ true) → (is_backslash_class c ≡ true → s ≡ true) → ((is_quote_class c && not e) ≡ true → s ≡ false → w ≡ false)
    → (next_mode (mode_by s e w) c ≡ mode_by (xor s (is_quote_class c && not e)) (is_backslash_class c && not e) (of_word c))
    × ((is_backslash_class c && not e) ≡ true → xor s (is_quote_class c && not e) ≡ true)
next_by true true w quote h b q = (refl, λ i. absurd (false≢true i))
next_by true true w backslash h b q = (refl, λ i. absurd (false≢true i))
next_by true true w operator h b q = (refl, λ i. absurd (false≢true i))
next_by true true w space h b q = (refl, λ i. absurd (false≢true i))
next_by true true w other h b q = (refl, λ i. absurd (false≢true i))
next_by true false w quote h b q = (refl, λ i. absurd (false≢true i))
next_by true false w backslash h b q = (refl, λ i. refl)
next_by true false w operator h b q = (refl, λ i. absurd (false≢true i))
next_by true false w space h b q = (refl, λ i. absurd (false≢true i))
next_by true false w other h b q = (refl, λ i. absurd (false≢true i))
next_by false true w c h b q = absurd (false≢true (h refl))
next_by false false true quote h b q = absurd (true≢false (q refl refl))
next_by false false false quote h b q = (refl, λ i. absurd (false≢true i))
next_by false false w backslash h b q = absurd (false≢true (b refl))
next_by false false true operator h b q = (refl, λ i. absurd (false≢true i))
next_by false false false operator h b q = (refl, λ i. absurd (false≢true i))
next_by false false true space h b q = (refl, λ i. absurd (false≢true i))
next_by false false false space h b q = (refl, λ i. absurd (false≢true i))
next_by false false true other h b q = (refl, λ i. absurd (false≢true i))
next_by false false false other h b q = (refl, λ i. absurd (false≢true i))

swap : (p q c : Bool) → xor (xor p q) c ≡ xor (xor p c) q
swap true true true = refl
swap true true false = refl
swap true false true = refl
swap true false false = refl
swap false true true = refl
swap false true false = refl
swap false false true = refl
swap false false false = refl

outside_by : (s e w : Bool) → is_outside (mode_by s e w) ≡ not s
outside_by true true w = refl
outside_by true false w = refl
outside_by false e true = refl
outside_by false e false = refl

no_quote : (x : ℕ) (b : Bool) → (is_opening x ≡ true) ⊎ (is_closing x ≡ true) → ((x == 34) && b) ≡ false
no_quote x b (inl h) = by_byte (or_cases (x == 123) (x == 91) h)
  where
    by_byte : ((x == 123) ≡ true) ⊎ ((x == 91) ≡ true) → ((x == 34) && b) ≡ false
    by_byte (inl e) = ap (λ y. (y == 34) && b) (eqb-true x 123 e)
    by_byte (inr e) = ap (λ y. (y == 34) && b) (eqb-true x 91 e)
no_quote x b (inr h) = by_byte (or_cases (x == 125) (x == 93) h)
  where
    by_byte : ((x == 125) ≡ true) ⊎ ((x == 93) ≡ true) → ((x == 34) && b) ≡ false
    by_byte (inl e) = ap (λ y. (y == 34) && b) (eqb-true x 125 e)
    by_byte (inr e) = ap (λ y. (y == 34) && b) (eqb-true x 93 e)

-- all bits as this one
abbrev pub spread : Bool → ℕ
spread c = (0 + (2 ^ 64 - bool_byte c)) % 2 ^ 64

test_spread : (c : Bool) (i : ℕ) → i < 64 → test (spread c) i ≡ c
test_spread true i h = test_not 0 i (omega arith) h ∙ ap not (test_zero i)
test_spread false i h = test_zero i

pub strings_are : (q p : ℕ) (s : Bool) → ((i : ℕ) → i < 64 → test p i ≡ parity q (i + 1)) → (i : ℕ) → i < 64 → test (bit_xor p (spread s)) i ≡ xor (parity q (suc i)) s
strings_are q p s h i lt = test_xor p (spread s) i ∙ ap₂ xor (h i lt ∙ ap (parity q) (add-one i)) (test_spread s i lt)

pub strings_lt : (p : ℕ) (s : Bool) → p < 2 ^ 64 → bit_xor p (spread s) < 2 ^ 64
strings_lt p s h = xor_lt 64 p (spread s) h (mod-lt _ (pow_pos 64))

pub neither : (a b i : ℕ) → bit_or a b ≡ 0 → (test a i ≡ false) × (test b i ≡ false)
neither a b i e = or_parts (test a i) (test b i) (sym (test_or a b i) ∙ ap (λ n. test n i) e ∙ test_zero i)

-- ---- the bytes of a block

module _ (t : List ℕ) (at : ℕ) (s e : Bool) (b q : ℕ) where
  abbrev pub byte : ℕ → ℕ
  byte i = get_or t (at + i) 0

  -- a string is open i bytes behind `at`, and the next byte is escaped
  abbrev pub open_at : ℕ → Bool
  open_at i = xor (parity q i) s

  abbrev pub escaped_at : ℕ → Bool
  escaped_at i = escaped_in e b i

  -- b holds the backslashes, q the quotes that aren't escaped, and no backslash stands outside of strings, nor a quote right behind a word
  pub record Fair : Type 0 where
    pub order : 0 < at
    pub before : e ≡ true → s ≡ true
    pub backslashes : (i : ℕ) → i < 64 → test b i ≡ (byte i == 92)
    pub quotes : (i : ℕ) → i < 64 → test q i ≡ ((byte i == 34) && not (escaped_at i))
    pub inside : (i : ℕ) → i < 64 → test b i ≡ true → open_at i ≡ true
    pub apart : (i : ℕ) → i < 64 → test q i ≡ true → open_at i ≡ false → is_of_word (get_or t (at + i - 1) 0) ≡ false

  pub along : Fair → (i : ℕ) → i ≤ 64 → (mode_along t at (carried t at s e) i ≡ carried t (at + i) (open_at i) (escaped_at i)) × (escaped_at i ≡ true → open_at i ≡ true)
  unfolding mode_along parity escaped_in
  along f zero h = (ap (λ k. carried t k s e) (sym (add-zero at)), f.before)
  along f (suc i) h =
      let x = byte i in
      let ih = along f i (omega arith) in
      let same : at + suc i - 1 ≡ at + i = omega arith in
      let kb = f.backslashes i (omega arith) in
      let kq = f.quotes i (omega arith) in
      let cq : (is_quote_class (class x) && not (escaped_at i)) ≡ test q i = ap (λ v. v && not (escaped_at i)) (class_quote x) ∙ sym kq in
      let cb : is_backslash_class (class x) ≡ test b i = class_backslash x ∙ sym kb in
      let step = next_by (open_at i) (escaped_at i) (is_of_word (get_or t (at + i - 1) 0)) (class x) ih.1 (λ p. f.inside i (omega arith) (sym cb ∙ p)) (λ p o. f.apart i (omega arith) (sym cq ∙ p) o) in
      let ds : xor (open_at i) (is_quote_class (class x) && not (escaped_at i)) ≡ open_at (suc i) = ap (xor (open_at i)) cq ∙ sym (swap (parity q i) (test q i) s) in
      let de : (is_backslash_class (class x) && not (escaped_at i)) ≡ escaped_at (suc i) = ap (λ v. v && not (escaped_at i)) cb in (
        ap (λ m. next_mode m (class x)) ih.0 ∙ step.0 ∙ (λ j. mode_by (ds j) (de j) (is_of_word (get_or t (sym same j) 0))),
        λ p. sym ds ∙ step.1 (de ∙ p),
      )

  pub outside_at : Fair → (i : ℕ) → i ≤ 64 → is_outside (mode_along t at (carried t at s e) i) ≡ not (open_at i)
  outside_at f i h = ap is_outside (along f i h).0 ∙ outside_by (open_at i) (escaped_at i) _

  -- a bracket leaves strings as they are
  same_there : Fair → (i : ℕ) → i < 64 → (is_opening (byte i) ≡ true) ⊎ (is_closing (byte i) ≡ true) → open_at (suc i) ≡ open_at i
  unfolding parity
  same_there f i h k = swap (parity q i) (test q i) s ∙ ap (xor (open_at i)) (f.quotes i h ∙ no_quote (byte i) _ k) ∙ xor_false (open_at i)

  -- as the masks have them
  masked : (x a b : Bool) → (x ≡ true → a ≡ b) → (x && a) ≡ (x && b)
  masked true a b h = h refl
  masked false a b h = refl

  pub has_brackets : Fair → (r o k : ℕ) → r < 2 ^ 64 → ((i : ℕ) → i < 64 → test r i ≡ open_at (suc i)) → ((i : ℕ) → i < 64 → test o i ≡ is_opening (byte i)) → ((i : ℕ) → i < 64 → test k i ≡ is_closing (byte i))
      → HasBrackets t at (carried t at s e) (bit_and o (flipped r)) (bit_and k (flipped r))
  has_brackets f r o k small hr ho hk = record {
    opening = λ i h.
        test_and o (flipped r) i ∙ ap₂ (λ v w. v && w) (ho i h) (test_not r i small h ∙ ap not (hr i h))
        ∙ masked (is_opening (byte i)) _ _ (λ p. ap not (same_there f i h (inl p)) ∙ sym (outside_at f i (omega arith)));
    closing = λ i h.
        test_and k (flipped r) i ∙ ap₂ (λ v w. v && w) (hk i h) (test_not r i small h ∙ ap not (hr i h))
        ∙ masked (is_closing (byte i)) _ _ (λ p. ap not (same_there f i h (inr p)) ∙ sym (outside_at f i (omega arith)));
  }

  -- where neither stands
  pub quiet : ((i : ℕ) → i < 64 → test q i ≡ false) → (i : ℕ) → i ≤ 64 → open_at i ≡ s
  unfolding parity
  quiet none zero h = refl
  quiet none (suc i) h = swap (parity q i) (test q i) s ∙ ap (xor (open_at i)) (none i (omega arith)) ∙ xor_false (open_at i) ∙ quiet none i (omega arith)

  pub quiet_escaped : test b 63 ≡ false → escaped_at 64 ≡ false
  unfolding escaped_in
  quiet_escaped none = ap (λ v. v && not (escaped_at 63)) none

  -- a backslash that no string holds, and a quote that opens one, show in the masks of what is behind each byte
  pub inside_from : (r : ℕ) → r < 2 ^ 64 → ((i : ℕ) → i < 64 → test r i ≡ open_at (suc i)) → ((i : ℕ) → i < 64 → test b i ≡ (byte i == 92)) → ((i : ℕ) → i < 64 → test q i ≡ ((byte i == 34) && not (escaped_at i)))
      → bit_and b (flipped r) ≡ 0 → (i : ℕ) → i < 64 → test b i ≡ true → open_at i ≡ true
  unfolding parity
  inside_from r small hr hb hq none i h p =
      let x : byte i ≡ 92 = eqb-true (byte i) 92 (sym (hb i h) ∙ p) in
      let no : test q i ≡ false = hq i h ∙ ap (λ y. (y == 34) && not (escaped_at i)) x in
      let held : test r i ≡ true = held_by (test r i) (ap (λ v. v && not (test r i)) (sym p) ∙ sym (test_and b (flipped r) i ∙ ap (λ v. test b i && v) (test_not r i small h)) ∙ ap (λ y. test y i) none ∙ test_zero i) in
      sym (swap (parity q i) (test q i) s ∙ ap (xor (open_at i)) no ∙ xor_false (open_at i)) ∙ sym (hr i h) ∙ held
    where
      held_by : (v : Bool) → (true && not v) ≡ false → v ≡ true
      held_by true w = refl
      held_by false w = absurd (true≢false w)

  pub begins_from : (r : ℕ) → ((i : ℕ) → i < 64 → test r i ≡ open_at (suc i)) → (i : ℕ) → i < 64 → test q i ≡ true → open_at i ≡ false → test (bit_and q r) i ≡ true
  unfolding parity
  begins_from r hr i h p o = test_and q r i ∙ ap₂ (λ v w. v && w) p (hr i h ∙ swap (parity q i) (test q i) s ∙ ap₂ xor o p)

-- at the first byte by what stands before the block, at the others by the block
pub not_before : (t : List ℕ) (at i : ℕ) → i < 64 → (x : ℕ) → test x i ≡ true → (test x 0 ≡ true → not (is_of_word (get_or t (at - 1) 0)) ≡ true) → ((j : ℕ) → suc j < 64 → test x (suc j) ≡ true → is_of_word (get_or t (at + j) 0) ≡ false)
    → is_of_word (get_or t (at + i - 1) 0) ≡ false
not_before t at zero h x p first behind = let same : at + 0 - 1 ≡ at - 1 = omega arith in ap (λ k. is_of_word (get_or t k 0)) same ∙ not-true _ (first p)
not_before t at (suc j) h x p first behind = let same : at + suc j - 1 ≡ at + j = omega arith in ap (λ k. is_of_word (get_or t k 0)) same ∙ behind j h p

-- ---- bytes that a backslash escapes

-- of those up to k all are found in e, and its own isn't escaped; x holds the backslashes from k on
pub record EscapesTo (c : Bool) (b e x k : ℕ) : Type 0 where
  pub free : escaped_in c b k ≡ false
  pub found : (i : ℕ) → i < 64 → i < k → test e i ≡ escaped_in c b i
  pub later : (i : ℕ) → i < 64 → k ≤ i → test e i ≡ false
  pub passed : (i : ℕ) → i < k → test x i ≡ false
  pub ahead : (i : ℕ) → i < 64 → k ≤ i → test x i ≡ test b i

-- where the first byte is escaped, the search begins behind it
pub escapes_begin : (c : Bool) (b : ℕ) → EscapesTo c b (bool_byte c) (bit_and b (flipped (bool_byte c))) (cond c 1 0)
unfolding escaped_in
escapes_begin true b = record {
  free = and_false (test b 0);
  found = λ i h l. let e : i ≡ 0 = omega arith in ap (test 1) e ∙ low_bits.0 ∙ sym (ap (escaped_in true b) e);
  later = λ i h l. let e : i ≡ suc (i - 1) = omega arith in ap (test 1) e ∙ one_bits (i - 1);
  passed = λ i l. let e : i ≡ 0 = omega arith in ap (test (bit_and b (flipped 1))) e ∙ test_and b (flipped 1) 0 ∙ ap (λ v. test b 0 && v) (test_not 1 0 (omega arith) (omega arith) ∙ ap not low_bits.0) ∙ and_false (test b 0);
  ahead = λ i h l.
      let e : i ≡ suc (i - 1) = omega arith in
      test_and b (flipped 1) i ∙ ap (λ v. test b i && v) (test_not 1 i (omega arith) h ∙ ap not (ap (test 1) e ∙ one_bits (i - 1))) ∙ and_true (test b i);
}
escapes_begin false b = record {
  free = refl;
  found = λ i h l. absurd (omega (arith, l));
  later = λ i h l. test_zero i;
  passed = λ i l. absurd (omega (arith, l));
  ahead = λ i h l. test_and b (flipped 0) i ∙ ap (λ v. test b i && v) (test_not 0 i (omega arith) h ∙ ap not (test_zero i)) ∙ and_true (test b i);
}

module _ (c : Bool) (b e x k : ℕ) (s : EscapesTo c b e x k) where
  -- where no backslash stands from k to i
  unescaped_to : (i j : ℕ) → ((m : ℕ) → k ≤ m → m < i → test b m ≡ false) → k ≤ j → j ≤ i → escaped_in c b j ≡ false
  unfolding escaped_in
  unescaped_to i zero free l m = let z : k ≡ 0 = omega arith in ap (escaped_in c b) (sym z) ∙ s.free
  unescaped_to i (suc j) free l m = by_place (cases_lt k (suc j))
    where
      by_place : (k < suc j) ⊎ (suc j ≤ k) → escaped_in c b (suc j) ≡ false
      by_place (inl h) = ap (λ v. v && not (escaped_in c b j)) (free j (omega arith) (omega arith))
      by_place (inr h) = let z : suc j ≡ k = omega arith in ap (escaped_in c b) z ∙ s.free

  pub escapes_end : x ≡ 0 → (i : ℕ) → i < 64 → test e i ≡ escaped_in c b i
  escapes_end z i h = by_place (cases_lt i k)
    where
      by_place : (i < k) ⊎ (k ≤ i) → test e i ≡ escaped_in c b i
      by_place (inl l) = s.found i h l
      by_place (inr m) = s.later i h m ∙ sym (unescaped_to i i (λ j l lt. sym (s.ahead j (omega (arith, lt, h)) l) ∙ ap (λ y. test y j) z ∙ test_zero j) m (omega arith))

  module _ (i : ℕ) (low : IsLowest x i) where
    behind_k : k ≤ i
    behind_k = by_place (cases_lt i k)
      where
        by_place : (i < k) ⊎ (k ≤ i) → k ≤ i
        by_place (inl l) = absurd (true≢false (sym low.here ∙ s.passed i l))
        by_place (inr m) = m

    no_backslash : (j : ℕ) → k ≤ j → j < i → test b j ≡ false
    no_backslash j l lt = sym (s.ahead j (omega (arith, low.within)) l) ∙ low.below j lt

    unescaped_here : escaped_in c b i ≡ false
    unescaped_here = unescaped_to i i no_backslash behind_k (omega arith)

    escaped_next : escaped_in c b (suc i) ≡ true
    unfolding escaped_in
    escaped_next = ap₂ (λ v w. v && not w) (sym (s.ahead i low.within behind_k) ∙ low.here) unescaped_here

    abbrev more : ℕ
    more = bit_or e (shifted i 2)

    abbrev rest : ℕ
    rest = bit_and x (flipped (shifted i 3))

    found_on : (j : ℕ) → j < 64 → j < i + 2 → test more j ≡ escaped_in c b j
    found_on j h l = test_or e (shifted i 2) j ∙ by_place (cases_lt j i) (cases_lt i j)
      where
        before : (j < k) ⊎ (k ≤ j) → j < i → test e j ≡ escaped_in c b j
        before (inl a) lt = s.found j h a
        before (inr a) lt = s.later j h a ∙ sym (unescaped_to i j no_backslash a (omega (arith, lt)))

        by_place : (j < i) ⊎ (i ≤ j) → (i < j) ⊎ (j ≤ i) → (test e j || test (shifted i 2) j) ≡ escaped_in c b j
        by_place (inl a) o = ap (λ v. test e j || v) (shifted_low i j 2 a h) ∙ or_false (test e j) ∙ before (cases_lt j k) a
        by_place (inr a) (inr z) =
            let same : j ≡ i = omega arith in
            ap₂ (λ v w. v || w) (s.later j h (omega (arith, behind_k, a))) (moved i 0 j 2 (omega arith) h ∙ low_bits.1) ∙ sym unescaped_here ∙ ap (escaped_in c b) (sym same)
        by_place (inr a) (inl z) =
            let next : j ≡ suc i = omega (arith, l, z) in
            ap₂ (λ v w. v || w) (s.later j h (omega (arith, behind_k, a))) (moved i 1 j 2 (omega (arith, next)) h ∙ low_bits.2) ∙ sym escaped_next ∙ ap (escaped_in c b) (sym next)

    passed_on : (j : ℕ) → j < i + 2 → test rest j ≡ false
    passed_on j l = by_size (cases_lt j 64)
      where
        by_place : j < 64 → (j < i) ⊎ (i ≤ j) → (i < j) ⊎ (j ≤ i) → test rest j ≡ false
        by_place h (inl a) o = not_moved_low x i j 3 a h ∙ low.below j a
        by_place h (inr a) (inr z) = not_moved x i 0 j 3 (omega arith) h ∙ ap (λ v. test x j && not v) low_bits.3 ∙ and_false (test x j)
        by_place h (inr a) (inl z) = not_moved x i 1 j 3 (omega (arith, l, z)) h ∙ ap (λ v. test x j && not v) low_bits.4 ∙ and_false (test x j)

        by_size : (j < 64) ⊎ (64 ≤ j) → test rest j ≡ false
        by_size (inl h) = by_place h (cases_lt j i) (cases_lt i j)
        by_size (inr m) = test_and x (flipped (shifted i 3)) j ∙ ap (λ v. test x j && v) (test_above (flipped (shifted i 3)) j (flipped_lt (shifted i 3)) m) ∙ and_false (test x j)

    pub escapes_on : EscapesTo c b more rest (i + 2)
    unfolding escaped_in
    escapes_on = record {
      free = let e : i + 2 ≡ suc (suc i) = omega arith in ap (escaped_in c b) e ∙ ap (λ v. test b (suc i) && not v) escaped_next ∙ and_false (test b (suc i));
      found = found_on;
      later = λ j h l.
          let d = j - (i + 2) in
          let there : j ≡ i + suc (suc d) = omega arith in
          test_or e (shifted i 2) j ∙ ap₂ (λ v w. v || w) (s.later j h (omega (arith, behind_k, l))) (moved i (suc (suc d)) j 2 there h ∙ two_bits d);
      passed = passed_on;
      ahead = λ j h l.
          let d = j - (i + 2) in
          let there : j ≡ i + suc (suc d) = omega arith in
          not_moved x i (suc (suc d)) j 3 there h ∙ ap (λ v. test x j && not v) (three_bits d) ∙ and_true (test x j) ∙ s.ahead j h (omega (arith, behind_k, l));
    }

-- ---- brackets, one after another

-- up to k all are counted, and x holds those from k on
pub record CountsTo (o s n count x k : ℕ) : Type 0 where
  pub within : k ≤ 64
  pub counted : count ≡ open_by o s n k
  pub bound : count ≤ n + k
  pub stays : StaysOpen o s n k
  pub passed : (i : ℕ) → i < k → test x i ≡ false
  pub ahead : (i : ℕ) → i < 64 → k ≤ i → test x i ≡ (test o i || test s i)

pub counts_begin : (o s n : ℕ) → 0 < n → CountsTo o s n n (bit_or o s) 0
unfolding open_by
counts_begin o s n p = record {
  within = omega arith;
  counted = refl;
  bound = omega arith;
  stays = λ j l. let z : j ≡ 0 = omega arith in subst (λ m. 0 < open_by o s n m) (sym z) p;
  passed = λ i l. absurd (omega (arith, l));
  ahead = λ i h l. test_or o s i;
}

flat_bit : (o s : Bool) (d : ℕ) → (o || s) ≡ false → cond o (suc d) (cond s (one_less d) d) ≡ d
flat_bit true s d h = absurd (true≢false h)
flat_bit false true d h = absurd (true≢false h)
flat_bit false false d h = refl

module _ (o s n count x k : ℕ) (c : CountsTo o s n count x k) where
  flat_to : (i j : ℕ) → ((m : ℕ) → k ≤ m → m < i → (test o m || test s m) ≡ false) → k ≤ j → j ≤ i → open_by o s n j ≡ open_by o s n k
  unfolding open_by
  flat_to i zero flat l m = let z : 0 ≡ k = omega arith in ap (open_by o s n) z
  flat_to i (suc j) flat l m = by_place (cases_lt k (suc j)) (flat_to i j flat)
    where
      by_place : (k < suc j) ⊎ (suc j ≤ k) → (k ≤ j → j ≤ i → open_by o s n j ≡ open_by o s n k) → open_by o s n (suc j) ≡ open_by o s n k
      by_place (inl h) ih = flat_bit (test o j) (test s j) (open_by o s n j) (flat j (omega arith) (omega arith)) ∙ ih (omega arith) (omega arith)
      by_place (inr h) ih = let z : suc j ≡ k = omega arith in ap (open_by o s n) z

  stays_to : (i : ℕ) → ((m : ℕ) → k ≤ m → m < i → (test o m || test s m) ≡ false) → StaysOpen o s n i
  stays_to i flat j l = by_place (cases_lt j k)
    where
      by_place : (j < k) ⊎ (k ≤ j) → 0 < open_by o s n j
      by_place (inl h) = c.stays j (omega arith)
      by_place (inr h) = subst (λ m. 0 < m) (sym (flat_to i j flat h l)) (c.stays k (omega arith))

  pub counts_end : x ≡ 0 → StaysOpen o s n 64
  counts_end z = stays_to 64 (λ m l lt. sym (c.ahead m lt l) ∙ ap (λ y. test y m) z ∙ test_zero m)

  pub here_open : 0 < count
  here_open = subst (λ m. 0 < m) (sym c.counted) (c.stays k (omega arith))

  module _ (i : ℕ) (low : IsLowest x i) where
    pub from_k : k ≤ i
    from_k = by_place (cases_lt i k)
      where
        by_place : (i < k) ⊎ (k ≤ i) → k ≤ i
        by_place (inl l) = absurd (true≢false (sym low.here ∙ c.passed i l))
        by_place (inr m) = m

    flat_between : (m : ℕ) → k ≤ m → m < i → (test o m || test s m) ≡ false
    flat_between m l lt = sym (c.ahead m (omega (arith, low.within)) l) ∙ low.below m lt

    either_here : (test o i || test s i) ≡ true
    either_here = sym (c.ahead i low.within from_k) ∙ low.here

    same_here : open_by o s n i ≡ count
    same_here = flat_to i i flat_between from_k (omega arith) ∙ sym c.counted

    pub stays_here : StaysOpen o s n i
    stays_here = stays_to i flat_between

    -- which one it is
    opens_here : test o i ≡ true → open_by o s n (suc i) ≡ count + 1
    unfolding open_by
    opens_here t = ap (λ b. cond b (suc (open_by o s n i)) (cond (test s i) (one_less (open_by o s n i)) (open_by o s n i))) t ∙ ap suc same_here ∙ sym (add-one count)

    shuts_here : test o i ≡ false → open_by o s n (suc i) ≡ one_less count
    unfolding open_by
    shuts_here t =
        ap₂ (λ b v. cond b (suc (open_by o s n i)) (cond v (one_less (open_by o s n i)) (open_by o s n i))) t (sym (ap (λ b. b || test s i) t) ∙ either_here) ∙ ap one_less same_here

    pub last_closes : test o i ≡ false → count ≡ 1 → open_by o s n (suc i) ≡ 0
    last_closes t e = shuts_here t ∙ ap one_less e

    counts_on : (next : ℕ) → open_by o s n (suc i) ≡ next → 0 < next → next ≤ count + 1 → CountsTo o s n next (bit_and x (flipped (shifted i 1))) (suc i)
    counts_on next e p l = record {
      within = omega (arith, low.within);
      counted = sym e;
      bound = omega (arith, l, c.bound, from_k);
      stays = by_end;
      passed = passed_next;
      ahead = λ j h m.
          let d = j - suc i in
          let there : j ≡ i + suc d = omega arith in
          not_moved x i (suc d) j 1 there h ∙ ap (λ v. test x j && not v) (one_bits d) ∙ and_true (test x j) ∙ c.ahead j h (omega (arith, from_k, m));
    }
      where
        by_end : (m : ℕ) → m ≤ suc i → 0 < open_by o s n m
        by_end m l = at_end (cases_lt m (suc i))
          where
            at_end : (m < suc i) ⊎ (suc i ≤ m) → 0 < open_by o s n m
            at_end (inl h) = stays_here m (omega arith)
            at_end (inr h) = let z : suc i ≡ m = omega arith in subst (λ v. 0 < v) (sym e ∙ ap (open_by o s n) z) p

        passed_next : (j : ℕ) → j < suc i → test (bit_and x (flipped (shifted i 1))) j ≡ false
        passed_next j l = by_place (cases_lt j i)
          where
            by_place : (j < i) ⊎ (i ≤ j) → test (bit_and x (flipped (shifted i 1))) j ≡ false
            by_place (inl a) = not_moved_low x i j 1 a (omega (arith, a, low.within)) ∙ low.below j a
            by_place (inr a) = not_moved x i 0 j 1 (omega arith) (omega (arith, l, low.within)) ∙ ap (λ v. test x j && not v) low_bits.0 ∙ and_false (test x j)

    pub counts_open : (next : ℕ) → next ≡ count + 1 → test o i ≡ true → CountsTo o s n next (bit_and x (flipped (shifted i 1))) (suc i)
    counts_open next e t = counts_on next (opens_here t ∙ sym e) (omega (arith, e)) (omega (arith, e))

    pub counts_shut : (next : ℕ) → next ≡ count - 1 → test o i ≡ false → count ≢ 1 → CountsTo o s n next (bit_and x (flipped (shifted i 1))) (suc i)
    counts_shut next e t d = counts_on next (shuts_here t ∙ less count ∙ sym e) (omega (arith, e, here_open, d)) (omega (arith, e))
      where
        less : (m : ℕ) → one_less m ≡ m - 1
        less zero = refl
        less (suc m) = omega arith

-- A word is read alike, whatever follows the byte that ends it.
use Rattle.std.proofs.Common.{◌≡◌, ℕ, ◌+◌, ◌-◌, Bool, true, false, cond, ◌&&◌, ◌||◌, ◌==◌, List, [], ◌∷◌, ◌++◌, length, drop, Option, Some, None, option_and_then, inl, inr, ◌⊎◌, refl, sym, ap, ◌∙◌, subst, arith, length-append, append_assoc}
use Rattle.std.proofs.lemmas.Bool.{true≢false, ne_eqb, cases_Bool}
use Rattle.std.proofs.lemmas.List.{take-append-le, drop-append-le}
use Rattle.std.proofs.lemmas.List.Sums.{prefix_len-le-length}
use Rattle.std.specs.Prelude.{nat_eq, ⊤}
use Rattle.std.specs.List.{prefix_len, starts_with}
use Rattle.std.specs.Char.{is_ascii_digit}
use Rattle.json.specs.Token.{number, bad}
use Rattle.json.specs.Word.{is_operator, is_space, head, ends_word, after_digits, after_sign, after_whole, after_fraction, after_exponent, after_number, number_before, word}
use Rattle.json.specs.Lex.{quote, backslash, operator, space, other, in_word}
use Rattle.json_lexemes.specs.Lexing.{next_mode, after, Fits}

abbrev ender : ℕ → Bool
ender x = is_operator x || is_space x

no_digit_ends : (c : ℕ) → is_ascii_digit c ≡ true → ender c ≡ false
no_digit_ends c d = rw (no 123 refl, no 125 refl, no 91 refl, no 93 refl, no 58 refl, no 44 refl, no 32 refl, no 9 refl, no 10 refl, no 13 refl) refl
  where
    no : (k : ℕ) → is_ascii_digit k ≡ false → (c == k) ≡ false
    no k f = ne_eqb c k (λ same. true≢false (sym d ∙ ap is_ascii_digit same ∙ f))

module _ (rest : List ℕ) (ended : ends_word rest ≡ true) where
  -- o is what a part leaves of t, and p what it leaves of t with the rest
  abbrev Extends : Option (List ℕ) → Option (List ℕ) → Type 0
  Extends None p = p ≡ None
  Extends (Some r) p = p ≡ Some (r ++ rest)

  -- ---- the first byte

  -- a test that no byte that ends a word passes
  abbrev IsInner : (ℕ → Bool) → Type 0
  IsInner test = (c : ℕ) → ender c ≡ true → test c ≡ false

  first_alike : (test : ℕ → Bool) → IsInner test → (t : List ℕ) → test (head (t ++ rest)) ≡ test (head t)
  first_alike test h [] = h (head rest) ended ∙ sym (h 32 refl)
  first_alike test h (x ∷ t) = refl

  -- a byte that passes stands in the text itself
  first_taken : (test : ℕ → Bool) → IsInner test → (t : List ℕ) → test (head t) ≡ true → drop 1 (t ++ rest) ≡ drop 1 t ++ rest
  first_taken test h [] y = absurd (true≢false (sym y ∙ h 32 refl))
  first_taken test h (x ∷ t) y = refl

  byte_inner : (b : ℕ) → ender b ≡ false → IsInner (λ c. c == b)
  byte_inner b f c e = ne_eqb c b (λ same. true≢false (sym e ∙ ap ender same ∙ f))

  bytes_inner : (b d : ℕ) → ender b ≡ false → ender d ≡ false → IsInner (λ c. (c == b) || (c == d))
  bytes_inner b d f g c e = rw (byte_inner b f c e) (byte_inner d g c e)

  digit_inner : IsInner is_ascii_digit
  digit_inner c e = by_ender (is_ascii_digit c) refl
    where
      no_ender : is_ascii_digit c ≡ true → ender c ≡ false
      no_ender d = no_digit_ends c d

      by_ender : (b : Bool) → is_ascii_digit c ≡ b → is_ascii_digit c ≡ false
      by_ender true d = absurd (true≢false (sym e ∙ no_ender d))
      by_ender false d = d

  -- ---- the parts of a number, each before rest as without it

  abbrev IsAlike : (List ℕ → Option (List ℕ)) → Type 0
  IsAlike part = (t : List ℕ) → Extends (part t) (part (t ++ rest))

  if_alike : (b : Bool) (o p o' p' : Option (List ℕ)) → (b ≡ true → Extends o p) → (b ≡ false → Extends o' p') → Extends (cond b o o') (cond b p p')
  if_alike true o p o' p' f g = f refl
  if_alike false o p o' p' f g = g refl

  -- what begins with a certain byte, and what does not
  branch : (test : ℕ → Bool) → IsInner test → (f g : List ℕ → Option (List ℕ)) → IsAlike f → IsAlike g → IsAlike (λ t. cond (test (head t)) (f (drop 1 t)) (g t))
  branch test h f g af ag t =
      rw (first_alike test h t) (if_alike (test (head t)) _ _ _ _ (λ y. rw (first_taken test h t y) (af (drop 1 t))) (λ n. ag t))

  taken : IsAlike Some
  taken t = refl

  digits_end : (t : List ℕ) → prefix_len is_ascii_digit (t ++ rest) ≡ prefix_len is_ascii_digit t
  digits_end [] = none rest ended
    where
      none : (r : List ℕ) → ends_word r ≡ true → prefix_len is_ascii_digit r ≡ 0
      none [] e = refl
      none (x ∷ r) e = rw (digit_inner x e) refl
  digits_end (x ∷ t) = ap (λ n. cond (is_ascii_digit x) (1 + n) 0) (digits_end t)

  digits_alike : IsAlike after_digits
  digits_alike t =
      let n = prefix_len is_ascii_digit t in
      rw (digits_end t) (if_alike (n == 0) None None _ _ (λ y. refl) (λ m. ap Some (drop-append-le n t rest (prefix_len-le-length is_ascii_digit t))))

  -- a sign or none, and then the part
  signed : (test : ℕ → Bool) → IsInner test → (f : List ℕ → Option (List ℕ)) → IsAlike f → IsAlike (λ t. f (cond (test (head t)) (drop 1 t) t))
  signed test h f af t = rw (first_alike test h t) (by_first (test (head t)) refl)
    where
      by_first : (b : Bool) → test (head t) ≡ b → Extends (f (cond b (drop 1 t) t)) (f (cond b (drop 1 (t ++ rest)) (t ++ rest)))
      by_first true y = rw (first_taken test h t y) (af (drop 1 t))
      by_first false n = af t

  one_more : (f : List ℕ → Option (List ℕ)) → IsAlike f → (o p : Option (List ℕ)) → Extends o p → Extends (option_and_then f o) (option_and_then f p)
  one_more f af None p e = ap (option_and_then f) e
  one_more f af (Some r) p e = rw e (af r)

  whole_alike : IsAlike after_whole
  whole_alike = branch (λ c. c == 48) (byte_inner 48 refl) Some after_digits taken digits_alike

  fraction_alike : IsAlike after_fraction
  fraction_alike = branch (λ c. c == 46) (byte_inner 46 refl) after_digits Some digits_alike taken

  exponent_alike : IsAlike after_exponent
  exponent_alike =
      branch (λ c. (c == 101) || (c == 69)) (bytes_inner 101 69 refl refl) (λ t. after_digits (after_sign t)) Some
      (signed (λ c. (c == 45) || (c == 43)) (bytes_inner 45 43 refl refl) after_digits digits_alike) taken

  whole_number : IsAlike after_number
  unfolding after_number
  whole_number t =
      one_more after_exponent exponent_alike _ _ (one_more after_fraction fraction_alike _ _ (signed (λ c. c == 45) (byte_inner 45 refl) after_whole whole_alike t))

  -- ---- what a word is

  ends-append : (q : List ℕ) → ends_word (q ++ rest) ≡ ends_word q
  ends-append [] = ended
  ends-append (x ∷ q) = refl

  number_alike : (w : List ℕ) (o p : Option (List ℕ)) → Extends o p → number_before (w ++ rest) p ≡ number_before w o
  number_alike w None p h = ap (number_before (w ++ rest)) h
  number_alike w (Some r) p h =
      let size : length (w ++ rest) - length (r ++ rest) ≡ length w - length r = omega (arith, length-append w rest, length-append r rest) in
      ap (number_before (w ++ rest)) h ∙ rw (ends-append r, size) (ap (λ s. cond (ends_word r) (number s) bad) (take-append-le (length w - length r) w rest (omega arith)))

  -- whether this name stands in front, and a word ends after it
  abbrev stands : List ℕ → List ℕ → Bool
  stands name t = starts_with nat_eq t name && ends_word (drop (length name) t)

  -- no byte of a name ends a word
  abbrev IsPlain : List ℕ → Type 0
  IsPlain [] = ⊤
  IsPlain (n ∷ ns) = (ender n ≡ false) × IsPlain ns

  assoc_and : (a b c : Bool) → ((a && b) && c) ≡ (a && (b && c))
  assoc_and true b c = refl
  assoc_and false b c = refl

  name_alike : (name w : List ℕ) → IsPlain name → stands name (w ++ rest) ≡ stands name w
  name_alike [] w h = ends-append w
  name_alike (n ∷ ns) [] h = at_rest rest ended
    where
      at_rest : (r : List ℕ) → ends_word r ≡ true → stands (n ∷ ns) r ≡ false
      at_rest [] e = refl
      at_rest (y ∷ r) e = rw (ne_eqb n y (λ s. true≢false (sym e ∙ ap ender (sym s) ∙ h.0))) refl
  name_alike (n ∷ ns) (x ∷ w) h =
      assoc_and (n == x) (starts_with nat_eq (w ++ rest) ns) _ ∙ ap (λ b. (n == x) && b) (name_alike ns w h.1) ∙ sym (assoc_and (n == x) (starts_with nat_eq w ns) _)

  word_alike : (x : ℕ) (w : List ℕ) → word ((x ∷ w) ++ rest) ≡ word (x ∷ w)
  unfolding word
  word_alike x w =
      let t = x ∷ w in
      rw (
        name_alike (116 ∷ 114 ∷ 117 ∷ 101 ∷ []) t (refl, (refl, (refl, (refl, tt)))),
        name_alike (102 ∷ 97 ∷ 108 ∷ 115 ∷ 101 ∷ []) t (refl, (refl, (refl, (refl, (refl, tt))))),
        name_alike (110 ∷ 117 ∷ 108 ∷ 108 ∷ []) t (refl, (refl, (refl, (refl, tt)))),
        number_alike t _ _ (whole_number t),
      ) refl

-- ---- where the word ends

record Cut (a r : List ℕ) : Type 0 where
  word_part : List ℕ
  left : List ℕ
  is : a ≡ word_part ++ left
  ends : ends_word left ≡ true
  ends_still : ends_word (left ++ r) ≡ true

stays : (q b o s : Bool) → (o || s) ≡ false → next_mode in_word (cond q quote (cond b backslash (cond o operator (cond s space other)))) ≡ in_word
stays true b o s h = refl
stays false true o s h = refl
stays false false true s h = absurd (true≢false h)
stays false false false true h = absurd (true≢false h)
stays false false false false h = refl

cut : (a r : List ℕ) → Fits (after in_word a) r → Cut a r
cut [] r h = record { word_part = []; left = []; is = refl; ends = refl; ends_still = h }
cut (x ∷ a) r h = go (cut a r) (cases_Bool (ender x))
  where
    go : (Fits (after in_word a) r → Cut a r) → (ender x ≡ true) ⊎ (ender x ≡ false) → Cut (x ∷ a) r
    go ih (inl e) = record { word_part = []; left = x ∷ a; is = refl; ends = e; ends_still = e }
    go ih (inr e) =
        let c = ih (subst (λ m. Fits (after m a) r) (stays (x == 34) (x == 92) (is_operator x) (is_space x) e) h) in
        record { word_part = x ∷ c.word_part; left = c.left; is = ap (λ l. x ∷ l) c.is; ends = c.ends; ends_still = c.ends_still }

-- a word is the same word before whatever fits
pub word-append : (x : ℕ) (a r : List ℕ) → Fits (after in_word a) r → word ((x ∷ a) ++ r) ≡ word (x ∷ a)
word-append x a r h =
    let c = cut a r h in
    ap (λ l. word (x ∷ (l ++ r))) c.is ∙ ap (λ l. word (x ∷ l)) (append_assoc c.word_part c.left r) ∙ word_alike (c.left ++ r) c.ends_still x c.word_part
    ∙ sym (word_alike c.left c.ends x c.word_part) ∙ ap (λ l. word (x ∷ l)) (sym c.is)

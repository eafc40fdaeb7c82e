-- A text all of whose lexemes are good leaves no string open.
use Rattle.std.proofs.Common.{◌≡◌, ℕ, Bool, true, false, cond, ◌&&◌, ◌==◌, List, [], ◌∷◌, ◌++◌, Option, Some, None, option_and_then, refl, sym, ap, ap₂, ◌∙◌, subst}
use Rattle.std.proofs.lemmas.Bool.{eqb-true, and_parts}
use Rattle.std.specs.Prelude.{⊤, nat_lt}
use Rattle.std.specs.Char.{is_digit, encode_utf8}
use Rattle.json.specs.Token as t
use Rattle.json.specs.Text.{code_unit, short_escape, is_high_surrogate, is_low_surrogate, surrogate_pair, Within, plain, after_backslash, after_u, after_high, prepend, content}
use Rattle.json.specs.Word.{is_operator, is_space}
use Rattle.json.specs.Lex.{Lexeme, token, comma, colon, string_token, Class, quote, backslash, operator, space, other, class, Mode, between, in_word, in_string, in_escape, lex, lex_byte}
use Rattle.json.specs.Json.{Json, null, boolean, number, string, array, object, Items, no_items, item, Members, no_members, member}
use Rattle.json_lexemes.specs.Lexing.{next_mode, after, Outside}
use Rattle.json_lexemes.specs.Spelled.{spelled, first_elements, more_elements, first_members, more_members, Says}
use Rattle.json_lexemes.proofs.Contents.{mode, is_found, hex, not_this}

abbrev pub IsGood : Lexeme → Type 0
IsGood (token t.begin_object) = ⊤
IsGood (token t.end_object) = ⊤
IsGood (token t.begin_array) = ⊤
IsGood (token t.end_array) = ⊤
IsGood (token (t.key s)) = ⊤
IsGood (token (t.string s)) = ⊤
IsGood (token (t.number s)) = ⊤
IsGood (token (t.boolean b)) = ⊤
IsGood (token t.null) = ⊤
IsGood (token t.bad) = ⊥
IsGood comma = ⊤
IsGood colon = ⊤

abbrev pub AreGood : List Lexeme → Type 0
AreGood [] = ⊤
AreGood (l ∷ ls) = IsGood l × AreGood ls

-- there is content
abbrev Has : Option (List ℕ) → Type 0
Has None = ⊥
Has (Some s) = ⊤

good_string : (o : Option (List ℕ)) → IsGood (token (string_token o)) → Has o
good_string None h = h
good_string (Some s) h = tt

unprepend : (a : List ℕ) (o : Option (List ℕ)) → Has (prepend a o) → Has o
unprepend a None h = h
unprepend a (Some s) h = tt

unthen : (o : Option ℕ) (f : ℕ → Option (List ℕ)) → Has (option_and_then f o) → (u : ℕ) × (is_found o ≡ true) × Has (f u)
unthen None f h = absurd h
unthen (Some u) f h = (u, refl, h)

-- the side of a test that has content
by_cases : (b : Bool) (x y : Option (List ℕ)) (P : Type 0) → (b ≡ true → Has x → P) → (b ≡ false → Has y → P) → Has (cond b x y) → P
by_cases true x y P f g h = f refl h
by_cases false x y P f g h = g refl h

-- what is to be shown of a text in a mode
abbrev Closes : Mode → List ℕ → Type 0
Closes m xs = AreGood (lex m xs) → Outside (after m xs)

-- the lexer comes from ys to xs and emits nothing
pub record Goes (m : Mode) (ys : List ℕ) (n : Mode) (xs : List ℕ) : Type 0 where
  pub left : lex m ys ≡ lex n xs
  pub mode_after : after m ys ≡ after n xs

carry : {m n : Mode} {ys xs : List ℕ} → Goes m ys n xs → Closes n xs → Closes m ys
carry g h good = subst Outside (sym g.mode_after) (h (subst AreGood g.left good))

chain : {m n o : Mode} {zs ys xs : List ℕ} → Goes m zs n ys → Goes n ys o xs → Goes m zs o xs
chain g h = record { left = g.left ∙ h.left; mode_after = g.mode_after ∙ h.mode_after }

byte_goes : (m n : Mode) (c : Class) (x : ℕ) (xs : List ℕ) → class x ≡ c → lex_byte m c x xs (λ k. lex k xs) ≡ lex n xs → next_mode m c ≡ n → Goes m (x ∷ xs) n xs
unfolding lex
byte_goes m n c x xs e l a = record {
  left = ap (λ d. lex_byte m d x xs (λ k. lex k xs)) e ∙ l;
  mode_after = ap (λ d. after (next_mode m d) xs) e ∙ ap (λ k. after k xs) a;
}

quote_goes : (x : ℕ) (xs : List ℕ) → (x == 34) ≡ true → Goes in_string (x ∷ xs) between xs
unfolding lex
quote_goes x xs e = byte_goes in_string between quote x xs (ap class (eqb-true x 34 e)) refl refl

backslash_goes : (x : ℕ) (xs : List ℕ) → (x == 92) ≡ true → Goes in_string (x ∷ xs) in_escape xs
backslash_goes x xs e = byte_goes in_string in_escape backslash x xs (ap class (eqb-true x 92 e)) refl refl

escape_goes : (x : ℕ) (xs : List ℕ) → Goes in_escape (x ∷ xs) in_string xs
unfolding lex
escape_goes x xs = record { left = refl; mode_after = refl }

plain_goes_by : (o s : Bool) (x : ℕ) (xs : List ℕ) → class x ≡ cond o operator (cond s space other) → Goes in_string (x ∷ xs) in_string xs
plain_goes_by true s x xs e = byte_goes in_string in_string operator x xs e refl refl
plain_goes_by false true x xs e = byte_goes in_string in_string space x xs e refl refl
plain_goes_by false false x xs e = byte_goes in_string in_string other x xs e refl refl

plain_goes : (x : ℕ) (xs : List ℕ) → (x == 34) ≡ false → (x == 92) ≡ false → Goes in_string (x ∷ xs) in_string xs
plain_goes x xs q b =
    plain_goes_by (is_operator x) (is_space x) x xs (ap₂ (λ v w. cond v quote (cond w backslash (cond (is_operator x) operator (cond (is_space x) space other)))) q b)

hex_goes : (x : ℕ) (xs : List ℕ) → is_digit x 16 ≡ true → Goes in_string (x ∷ xs) in_string xs
hex_goes x xs h = plain_goes x xs (not_this 34 x (x == 34) (eqb-true x 34) refl h) (not_this 92 x (x == 92) (eqb-true x 92) refl h)

pub unit_goes : (a b c d : ℕ) (xs : List ℕ) → is_found (code_unit a b c d) ≡ true → Goes in_string (a ∷ b ∷ c ∷ d ∷ xs) in_string xs
unit_goes a b c d xs f =
    let h = hex a b c d f in
    chain (hex_goes a (b ∷ c ∷ d ∷ xs) h.first) (chain (hex_goes b (c ∷ d ∷ xs) h.second) (chain (hex_goes c (d ∷ xs) h.third) (hex_goes d xs h.fourth)))

high_goes : (s u : ℕ) (xs : List ℕ) → ((s == 92) && (u == 117)) ≡ true → Goes in_string (s ∷ u ∷ xs) in_string xs
high_goes s u xs e = chain (backslash_goes s (u ∷ xs) (and_parts _ _ e).0) (escape_goes u xs)

between_step : (c : Class) (x : ℕ) (xs : List ℕ) → (Has (content plain xs) → Closes in_string xs) → Closes in_word xs → Closes between xs
    → AreGood (lex_byte between c x xs (λ m. lex m xs)) → Outside (after (next_mode between c) xs)
between_step quote x xs i j k g = i (good_string (content plain xs) g.0) g.1
between_step backslash x xs i j k g = absurd g.0
between_step operator x xs i j k g = k g.1
between_step space x xs i j k g = k g
between_step other x xs i j k g = j g.1

word_step : (c : Class) (x : ℕ) (xs : List ℕ) → Closes in_word xs → Closes between xs → AreGood (lex_byte in_word c x xs (λ m. lex m xs)) → Outside (after (next_mode in_word c) xs)
word_step quote x xs j k g = j g
word_step backslash x xs j k g = j g
word_step operator x xs j k g = k g.1
word_step space x xs j k g = k g
word_step other x xs j k g = j g

mutual
  unfolding lex content

  closed_between : (xs : List ℕ) → Closes between xs
  closed_between [] g = tt
  closed_between (x ∷ xs) g = between_step (class x) x xs (closed_content plain xs) (closed_word xs) (closed_between xs) g

  closed_word : (xs : List ℕ) → Closes in_word xs
  closed_word [] g = tt
  closed_word (x ∷ xs) g = word_step (class x) x xs (closed_word xs) (closed_between xs) g

  closed_content : (w : Within) (xs : List ℕ) → Has (content w xs) → Closes (mode w) xs
  closed_content plain [] h = absurd h
  closed_content plain (x ∷ xs) h =
      by_cases (x == 34) _ _ (Closes in_string (x ∷ xs)) (λ e i. carry (quote_goes x xs e) (closed_between xs))
      (λ q. by_cases (x == 92) _ _ (Closes in_string (x ∷ xs)) (λ e i. carry (backslash_goes x xs e) (closed_content after_backslash xs i))
      (λ b. by_cases (nat_lt x 32) _ _ (Closes in_string (x ∷ xs)) (λ e i. absurd i) (λ e i. carry (plain_goes x xs q b) (closed_content plain xs (unprepend (x ∷ []) _ i))))) h
  closed_content after_backslash [] h = absurd h
  closed_content after_backslash (x ∷ xs) h =
      carry (escape_goes x xs)
      (by_cases (x == 117) _ _ (Closes in_string xs) (λ e i. closed_content after_u xs i)
      (λ e i. let p = unthen (short_escape x) _ i in closed_content plain xs (unprepend (p.0 ∷ []) _ p.2)) h)
  closed_content after_u [] h = absurd h
  closed_content after_u (a ∷ []) h = absurd h
  closed_content after_u (a ∷ b ∷ []) h = absurd h
  closed_content after_u (a ∷ b ∷ c ∷ []) h = absurd h
  closed_content after_u (a ∷ b ∷ c ∷ d ∷ xs) h =
      let p = unthen (code_unit a b c d) _ h in
      carry (unit_goes a b c d xs p.1)
      (by_cases (is_high_surrogate p.0) _ _ (Closes in_string xs) (λ e i. closed_content (after_high p.0) xs i)
      (λ e. by_cases (is_low_surrogate p.0) _ _ (Closes in_string xs) (λ f i. absurd i) (λ f i. closed_content plain xs (unprepend (encode_utf8 p.0) _ i))) p.2)
  closed_content (after_high g) [] h = absurd h
  closed_content (after_high g) (s ∷ []) h = absurd h
  closed_content (after_high g) (s ∷ u ∷ []) h = absurd h
  closed_content (after_high g) (s ∷ u ∷ a ∷ []) h = absurd h
  closed_content (after_high g) (s ∷ u ∷ a ∷ b ∷ []) h = absurd h
  closed_content (after_high g) (s ∷ u ∷ a ∷ b ∷ c ∷ []) h = absurd h
  closed_content (after_high g) (s ∷ u ∷ a ∷ b ∷ c ∷ d ∷ xs) h =
      by_cases ((s == 92) && (u == 117)) _ _ (Closes in_string (s ∷ u ∷ a ∷ b ∷ c ∷ d ∷ xs))
      (λ e i.
      let p = unthen (code_unit a b c d) _ i in
      carry (chain (high_goes s u (a ∷ b ∷ c ∷ d ∷ xs) e) (unit_goes a b c d xs p.1))
      (by_cases (is_low_surrogate p.0) _ _ (Closes in_string xs) (λ f j. closed_content plain xs (unprepend (encode_utf8 (surrogate_pair g p.0)) _ j)) (λ f j. absurd j) p.2))
      (λ e i. absurd i) h

-- ---- what is spelled is good

AreGood-append : (ls ms : List Lexeme) → AreGood ls → AreGood ms → AreGood (ls ++ ms)
AreGood-append [] ms g h = h
AreGood-append (l ∷ ls) ms g h = (g.0, AreGood-append ls ms g.1 h)

mutual
  good_spelled : (j : Json) → AreGood (spelled j)
  good_spelled null = (tt, tt)
  good_spelled (boolean b) = (tt, tt)
  good_spelled (number s) = (tt, tt)
  good_spelled (string s) = (tt, tt)
  good_spelled (array js) = (tt, good_first_elements js)
  good_spelled (object ms) = (tt, good_first_members ms)

  good_first_elements : (js : Items) → AreGood (first_elements js)
  good_first_elements no_items = (tt, tt)
  good_first_elements (item j js) = AreGood-append (spelled j) _ (good_spelled j) (good_more_elements js)

  good_more_elements : (js : Items) → AreGood (more_elements js)
  good_more_elements no_items = (tt, tt)
  good_more_elements (item j js) = (tt, AreGood-append (spelled j) _ (good_spelled j) (good_more_elements js))

  good_first_members : (ms : Members) → AreGood (first_members ms)
  good_first_members no_members = (tt, tt)
  good_first_members (member k j ms) = (tt, (tt, AreGood-append (spelled j) _ (good_spelled j) (good_more_members ms)))

  good_more_members : (ms : Members) → AreGood (more_members ms)
  good_more_members no_members = (tt, tt)
  good_more_members (member k j ms) = (tt, (tt, (tt, AreGood-append (spelled j) _ (good_spelled j) (good_more_members ms))))

-- a text that says a value leaves no string open
pub closed-Says : (u : List ℕ) (j : Json) → Says u j → Outside (after between u)
closed-Says u j h = closed_between u (subst AreGood (sym h) (good_spelled j))

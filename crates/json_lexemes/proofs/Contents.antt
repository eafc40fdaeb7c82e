-- The content of a string is the same, whatever follows the quote that closes it.
use Rattle.std.proofs.Common.{◌≡◌, ℕ, Bool, true, false, cond, ◌&&◌, ◌==◌, List, [], ◌∷◌, ◌++◌, Option, Some, None, option_and_then, refl, sym, ap, ap₂, ◌∙◌, subst}
use Rattle.std.proofs.lemmas.Bool.{false≢true, eqb-true, and_parts}
use Rattle.std.specs.Prelude.{nat_lt}
use Rattle.std.specs.Char.{is_digit, encode_utf8}
use Rattle.json.specs.Text.{code_unit, short_escape, is_high_surrogate, is_low_surrogate, surrogate_pair, Within, plain, after_backslash, after_u, after_high, prepend, content}
use Rattle.json.specs.Word.{is_operator, is_space}
use Rattle.json.specs.Lex.{quote, backslash, operator, space, other, class, Mode, in_string, in_escape}
use Rattle.json_lexemes.specs.Lexing.{next_mode, after, Outside}

abbrev pub mode : Within → Mode
mode plain = in_string
mode after_backslash = in_escape
mode after_u = in_string
mode (after_high h) = in_string

-- ---- which mode a byte in a string leaves

passes : (o s : Bool) → next_mode in_string (cond o operator (cond s space other)) ≡ in_string
passes true s = refl
passes false true = refl
passes false false = refl

plain_mode : (x : ℕ) → (x == 34) ≡ false → (x == 92) ≡ false → next_mode in_string (class x) ≡ in_string
plain_mode x q b =
    (λ i. next_mode in_string (cond (q i) quote (cond (b i) backslash (cond (is_operator x) operator (cond (is_space x) space other))))) ∙ passes (is_operator x) (is_space x)

pub not_this : (c x : ℕ) (t : Bool) → (t ≡ true → x ≡ c) → is_digit c 16 ≡ false → is_digit x 16 ≡ true → t ≡ false
not_this c x false e never h = refl
not_this c x true e never h = absurd (false≢true (sym never ∙ ap (λ y. is_digit y 16) (sym (e refl)) ∙ h))

pub hex_mode : (x : ℕ) → is_digit x 16 ≡ true → next_mode in_string (class x) ≡ in_string
hex_mode x h = plain_mode x (not_this 34 x (x == 34) (eqb-true x 34) refl h) (not_this 92 x (x == 92) (eqb-true x 92) refl h)

hex_after : (x : ℕ) (xs : List ℕ) → is_digit x 16 ≡ true → after in_string (x ∷ xs) ≡ after in_string xs
hex_after x xs h = ap (λ m. after m xs) (hex_mode x h)

backslash_after : (x : ℕ) (xs : List ℕ) → (x == 92) ≡ true → after in_string (x ∷ xs) ≡ after in_escape xs
backslash_after x xs b = ap (λ y. after in_string (y ∷ xs)) (eqb-true x 92 b)

-- ---- four digits

abbrev pub is_found : Option ℕ → Bool
is_found None = false
is_found (Some u) = true

all_hex : (b : Bool) (u : ℕ) → is_found (cond b (Some u) None) ≡ true → b ≡ true
all_hex true u h = refl
all_hex false u h = h

pub record Hex (a b c d : ℕ) : Type 0 where
  pub first : is_digit a 16 ≡ true
  pub second : is_digit b 16 ≡ true
  pub third : is_digit c 16 ≡ true
  pub fourth : is_digit d 16 ≡ true

pub hex : (a b c d : ℕ) → is_found (code_unit a b c d) ≡ true → Hex a b c d
unfolding code_unit
hex a b c d h =
    let p = and_parts (is_digit a 16 && is_digit b 16 && is_digit c 16) (is_digit d 16) (all_hex _ _ h) in
    let q = and_parts (is_digit a 16 && is_digit b 16) (is_digit c 16) p.0 in
    let r = and_parts (is_digit a 16) (is_digit b 16) q.0 in
    record { first = r.0; second = r.1; third = q.1; fourth = p.1 }

unit_after : (a b c d : ℕ) (xs : List ℕ) → is_found (code_unit a b c d) ≡ true → after in_string (a ∷ b ∷ c ∷ d ∷ xs) ≡ after in_string xs
unit_after a b c d xs f =
    let h = hex a b c d f in
    hex_after a (b ∷ c ∷ d ∷ xs) h.first ∙ hex_after b (c ∷ d ∷ xs) h.second ∙ hex_after c (d ∷ xs) h.third ∙ hex_after d xs h.fourth

same_then : (o : Option ℕ) (f g : ℕ → Option (List ℕ)) → (is_found o ≡ true → (u : ℕ) → f u ≡ g u) → option_and_then f o ≡ option_and_then g o
same_then None f g h = refl
same_then (Some u) f g h = h refl u

no_then : (o : Option ℕ) (f : ℕ → Option (List ℕ)) → (is_found o ≡ true → ⊥) → option_and_then f o ≡ None
no_then None f h = refl
no_then (Some u) f h = absurd (h refl)

-- fewer than four bytes that close the string are no digits
one_closes : (a b c d : ℕ) → Outside (after in_string (a ∷ [])) → is_found (code_unit a b c d) ≡ true → ⊥
one_closes a b c d h f = subst Outside (hex_after a [] (hex a b c d f).first) h

two_close : (a b c d : ℕ) → Outside (after in_string (a ∷ b ∷ [])) → is_found (code_unit a b c d) ≡ true → ⊥
two_close a b c d h f = let x = hex a b c d f in subst Outside (hex_after a (b ∷ []) x.first ∙ hex_after b [] x.second) h

three_close : (a b c d : ℕ) → Outside (after in_string (a ∷ b ∷ c ∷ [])) → is_found (code_unit a b c d) ≡ true → ⊥
three_close a b c d h f = let x = hex a b c d f in subst Outside (hex_after a (b ∷ c ∷ []) x.first ∙ hex_after b (c ∷ []) x.second ∙ hex_after c [] x.third) h

-- ---- the steps

plain_step : (q b l : Bool) (x : ℕ) (xs : List ℕ) (e f : Option (List ℕ)) (g h : Option (List ℕ))
    → Outside (after (next_mode in_string (cond q quote (cond b backslash (cond (is_operator x) operator (cond (is_space x) space other))))) xs)
    → (Outside (after in_escape xs) → e ≡ f) → (Outside (after in_string xs) → g ≡ h)
    → cond q (Some []) (cond b e (cond l None (prepend (x ∷ []) g))) ≡ cond q (Some []) (cond b f (cond l None (prepend (x ∷ []) h)))
plain_step true b l x xs e f g h o i j = refl
plain_step false true l x xs e f g h o i j = i o
plain_step false false true x xs e f g h o i j = refl
plain_step false false false x xs e f g h o i j = ap (prepend (x ∷ [])) (j (subst (λ m. Outside (after m xs)) (passes (is_operator x) (is_space x)) o))

same_cond : (b : Bool) (x y z w : Option (List ℕ)) → (b ≡ true → x ≡ z) → (b ≡ false → y ≡ w) → cond b x y ≡ cond b z w
same_cond true x y z w f g = f refl
same_cond false x y z w f g = g refl

none_if : (b : Bool) (o : Option (List ℕ)) → (b ≡ true → o ≡ None) → cond b o None ≡ None
none_if true o h = h refl
none_if false o h = refl

-- after a backslash and u
high_after : (s u : ℕ) (xs : List ℕ) → ((s == 92) && (u == 117)) ≡ true → after in_string (s ∷ u ∷ xs) ≡ after in_string xs
high_after s u xs e = backslash_after s (u ∷ xs) (and_parts _ _ e).0

pub content-append : (w : Within) (xs r : List ℕ) → Outside (after (mode w) xs) → content w (xs ++ r) ≡ content w xs
unfolding content
content-append plain [] r h = absurd h
content-append plain (x ∷ xs) r h =
    plain_step (x == 34) (x == 92) (nat_lt x 32) x xs _ _ _ _ h (content-append after_backslash xs r) (content-append plain xs r)
content-append after_backslash [] r h = absurd h
content-append after_backslash (x ∷ xs) r h =
    ap₂ (λ u p. cond (x == 117) u (option_and_then (λ c. prepend (c ∷ []) p) (short_escape x))) (content-append after_u xs r h) (content-append plain xs r h)
content-append after_u [] r h = absurd h
content-append after_u (a ∷ []) [] h = refl
content-append after_u (a ∷ []) (b ∷ []) h = refl
content-append after_u (a ∷ []) (b ∷ c ∷ []) h = refl
content-append after_u (a ∷ []) (b ∷ c ∷ d ∷ r) h = no_then (code_unit a b c d) _ (one_closes a b c d h)
content-append after_u (a ∷ b ∷ []) [] h = refl
content-append after_u (a ∷ b ∷ []) (c ∷ []) h = refl
content-append after_u (a ∷ b ∷ []) (c ∷ d ∷ r) h = no_then (code_unit a b c d) _ (two_close a b c d h)
content-append after_u (a ∷ b ∷ c ∷ []) [] h = refl
content-append after_u (a ∷ b ∷ c ∷ []) (d ∷ r) h = no_then (code_unit a b c d) _ (three_close a b c d h)
content-append after_u (a ∷ b ∷ c ∷ d ∷ xs) r h =
    same_then (code_unit a b c d) _ _ (λ f u.
    let o = subst Outside (unit_after a b c d xs f) h in
    same_cond (is_high_surrogate u) _ _ _ _ (λ e. content-append (after_high u) xs r o)
    (λ e. ap (λ p. cond (is_low_surrogate u) None (prepend (encode_utf8 u) p)) (content-append plain xs r o)))
content-append (after_high h) [] r o = absurd o
content-append (after_high h) (s ∷ []) [] o = refl
content-append (after_high h) (s ∷ []) (u ∷ []) o = refl
content-append (after_high h) (s ∷ []) (u ∷ a ∷ []) o = refl
content-append (after_high h) (s ∷ []) (u ∷ a ∷ b ∷ []) o = refl
content-append (after_high h) (s ∷ []) (u ∷ a ∷ b ∷ c ∷ []) o = refl
content-append (after_high h) (s ∷ []) (u ∷ a ∷ b ∷ c ∷ d ∷ r) o =
    none_if ((s == 92) && (u == 117)) _ (λ e. absurd (subst Outside (backslash_after s [] (and_parts _ _ e).0) o))
content-append (after_high h) (s ∷ u ∷ []) [] o = refl
content-append (after_high h) (s ∷ u ∷ []) (a ∷ []) o = refl
content-append (after_high h) (s ∷ u ∷ []) (a ∷ b ∷ []) o = refl
content-append (after_high h) (s ∷ u ∷ []) (a ∷ b ∷ c ∷ []) o = refl
content-append (after_high h) (s ∷ u ∷ []) (a ∷ b ∷ c ∷ d ∷ r) o =
    none_if ((s == 92) && (u == 117)) _ (λ e. absurd (subst Outside (high_after s u [] e) o))
content-append (after_high h) (s ∷ u ∷ a ∷ []) [] o = refl
content-append (after_high h) (s ∷ u ∷ a ∷ []) (b ∷ []) o = refl
content-append (after_high h) (s ∷ u ∷ a ∷ []) (b ∷ c ∷ []) o = refl
content-append (after_high h) (s ∷ u ∷ a ∷ []) (b ∷ c ∷ d ∷ r) o =
    none_if ((s == 92) && (u == 117)) _ (λ e. no_then (code_unit a b c d) _ (one_closes a b c d (subst Outside (high_after s u (a ∷ []) e) o)))
content-append (after_high h) (s ∷ u ∷ a ∷ b ∷ []) [] o = refl
content-append (after_high h) (s ∷ u ∷ a ∷ b ∷ []) (c ∷ []) o = refl
content-append (after_high h) (s ∷ u ∷ a ∷ b ∷ []) (c ∷ d ∷ r) o =
    none_if ((s == 92) && (u == 117)) _ (λ e. no_then (code_unit a b c d) _ (two_close a b c d (subst Outside (high_after s u (a ∷ b ∷ []) e) o)))
content-append (after_high h) (s ∷ u ∷ a ∷ b ∷ c ∷ []) [] o = refl
content-append (after_high h) (s ∷ u ∷ a ∷ b ∷ c ∷ []) (d ∷ r) o =
    none_if ((s == 92) && (u == 117)) _ (λ e. no_then (code_unit a b c d) _ (three_close a b c d (subst Outside (high_after s u (a ∷ b ∷ c ∷ []) e) o)))
content-append (after_high h) (s ∷ u ∷ a ∷ b ∷ c ∷ d ∷ xs) r o =
    same_cond ((s == 92) && (u == 117)) _ _ _ _ (λ e. same_then (code_unit a b c d) _ _ (λ f l.
    ap (λ p. cond (is_low_surrogate l) (prepend (encode_utf8 (surrogate_pair h l)) p) None)
    (content-append plain xs r (subst Outside (high_after s u (a ∷ b ∷ c ∷ d ∷ xs) e ∙ unit_after a b c d xs f) o)))) (λ e. refl)

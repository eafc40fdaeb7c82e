-- The byte that a lexeme begins with.
use Rattle.std.proofs.Common.{◌≡◌, ◌⊎◌, ℕ, ◌+◌, ◌<◌, ◌≤◌, Bool, true, false, cond, ◌&&◌, ◌==◌, List, [], ◌∷◌, length, drop, get_or, Option, Some, None, refl, sym, ap, ◌∙◌, subst, inl, inr}
use Rattle.std.proofs.lemmas.Bool.{false≢true, cases_Bool, eqb-true, cases_lt}
use Rattle.std.proofs.lemmas.List.{drop_all}
use Rattle.std.specs.Prelude.{nat_eq}
use Rattle.std.specs.List.{starts_with}
use Rattle.json.specs.Token as t
use Rattle.json.specs.Text.{content, plain}
use Rattle.json.specs.Word.{head, is_operator, is_space, ends_word, literal, number_before, after_number, word}
use Rattle.json.specs.Lex.{Lexeme, token, comma, colon, string_token, operator_lexeme, quote, backslash, other, between, lex, lex_byte}
use Rattle.json_lexemes.specs.Places.{left_at}
use Rattle.json_lexemes.proofs.Steps.{each_operator, other_class, drop_step, operator_left}

-- where it is an operator or a quote, and else 0

abbrev pub token_kind : t.Token → ℕ
token_kind t.begin_object = 123
token_kind t.end_object = 125
token_kind t.begin_array = 91
token_kind t.end_array = 93
token_kind (t.key s) = 0
token_kind (t.string s) = 34
token_kind (t.number s) = 0
token_kind (t.boolean b) = 0
token_kind t.null = 0
token_kind t.bad = 0

abbrev pub kind : List Lexeme → ℕ
kind [] = 0
kind (token k ∷ ls) = token_kind k
kind (comma ∷ ls) = 44
kind (colon ∷ ls) = 58

operator_kind : (x : ℕ) (ls : List Lexeme) → is_operator x ≡ true → kind (operator_lexeme x ∷ ls) ≡ x
operator_kind x ls = each_operator (λ y. kind (operator_lexeme y ∷ ls) ≡ y) refl refl refl refl refl refl x

cond_kind : (b : Bool) (k l : t.Token) → token_kind k ≡ 0 → token_kind l ≡ 0 → token_kind (cond b k l) ≡ 0
cond_kind true k l e f = e
cond_kind false k l e f = f

number_kind : (w : List ℕ) (o : Option (List ℕ)) → token_kind (number_before w o) ≡ 0
number_kind w None = refl
number_kind w (Some r) = cond_kind (ends_word r) _ _ refl refl

literal_kind : (name : List ℕ) (k : t.Token) (w : List ℕ) → token_kind k ≡ 0 → token_kind (literal name k w) ≡ 0
literal_kind name k w e = cond_kind (starts_with nat_eq w name && ends_word (drop (length name) w)) k t.bad e refl

pub word_kind : (w : List ℕ) → token_kind (word w) ≡ 0
unfolding word
word_kind w =
    cond_kind (head w == 116) _ _ (literal_kind (116 ∷ 114 ∷ 117 ∷ 101 ∷ []) (t.boolean true) w refl)
    (cond_kind (head w == 102) _ _ (literal_kind (102 ∷ 97 ∷ 108 ∷ 115 ∷ 101 ∷ []) (t.boolean false) w refl)
    (cond_kind (head w == 110) _ _ (literal_kind (110 ∷ 117 ∷ 108 ∷ 108 ∷ []) t.null w refl) (number_kind w (after_number w))))

pub string_kind : (o : Option (List ℕ)) → (token_kind (string_token o) ≡ 0) ⊎ (token_kind (string_token o) ≡ 34)
string_kind None = inl refl
string_kind (Some s) = inr refl

other_kind : (x : ℕ) (xs : List ℕ) (q b : Bool) → (x == 34) ≡ q → (kind (lex_byte between (cond q quote (cond b backslash other)) x xs (λ m. lex m xs)) ≡ 0) ⊎ (kind (lex_byte between (cond q quote (cond b backslash other)) x xs (λ m. lex m xs)) ≡ x)
other_kind x xs true b e = turned (string_kind (content plain xs))
  where
    turned : (token_kind (string_token (content plain xs)) ≡ 0) ⊎ (token_kind (string_token (content plain xs)) ≡ 34) → (token_kind (string_token (content plain xs)) ≡ 0) ⊎ (token_kind (string_token (content plain xs)) ≡ x)
    turned (inl z) = inl z
    turned (inr s) = inr (s ∙ sym (eqb-true x 34 e))
other_kind x xs false true e = inl refl
other_kind x xs false false e = inl (word_kind (x ∷ xs))

here_kind : (t : List ℕ) (i : ℕ) → i < length t → is_space (get_or t i 0) ≡ false → (kind (left_at t i) ≡ 0) ⊎ (kind (left_at t i) ≡ get_or t i 0)
unfolding lex
here_kind t i h s = by_operator (cases_Bool (is_operator (get_or t i 0)))
  where
    x : ℕ
    x = get_or t i 0

    by_operator : (is_operator (get_or t i 0) ≡ true) ⊎ (is_operator (get_or t i 0) ≡ false) → (kind (left_at t i) ≡ 0) ⊎ (kind (left_at t i) ≡ get_or t i 0)
    by_operator (inl o) = inr (ap kind (operator_left t i (get_or t i 0) h refl o) ∙ operator_kind (get_or t i 0) _ o)
    by_operator (inr o) =
        let xs = drop (i + 1) t in
        let y = get_or t i 0 in
        let e : left_at t i ≡ lex_byte between (cond (y == 34) quote (cond (y == 92) backslash other)) y xs (λ m. lex m xs) =
        ap (lex between) (drop_step t i h) ∙ ap (λ c. lex_byte between c y xs (λ m. lex m xs)) (other_class y o s) in
        subst (λ l. (kind l ≡ 0) ⊎ (kind l ≡ y)) (sym e) (other_kind y xs (y == 34) (y == 92) refl)

-- where a lexeme of this kind begins, its byte stands
pub byte_by_kind : (t : List ℕ) (i c : ℕ) → (i < length t → is_space (get_or t i 0) ≡ false) → kind (left_at t i) ≡ c → (c ≡ 0 → ⊥) → (i < length t) × (get_or t i 0 ≡ c)
unfolding lex
byte_by_kind t i c s k n = by_place (cases_lt i (length t))
  where
    by_kind : (kind (left_at t i) ≡ 0) ⊎ (kind (left_at t i) ≡ get_or t i 0) → i < length t → (i < length t) × (get_or t i 0 ≡ c)
    by_kind (inl z) h = absurd (n (sym k ∙ z))
    by_kind (inr e) h = (h, sym e ∙ k)

    by_place : (i < length t) ⊎ (length t ≤ i) → (i < length t) × (get_or t i 0 ≡ c)
    by_place (inl h) = by_kind (here_kind t i h (s h)) h
    by_place (inr h) = absurd (n (sym k ∙ ap kind (ap (lex between) (drop_all i t h))))

pub operator_by_kind : (t : List ℕ) (i c : ℕ) (ls : List Lexeme) → (i < length t → is_space (get_or t i 0) ≡ false) → is_operator c ≡ true → left_at t i ≡ operator_lexeme c ∷ ls → (i < length t) × (get_or t i 0 ≡ c)
operator_by_kind t i c ls s o e = byte_by_kind t i c s (ap kind e ∙ operator_kind c ls o) (λ z. false≢true (sym (ap is_operator z) ∙ o))

-- The bracket at a value's front, and the whole of a text.
use Rattle.std.proofs.Common.{◌≡◌, ℕ, ◌+◌, ◌<◌, ◌≤◌, true, List, [], ◌∷◌, ◌++◌, length, take, drop, get_or, refl, sym, ap, ◌∙◌, inl, arith, append-nil}
use Rattle.std.proofs.lemmas.List.{get_or_default}
use Rattle.json.specs.Json.{Json, null, boolean, number, string, array, object, Items, Members}
use Rattle.json.specs.Word.{is_operator}
use Rattle.json.specs.Lex.{Lexeme, between, operator_lexeme}
use Rattle.json_lexemes.specs.Found.{IsCut}
use Rattle.json_lexemes.specs.Places.{mode_at, left_at}
use Rattle.json_text.specs.Pointed.{IsStretch}
use Rattle.json_lexemes.specs.Spelled.{spelled, first_elements, first_members, Says}
use Rattle.json_lexemes.specs.declared.span.Span.{Span}
use Rattle.json_text.proofs.Around.{alone}
use Rattle.json_lexemes.proofs.FirstBytes.{kind}
use Rattle.json_lexemes.proofs.Steps.{operator_left, operator_end}
use Rattle.json_text.specs.Rows.{slice}
use Rattle.json_text.proofs.Stretches.{stretch}

abbrev tail : List Lexeme → List Lexeme
tail [] = []
tail (l ∷ ls) = ls

-- ---- the bracket that a value begins with

-- a value whose first byte is this is an object
pub object_here : (t : List ℕ) (i : ℕ) (v : Json) (ls : List Lexeme) → i < length t → get_or t i 32 ≡ 123 → left_at t i ≡ spelled v ++ ls → (ms : Members) × (v ≡ object ms) × (left_at t (i + 1) ≡ first_members ms ++ ls)
object_here t i v ls h b at = by_value v (sym (ap kind first) ∙ ap kind at) (sym first ∙ at)
  where
    first : left_at t i ≡ operator_lexeme 123 ∷ left_at t (i + 1)
    first = operator_left t i 123 h (get_or_default t i 0 32 h ∙ b) refl

    by_value : (v : Json) → 123 ≡ kind (spelled v ++ ls) → operator_lexeme 123 ∷ left_at t (i + 1) ≡ spelled v ++ ls → (ms : Members) × (v ≡ object ms) × (left_at t (i + 1) ≡ first_members ms ++ ls)
    by_value null k e = absurd (omega (arith, k))
    by_value (boolean b) k e = absurd (omega (arith, k))
    by_value (number x) k e = absurd (omega (arith, k))
    by_value (string x) k e = absurd (omega (arith, k))
    by_value (array js) k e = absurd (omega (arith, k))
    by_value (object ms) k e = (ms, refl, ap tail e)

pub array_here : (t : List ℕ) (i : ℕ) (v : Json) (ls : List Lexeme) → i < length t → get_or t i 32 ≡ 91 → left_at t i ≡ spelled v ++ ls → (js : Items) × (v ≡ array js) × (left_at t (i + 1) ≡ first_elements js ++ ls)
array_here t i v ls h b at = by_value v (sym (ap kind first) ∙ ap kind at) (sym first ∙ at)
  where
    first : left_at t i ≡ operator_lexeme 91 ∷ left_at t (i + 1)
    first = operator_left t i 91 h (get_or_default t i 0 32 h ∙ b) refl

    by_value : (v : Json) → 91 ≡ kind (spelled v ++ ls) → operator_lexeme 91 ∷ left_at t (i + 1) ≡ spelled v ++ ls → (js : Items) × (v ≡ array js) × (left_at t (i + 1) ≡ first_elements js ++ ls)
    by_value null k e = absurd (omega (arith, k))
    by_value (boolean b) k e = absurd (omega (arith, k))
    by_value (number x) k e = absurd (omega (arith, k))
    by_value (string x) k e = absurd (omega (arith, k))
    by_value (array js) k e = (js, refl, ap tail e)
    by_value (object ms) k e = absurd (omega (arith, k))

-- ---- and the whole text

pub record IsObject (text : List ℕ) (j : Json) (o : ℕ) : Type 0 where
  pub members : Members
  pub is : j ≡ object members
  pub inside : left_at text (o + 1) ≡ first_members members

pub object_opens : (text : List ℕ) (j : Json) (o : ℕ) → o < length text → get_or text o 32 ≡ 123 → left_at text o ≡ left_at text 0 → Says text j → IsObject text j o
object_opens text j o h b l says =
    let (ms, is, inside) = object_here text o j [] h b (l ∙ says ∙ sym (append-nil (spelled j))) in
    record { members = ms; is = is; inside = inside ∙ append-nil (first_members ms) }

pub record IsArray (text : List ℕ) (j : Json) (o : ℕ) : Type 0 where
  pub elements : Items
  pub is : j ≡ array elements
  pub inside : left_at text (o + 1) ≡ first_elements elements

pub array_opens : (text : List ℕ) (j : Json) (o : ℕ) → o < length text → get_or text o 32 ≡ 91 → left_at text o ≡ left_at text 0 → Says text j → IsArray text j o
array_opens text j o h b l says =
    let (js, is, inside) = array_here text o j [] h b (l ∙ says ∙ sym (append-nil (spelled j))) in
    record { elements = js; is = is; inside = inside ∙ append-nil (first_elements js) }

pub opens_between : (text : List ℕ) (o c : ℕ) → o < length text → get_or text o 32 ≡ c → is_operator c ≡ true → mode_at text o ≡ between → mode_at text (o + 1) ≡ between
opens_between text o c h b p m = operator_end text o h (ap is_operator (get_or_default text o 0 32 h ∙ b) ∙ p) (inl m)

-- ---- the text without the whitespace around it

pub whole_found : (text : List ℕ) (j : Json) (s : Span) → Says text j → left_at text s.start ≡ left_at text 0 → left_at text s.end ≡ [] → IsCut text s → s.start ≤ s.end → s.end ≤ length text → IsStretch (take s.start text) (slice text s.start s.end) (drop s.end text) j (λ w. w)
whole_found text j s says b e c h w =
    let at : left_at text s.start ≡ spelled j ++ [] = b ∙ says ∙ sym (append-nil (spelled j)) in
    stretch text j j [] (λ x. x) s says (alone j) refl at e c h w

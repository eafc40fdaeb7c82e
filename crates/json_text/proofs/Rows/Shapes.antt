-- What a value is, by its first byte, and the text of a name.
use Rattle.std.proofs.Common.{◌≡◌, ◌<◌, ℕ, ◌+◌, ◌∷◌, Bool, true, false, List, [], length, drop, get_or, Option, Some, None, refl, sym, ap, ◌∙◌, inr, arith}
use Rattle.std.proofs.lemmas.List.{get_or_default}
use Rattle.json.specs.Json.{Json, null, boolean, number, string, array, object}
use Rattle.json.specs.Lex.{Lexeme, token, between, in_string, string_token, lex}
use Rattle.json.specs.Text.{content, plain}
use Rattle.json_lexemes.specs.Found.{IsCut}
use Rattle.json_text.specs.Listing.{NamesAt, shape_of}
use Rattle.json_lexemes.specs.Places.{mode_at, left_at, Closes}
use Rattle.json_text.specs.Rows.{Child, IsSolid, inside}
use Rattle.json_lexemes.specs.Spelled.{spelled, Says}
use Rattle.json_text.specs.declared.listing.Shape.TheVariants.{Object, Array, String, Atom}
use Rattle.json_lexemes.specs.declared.span.Span.{Span}
use Rattle.json_lexemes.proofs.FirstBytes.{kind, byte_by_kind}
use Rattle.json_lexemes.proofs.Members.{quote_left}
use Rattle.json_lexemes.proofs.Steps.{quote_opens, string_has_end}
use Rattle.json_text.proofs.Tokens.{object_opens, array_opens}

abbrev tail : List Lexeme → List Lexeme
tail [] = []
tail (l ∷ ls) = ls

pub is_object : (text : List ℕ) (j : Json) (o : ℕ) → o < length text → get_or text o 32 ≡ 123 → left_at text o ≡ left_at text 0 → Says text j → Object ≡ shape_of j
is_object text j o h b l says = sym (ap shape_of (object_opens text j o h b l says).is)

pub is_array : (text : List ℕ) (j : Json) (o : ℕ) → o < length text → get_or text o 32 ≡ 91 → left_at text o ≡ left_at text 0 → Says text j → Array ≡ shape_of j
is_array text j o h b l says = sym (ap shape_of (array_opens text j o h b l says).is)

by_content : (x : Option (List ℕ)) (ls : List Lexeme) (j : Json) → token (string_token x) ∷ ls ≡ spelled j → String ≡ shape_of j
by_content None ls null e = cc
by_content None ls (boolean b) e = cc
by_content None ls (number s) e = cc
by_content None ls (string s) e = refl
by_content None ls (array js) e = cc
by_content None ls (object ms) e = cc
by_content (Some x) ls null e = cc
by_content (Some x) ls (boolean b) e = cc
by_content (Some x) ls (number s) e = cc
by_content (Some x) ls (string s) e = refl
by_content (Some x) ls (array js) e = cc
by_content (Some x) ls (object ms) e = cc

pub is_string : (text : List ℕ) (j : Json) (o : ℕ) → o < length text → get_or text o 32 ≡ 34 → left_at text o ≡ left_at text 0 → Says text j → String ≡ shape_of j
is_string text j o h b l says = by_content (content plain (drop (o + 1) text)) _ j (sym (quote_left text o h (get_or_default text o 0 32 h ∙ b)) ∙ l ∙ says)

pub is_atom : (text : List ℕ) (j : Json) (o : ℕ) → IsSolid text o → (get_or text o 32 ≡ 123 → ⊥) → (get_or text o 32 ≡ 91 → ⊥) → (get_or text o 32 ≡ 34 → ⊥) → left_at text o ≡ left_at text 0 → Says text j → Atom ≡ shape_of j
is_atom text j o s a b c l says = by_value j (l ∙ says)
  where
    opens : (n : ℕ) → kind (left_at text o) ≡ n → (n ≡ 0 → ⊥) → get_or text o 32 ≡ n
    opens n k z = let e = byte_by_kind text o n s k z in get_or_default text o 32 0 e.0 ∙ e.1

    by_value : (j : Json) → left_at text o ≡ spelled j → Atom ≡ shape_of j
    by_value null e = refl
    by_value (boolean x) e = refl
    by_value (number x) e = refl
    by_value (string x) e = absurd (c (opens 34 (ap kind e) (λ z. absurd (omega (arith, z)))))
    by_value (array js) e = absurd (b (opens 91 (ap kind e) (λ z. absurd (omega (arith, z)))))
    by_value (object ms) e = absurd (a (opens 123 (ap kind e) (λ z. absurd (omega (arith, z)))))

-- ---- a name

pub no_name : (t : List ℕ) (cs : List Child) (s : Span) → s.end ≡ s.start → (b : Bool) → b ≡ false → NamesAt t b cs s
no_name t [] s e b n = tt
no_name t (c ∷ cs) s e true n = cc
no_name t (c ∷ cs) s e false n = e

pub no_quote : (t : List ℕ) (cs : List Child) (b : Bool) (i : ℕ) (s : Span) → b ≡ true → IsSolid t i → (get_or t i 32 ≡ 34 → ⊥) → left_at t i ≡ inside b cs → NamesAt t b cs s
no_quote t [] b i s n w q e = tt
no_quote t (c ∷ cs) false i s n w q e = cc
no_quote t (c ∷ cs) true i s n w q e = let b = byte_by_kind t i 34 w (ap kind e) (λ z. absurd (omega (arith, z))) in absurd (q (get_or_default t i 32 0 b.0 ∙ b.1))

pub name_here : (t : List ℕ) (cs : List Child) (b : Bool) (s : Span) → b ≡ true → s.start < length t → get_or t s.start 32 ≡ 34 → left_at t s.end ≡ lex in_string (drop (s.start + 1) t) → left_at t s.start ≡ inside b cs → NamesAt t b cs s
name_here t [] b s n h q z e = tt
name_here t (c ∷ cs) false s n h q z e = cc
name_here t (c ∷ cs) true s n h q z e = (e, z ∙ ap tail (sym (quote_left t s.start h (get_or_default t s.start 0 32 h ∙ q)) ∙ e))

pub name_cut : (t : List ℕ) (s : Span) → s.start < length t → get_or t s.start 32 ≡ 34 → IsSolid t s.start → mode_at t s.start ≡ between → (mode_at t (s.start + 1) ≡ in_string → Closes t s.end) → IsCut t s
name_cut t s h q w m closes =
    let e = string_has_end t s.end (closes (quote_opens t s.start h (get_or_default t s.start 0 32 h ∙ q) m)) in
    record { begins = m; ends = e.0; front = w; back = inr e.1 }

-- Stretches that leave no lexeme open, one after another.
use Rattle.std.proofs.Common.{◌≡◌, ℕ, ◌≤◌, true, List, [], ◌∷◌, ◌++◌, length, refl, sym, ap, ap₂, ◌∙◌, subst, inl, append_assoc}
use Rattle.json.proofs.Printed.Strings.{content-escape, lex-escape}
use Rattle.json.specs.Json.{Json}
use Rattle.json.specs.Lex.{Lexeme, token, comma, colon, string_token, between, lex}
use Rattle.json.specs.Print.{escape, quoted}
use Rattle.json.specs.Token as t
use Rattle.json_lexemes.specs.Lexing.{after, Fits}
use Rattle.json_lexemes.specs.Places.{mode_at, left_at}
use Rattle.json_text.specs.Rows.{slice}
use Rattle.json_lexemes.specs.Spelled.{spelled, Says}
use Rattle.json_lexemes.proofs.Closed.{closed-Says}
use Rattle.json_lexemes.proofs.Steps.{follows, ends-follows}
use Rattle.json_text.proofs.Stretches.{fits, lex-join, mode_between}
use Rattle.json_text.proofs.Rows.Splices.{slice_lexes}

pub record Lead (s : List ℕ) (L : List Lexeme) : Type 0 where
  pub lexed : (r : List ℕ) → lex between (s ++ r) ≡ L ++ lex between r

pub no_lead : Lead [] []
no_lead = record { lexed = λ r. refl }

pub comma_lead : (s : List ℕ) (L : List Lexeme) → Lead s L → Lead (44 ∷ s) (comma ∷ L)
unfolding lex
comma_lead s L h = record { lexed = λ r. ap (λ l. comma ∷ l) (h.lexed r) }

pub colon_lead : Lead (58 ∷ []) (colon ∷ [])
unfolding lex
colon_lead = record { lexed = λ r. refl }

pub quoted_lead : (k : List ℕ) → Lead (quoted k) (token (t.string k) ∷ [])
unfolding lex
quoted_lead k = record {
  lexed = λ r.
      ap (λ x. lex between (34 ∷ x)) (append_assoc (escape k) (34 ∷ []) r)
      ∙ ap₂ (λ c l. token (string_token c) ∷ l) (content-escape k r) (lex-escape k r);
}

pub slice_lead : (text : List ℕ) (i k : ℕ) (L : List Lexeme) → mode_at text i ≡ between → mode_at text k ≡ between → left_at text i ≡ L ++ left_at text k → i ≤ k → k ≤ length text → Lead (slice text i k) L
slice_lead text i k L m n e h w = record {
  lexed = λ r.
      lex-join (slice text i k) r (subst (λ x. Fits x r) (sym n ∙ mode_between text i k h m) tt)
      ∙ ap (λ l. l ++ lex between r) (slice_lexes text i k L (inl m) (inl n) e h w);
}

pub leads : (a b : List ℕ) (L M : List Lexeme) → Lead a L → Lead b M → Lead (a ++ b) (L ++ M)
leads a b L M g h = record { lexed = λ r. ap (lex between) (append_assoc a b r) ∙ g.lexed (b ++ r) ∙ ap (λ l. L ++ l) (h.lexed r) ∙ sym (append_assoc L M (lex between r)) }

-- a value's text before what may follow one
pub value_before : (new : List ℕ) (w : Json) (r : List ℕ) → Says new w → follows (lex between r) ≡ true → lex between (new ++ r) ≡ spelled w ++ lex between r
value_before new w r says f = lex-join new r (fits (after between new) r (closed-Says new w says) (ends-follows r f)) ∙ ap (λ l. l ++ lex between r) says

-- The bytes that end a lexeme are ASCII, so no character is cut there.
use Rattle.std.proofs.Common.{◌≡◌, ◌⊎◌, ℕ, ◌<◌, ◌≤◌, true, false, List, length, inl, inr, refl, sym, ◌∙◌, subst, arith}
use Rattle.std.proofs.lemmas.Bool.{true≢false, ne_eqb, cases_lt}
use Rattle.std.proofs.lemmas.Str.{IsCharBoundary-end}
use Rattle.std.specs.Str.{IsCharBoundary}
use Rattle.json.specs.Word.{is_operator, is_space}
use Rattle.json_lexemes.proofs.Steps.{each_operator}

pub operator_ascii : (x : ℕ) → is_operator x ≡ true → x < 128
operator_ascii = each_operator (λ x. x < 128) (omega arith) (omega arith) (omega arith) (omega arith) (omega arith) (omega arith)

pub space_ascii : (x : ℕ) → is_space x ≡ true → x < 128
space_ascii x s = by_size (cases_lt x 128)
  where
    no_space : 128 ≤ x → is_space x ≡ false
    no_space h = rw (ne_eqb x 32 (λ e. absurd (omega (arith, e, h))), ne_eqb x 9 (λ e. absurd (omega (arith, e, h))), ne_eqb x 10 (λ e. absurd (omega (arith, e, h))), ne_eqb x 13 (λ e. absurd (omega (arith, e, h)))) refl

    by_size : (x < 128) ⊎ (128 ≤ x) → x < 128
    by_size (inl h) = h
    by_size (inr h) = absurd (true≢false (sym s ∙ no_space h))

pub ends_boundary : (t : List ℕ) (i : ℕ) → i ≡ length t → IsCharBoundary t i
ends_boundary t i e = subst (IsCharBoundary t) (sym e) (IsCharBoundary-end t)

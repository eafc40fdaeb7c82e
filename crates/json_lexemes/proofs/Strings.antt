-- The mode of the lexer across a string, and across a number or a literal.
use Rattle.std.proofs.Common.{◌≡◌, ℕ, ◌+◌, ◌<◌, ◌≤◌, List, length, get_or, Option, Some, None, inl, sym, ap, ap₂, ◌∙◌, arith}
use Rattle.std.specs.Prelude.{IfSome}
use Rattle.json.specs.Word.{is_operator, is_space}
use Rattle.json.specs.Lex.{class, between, in_string, in_escape}
use Rattle.json_lexemes.specs.Lexing.{next_mode}
use Rattle.json_lexemes.specs.Places.{mode_at, IsEnd}
use Rattle.json_lexemes.proofs.Contents.{hex, hex_mode, is_found}
use Rattle.json_lexemes.proofs.Inside.{unit_at}
use Rattle.json_lexemes.proofs.Steps.{mode_step, begins_here, quote_opens, escape_mode}

-- ---- strings

pub quote_begins : (t : List ℕ) (i : ℕ) → i < length t → get_or t i 0 ≡ 34 → IsEnd t i → mode_at t (i + 1) ≡ in_string
quote_begins t i h q e = quote_opens t i h q (begins_here t i h (ap is_operator q) (ap is_space q) e)

pub escape_begins : (t : List ℕ) (i : ℕ) → i < length t → get_or t i 0 ≡ 92 → mode_at t i ≡ in_string → mode_at t (i + 1) ≡ in_escape
escape_begins t i h b m = mode_step t i h ∙ ap₂ (λ n x. next_mode n (class x)) m b

pub escape_closes : (t : List ℕ) (i : ℕ) → i < length t → mode_at t i ≡ in_escape → mode_at t (i + 1) ≡ in_string
escape_closes t i h m = mode_step t i h ∙ ap (λ n. next_mode n (class (get_or t i 0))) m

hex_byte : (t : List ℕ) (i : ℕ) → i < length t → next_mode in_string (class (get_or t i 0)) ≡ in_string → mode_at t i ≡ in_string → mode_at t (i + 1) ≡ in_string
hex_byte t i h n m = mode_step t i h ∙ ap (λ k. next_mode k (class (get_or t i 0))) m ∙ n

pub unit_mode : (t : List ℕ) (i u : ℕ) → i + 4 ≤ length t → unit_at t i ≡ Some u → mode_at t i ≡ in_string → mode_at t (i + 4) ≡ in_string
unit_mode t i u h e m =
    let x = hex _ _ _ _ (ap is_found e) in
    let two : i + 1 + 1 ≡ i + 2 = omega arith in
    let three : i + 2 + 1 ≡ i + 3 = omega arith in
    let four : i + 3 + 1 ≡ i + 4 = omega arith in
    let a = hex_byte t i (omega arith) (hex_mode (get_or t i 0) x.first) m in
    let b = ap (mode_at t) (sym two) ∙ hex_byte t (i + 1) (omega arith) (hex_mode (get_or t (i + 1) 0) x.second) a in
    let c = ap (mode_at t) (sym three) ∙ hex_byte t (i + 2) (omega arith) (hex_mode (get_or t (i + 2) 0) x.third) b in
    ap (mode_at t) (sym four) ∙ hex_byte t (i + 3) (omega arith) (hex_mode (get_or t (i + 3) 0) x.fourth) c

pub pair_mode : (t : List ℕ) (i u : ℕ) → i + 6 ≤ length t → get_or t i 0 ≡ 92 → unit_at t (i + 2) ≡ Some u → mode_at t i ≡ in_string → mode_at t (i + 6) ≡ in_string
pair_mode t i u h b e m =
    let six : i + 2 + 4 ≡ i + 6 = omega arith in
    ap (mode_at t) (sym six) ∙ unit_mode t (i + 2) u (omega arith) e (escape_mode t i (omega arith) b m)

-- one step, and then another
pub mode_by : {A : Type 0} {P Q : Type 0} (R : A → Type 0) (r : Option A) → (P → Q) → IfSome r (λ p. Q → R p) → IfSome r (λ p. P → R p)
mode_by R None f h = tt
mode_by R (Some p) f h = λ m. h (f m)

-- a value is to come behind the colon of a name
pub mode_then : (t : List ℕ) (from k : ℕ) (r : Option ℕ) → (IsEnd t from → mode_at t k ≡ between) → IfSome r (λ i. IsEnd t k → mode_at t i ≡ between) → IfSome r (λ i. IsEnd t from → IsEnd t i)
mode_then t from k None f h = tt
mode_then t from k (Some i) f h = λ e. inl (h (inl (f e)))

-- The whitespace at the end of a text.
use Rattle.std.proofs.Common.{◌≡◌, ◌⊎◌, inl, inr, ℕ, zero, suc, ◌+◌, ◌-◌, ◌<◌, ◌≤◌, Bool, true, false, ◌||◌, List, [], ◌∷◌, length, drop, get_or, refl, sym, ap, ◌∙◌, subst, arith}
use Rattle.std.proofs.lemmas.List.{drop_all}
use Rattle.std.proofs.lemmas.Str.{IsCharBoundary-before_ascii}
use Rattle.std.specs.Str.{IsCharBoundary}
use Rattle.json.specs.Json.{Json}
use Rattle.json.specs.Lex.{Mode, between, in_word, in_string, in_escape, space, lex}
use Rattle.json.specs.Word.{ends_word, is_operator, is_space}
use Rattle.json_lexemes.specs.Lexing.{next_mode, Outside}
use Rattle.json_lexemes.specs.Places.{left_at, mode_at, HasEnd, IsEnd}
use Rattle.json_lexemes.specs.Spelled.{Says}
use Rattle.json_lexemes.proofs.Ascii.{space_ascii}
use Rattle.json_lexemes.proofs.Closed.{closed-Says}
use Rattle.json_lexemes.proofs.Steps.{mode_step, space_class, whitespace_left}
use Rattle.std.proofs.Math.Seq.{take-length}
use Rattle.json_lexemes.specs.Lexing.{after}

-- at the end of the text
pub end_left : (t : List ℕ) (i : ℕ) → i ≡ length t → left_at t i ≡ []
unfolding lex
end_left t i e = ap (lex between) (drop_all i t (omega (arith, e)))

pub end_ended : (t : List ℕ) (i : ℕ) → i ≡ length t → ends_word (drop i t) ≡ true
end_ended t i e = ap ends_word (drop_all i t (omega (arith, e)))

-- ---- a byte of whitespace before

or_right : (a b : Bool) → b ≡ true → (a || b) ≡ true
or_right true b e = refl
or_right false b e = e

ended_whitespace : (t : List ℕ) (i : ℕ) → i < length t → is_space (get_or t i 0) ≡ true → ends_word (drop i t) ≡ true
ended_whitespace [] i h s = absurd (omega arith)
ended_whitespace (x ∷ t) zero h s = or_right (is_operator x) (is_space x) s
ended_whitespace (x ∷ t) (suc i) h s = ended_whitespace t i (omega arith) s

outside_before : (m : Mode) → Outside (next_mode m space) → Outside m
outside_before between o = tt
outside_before in_word o = tt
outside_before in_string o = o
outside_before in_escape o = o

pub before_left : (t : List ℕ) (n i : ℕ) → n ≡ i + 1 → n ≤ length t → is_space (get_or t i 0) ≡ true → left_at t n ≡ [] → left_at t i ≡ []
before_left t n i e h s l = sym (whitespace_left t i (omega (arith, e)) s) ∙ ap (left_at t) (sym e) ∙ l

pub before_ended : (t : List ℕ) (n i : ℕ) → n ≡ i + 1 → n ≤ length t → is_space (get_or t i 0) ≡ true → ends_word (drop i t) ≡ true
before_ended t n i e h s = ended_whitespace t i (omega (arith, e)) s

pub before_closed : (t : List ℕ) (n i : ℕ) → n ≡ i + 1 → n ≤ length t → is_space (get_or t i 0) ≡ true → Outside (mode_at t n) → Outside (mode_at t i)
before_closed t n i e h s o = outside_before (mode_at t i) (subst Outside (ap (mode_at t) e ∙ mode_step t i (omega (arith, e)) ∙ ap (next_mode (mode_at t i)) (space_class (get_or t i 0) s)) o)

pub before_boundary : (t : List ℕ) (n i : ℕ) → n ≡ i + 1 → n ≤ length t → is_space (get_or t i 0) ≡ true → IsCharBoundary t i
before_boundary t n i e h s = IsCharBoundary-before_ascii t i (omega (arith, e)) (space_ascii (get_or t i 0) s)

-- ---- where the value ends

by_mode : (m : Mode) (t : List ℕ) (k : ℕ) → mode_at t k ≡ m → Outside m → ends_word (drop k t) ≡ true → IsEnd t k
by_mode between t k e o w = inl e
by_mode in_word t k e o w = inr (inl (e, w))
by_mode in_string t k e o w = absurd o
by_mode in_escape t k e o w = absurd o

pub trimmed_end : (t : List ℕ) (j : Json) (k : ℕ) → Says t j → (Outside (mode_at t (length t)) → Outside (mode_at t k)) → ends_word (drop k t) ≡ true → IsEnd t k
trimmed_end t j k says closed w = by_mode (mode_at t k) t k refl (closed (subst (λ x. Outside (after between x)) (sym (take-length t)) (closed-Says t j says))) w

pub trimmed_back : (t : List ℕ) (i k : ℕ) → (k ≡ i) ⊎ (is_space (get_or t (k - 1) 0) ≡ false) → (k ≡ i) ⊎ HasEnd t k
trimmed_back t i k (inl e) = inl e
trimmed_back t i k (inr s) = inr (inl s)

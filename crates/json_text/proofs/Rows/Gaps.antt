-- The whitespace before one of a row.
use Rattle.std.proofs.Common.{◌≡◌, ℕ, ◌+◌, ◌<◌, ◌≤◌, List, ◌∷◌, length, drop, get_or, refl, sym, ap, ◌∙◌, inl, arith}
use Rattle.json.specs.Word.{is_operator}
use Rattle.json.specs.Lex.{comma}
use Rattle.json_lexemes.specs.Places.{left_at, IsEnd}
use Rattle.json_text.specs.Rows.{IsChild, IsGap, IsSolid, inside, others}
use Rattle.json_text.specs.declared.parts.Numbered.{Numbered}
use Rattle.json_lexemes.proofs.FirstBytes.{operator_by_kind}
use Rattle.json_lexemes.proofs.Steps.{operator_end, operator_left}
use Rattle.json_text.proofs.Rows.Cuts.{inside_positive}
use Rattle.json_text.proofs.Rows.Parts.{tail}
use Rattle.json_text.proofs.Rows.Splices.{ordered}
use Rattle.json_text.proofs.Rows.Trees.{solid_before}

pub first_gap : (t : List ℕ) (n : ℕ) (r : Numbered) → n ≡ 0 → r.before ≤ r.part.start → IsChild t n r → IsGap t r.before r.part.start
first_gap t n r z w (b, cs, says, num) =
    let p = num.reached.first z in
    record {
      left = p.0 ∙ ap (λ m. inside b (drop m cs)) (sym z) ∙ sym num.reached.left;
      begins = p.1;
      back = num.reached.back;
      some = inside_positive t b cs r.before says p.0;
      order = w;
    }

-- what is known at the comma
record AtComma (t : List ℕ) (n : ℕ) (r : Numbered) (i : ℕ) : Type 0 where
  gap : IsGap t (i + 1) r.part.start
  there : i < length t
  byte : get_or t i 0 ≡ 44
  order : i + 1 ≤ r.part.start

at_comma : (t : List ℕ) (n : ℕ) (r : Numbered) (i : ℕ) → (n ≡ 0 → ⊥) → left_at t i ≡ left_at t r.before → (IsEnd t r.before → IsEnd t i) → IsSolid t i → i ≤ length t → IsChild t n r → AtComma t n r i
at_comma t n r i z l m s w (b, cs, says, num) =
    let comes : left_at t i ≡ comma ∷ inside b (drop n cs) = l ∙ num.reached.later z ∙ ap (others b) num.part.is ∙ ap (λ ds. comma ∷ inside b ds) (sym num.part.is) in
    let here = operator_by_kind t i 44 (inside b (drop n cs)) s refl comes in
    let behind : left_at t (i + 1) ≡ inside b (drop n cs) = ap tail (sym (operator_left t i 44 here.0 here.1 refl) ∙ comes) in
    let ends : IsEnd t i = m num.reached.ends in
    let less : i < r.part.start = ordered t r.part.start i (inl num.reached.begins) ends w (omega (arith, ap length num.reached.left, ap length comes)) in
    record {
      gap = record {
        left = behind ∙ sym num.reached.left;
        begins = operator_end t i here.0 (ap is_operator here.1) ends;
        back = solid_before t i 44 here.1 refl;
        some = omega arith;
        order = omega (arith, less);
      };
      there = here.0;
      byte = here.1;
      order = omega (arith, less);
    }

pub later_gap : (t : List ℕ) (n : ℕ) (r : Numbered) (i : ℕ) → (n ≡ 0 → ⊥) → left_at t i ≡ left_at t r.before → (IsEnd t r.before → IsEnd t i) → IsSolid t i → i ≤ length t → IsChild t n r → IsGap t (i + 1) r.part.start
later_gap t n r i z l m s w h = (at_comma t n r i z l m s w h).gap

pub later_order : (t : List ℕ) (n : ℕ) (r : Numbered) (i : ℕ) → (n ≡ 0 → ⊥) → left_at t i ≡ left_at t r.before → (IsEnd t r.before → IsEnd t i) → IsSolid t i → i ≤ length t → IsChild t n r → i + 1 ≤ r.part.start
later_order t n r i z l m s w h = (at_comma t n r i z l m s w h).order

pub comma_there : (t : List ℕ) (n : ℕ) (r : Numbered) (i : ℕ) → (n ≡ 0 → ⊥) → left_at t i ≡ left_at t r.before → (IsEnd t r.before → IsEnd t i) → IsSolid t i → i ≤ length t → IsChild t n r → (i < length t) × (get_or t i 0 ≡ 44)
comma_there t n r i z l m s w h = let a = at_comma t n r i z l m s w h in (a.there, a.byte)

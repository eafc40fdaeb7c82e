-- The name of a member, and its colon.
use Rattle.std.proofs.Common.{◌≡◌, ℕ, ◌+◌, ◌<◌, ◌≤◌, true, List, ◌∷◌, ◌++◌, length, drop, sym, ap, ap₂, ◌∙◌, subst, inl, inr, arith, append_assoc}
use Rattle.json.specs.Word.{is_space}
use Rattle.json.specs.Lex.{token, colon, string_token, in_string, lex}
use Rattle.json.specs.Text.{content, plain}
use Rattle.json_lexemes.specs.Places.{mode_at, left_at, Closes}
use Rattle.json_text.specs.Rows.{AreInOrder, EndsName, inside, IsMember, tree_in}
use Rattle.json_text.specs.declared.parts.Numbered.{Numbered}
use Rattle.json_lexemes.proofs.FirstBytes.{kind, byte_by_kind}
use Rattle.json_lexemes.proofs.Members.{quote_left}
use Rattle.json_lexemes.proofs.Steps.{quote_opens}
use Rattle.json_text.proofs.Stretches.{not_open}
use Rattle.json_text.proofs.Rows.Parts.{tail}
use Rattle.json_text.proofs.Rows.Splices.{ordered}

ends_there : (t : List ℕ) (n : ℕ) (r : Numbered) (k : ℕ) → IsMember t n r → AreInOrder t r.part → left_at t k ≡ lex in_string (drop (r.part.start + 1) t) → (mode_at t (r.part.start + 1) ≡ in_string → Closes t k) → r.part.start + 1 ≤ k → k ≤ length t → EndsName t r k
ends_there t n r k (cs, says, num) o l closes h w =
    let i = r.part.start in
    let whole : left_at t i ≡ inside true (num.part.child ∷ num.part.more) = num.part.left ∙ ap (inside true) num.part.is in
    let quote = byte_by_kind t i 34 o.solid (ap kind whole) (λ z. absurd (omega (arith, z))) in
    let read : left_at t i ≡ token (string_token (content plain (drop (i + 1) t))) ∷ left_at t k = quote_left t i quote.0 quote.1 ∙ ap (λ ls. token (string_token (content plain (drop (i + 1) t))) ∷ ls) (sym l) in
    let left : left_at t k ≡ colon ∷ left_at t r.part.value.start = ap tail (sym read ∙ whole) ∙ ap (λ ls. colon ∷ ls) (sym num.part.value) in
    by_closing left (closes (quote_opens t i quote.0 quote.1 num.places.begins))
  where
    by_closing : left_at t k ≡ colon ∷ left_at t r.part.value.start → Closes t k → EndsName t r k
    by_closing left (inr (e, o)) = absurd (not_open t (tree_in true cs) says o)
    by_closing left (inl (m, q)) =
        let before : k < r.part.value.start = ordered t r.part.value.start k (inl num.places.cut.begins) (inl m) w (omega (arith, ap length left)) in
        record { left = left; begins = m; back = inl (ap is_space q); behind = omega arith; order = omega (arith, before) }

pub ends_name : (t copy : List ℕ) (n : ℕ) (r : Numbered) (k : ℕ) → copy ≡ t → IsMember t n r → AreInOrder t r.part → left_at copy k ≡ lex in_string (drop (r.part.start + 1) copy) → (mode_at copy (r.part.start + 1) ≡ in_string → Closes copy k) → r.part.start + 1 ≤ k → k ≤ length copy → EndsName t r k
ends_name t copy n r k e m o l c h w =
    ends_there t n r k m o (subst (λ x. left_at x k ≡ lex in_string (drop (r.part.start + 1) x)) e l) (subst (λ x. mode_at x (r.part.start + 1) ≡ in_string → Closes x k) e c) h (subst (λ x. k ≤ length x) e w)

pub joined : (all ahead name colons whitespace q s : List ℕ) → all ≡ (ahead ++ name) ++ colons → ahead ≡ 44 ∷ whitespace → name ≡ q → colons ≡ s → all ≡ 44 ∷ (whitespace ++ (q ++ s))
joined all ahead name colons whitespace q s e a b c = e ∙ ap₂ (λ x y. (x ++ y) ++ colons) a b ∙ append_assoc (44 ∷ whitespace) q colons ∙ ap (λ x. 44 ∷ (whitespace ++ (q ++ x))) c

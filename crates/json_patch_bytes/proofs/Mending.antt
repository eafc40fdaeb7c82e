-- A text that is mended from its front.
use Rattle.std.proofs.Common.{◌≡◌, ◌≤◌, ◌+◌, ◌-◌, ℕ, zero, suc, List, [], ◌∷◌, ◌++◌, take, drop, get_or, length, inr, arith, refl, sym, subst}
use Rattle.std.proofs.Math.Seq.{take-add}
use native.Mathlib.Numerals.{unary_clauses}
use Rattle.json_patch_bytes.specs.declared.kinds.TheConstants.{UNPAIRED_SURROGATE}
use Rattle.json_patch_bytes.specs.Surrogates.{IsMended, ends, keeps, mends, IsNoJsonKind, IsSaying, StandsSurrogate}

-- one after another
pub joined : {text new s t : List ℕ} → IsMended text new → IsMended s t → IsMended (text ++ s) (new ++ t)
joined ends more = more
joined (keeps c front) more = keeps c (joined front more)
joined (mends spelled front) more = mends spelled (joined front more)

-- as it is
pub same : (s : List ℕ) → IsMended s s
same [] = ends
same (c ∷ s) = keeps c (same s)

pub kept_on : (text new : List ℕ) (n k : ℕ) → IsMended (take n text) new → IsMended (take (n + k) text) (new ++ take (n + k - n) (drop n text))
kept_on text new n k front =
    let e : n + k - n ≡ k = omega arith in
    rw e (subst (λ t. IsMended t (new ++ take k (drop n text))) (sym (take-add n k text)) (joined front (same (take k (drop n text)))))

-- the six bytes at a place
six : (text : List ℕ) (n : ℕ) → n + 6 ≤ length text
    → take 6 (drop n text) ≡ get_or text n 0 ∷ get_or text (n + 1) 0 ∷ get_or text (n + 2) 0 ∷ get_or text (n + 3) 0 ∷ get_or text (n + 4) 0 ∷ get_or text (n + 5) 0 ∷ []
six [] n h = absurd (omega (arith, h))
six (a ∷ []) zero h = absurd (omega (arith, h))
six (a ∷ b ∷ []) zero h = absurd (omega (arith, h))
six (a ∷ b ∷ c ∷ []) zero h = absurd (omega (arith, h))
six (a ∷ b ∷ c ∷ d ∷ []) zero h = absurd (omega (arith, h))
six (a ∷ b ∷ c ∷ d ∷ e ∷ []) zero h = absurd (omega (arith, h))
six (a ∷ b ∷ c ∷ d ∷ e ∷ f ∷ text) zero h = refl
six (c ∷ text) (suc n) h = let rest = six text n (omega (arith, h)) in simp unary_clauses (simp unary_clauses at rest)

pub mended_on : (text new : List ℕ) (n : ℕ) → StandsSurrogate text n → IsMended (take n text) new → IsMended (take (n + 6) text) (new ++ 92 ∷ 117 ∷ 102 ∷ 102 ∷ 102 ∷ 100 ∷ [])
mended_on text new n (room, slash, u, spelled) front =
    let end : IsMended (take 6 (drop n text)) (92 ∷ 117 ∷ 102 ∷ 102 ∷ 102 ∷ 100 ∷ []) =
    subst (λ s. IsMended s (92 ∷ 117 ∷ 102 ∷ 102 ∷ 102 ∷ 100 ∷ [])) (sym (six text n room))
    (subst (λ a. IsMended (a ∷ get_or text (n + 1) 0 ∷ get_or text (n + 2) 0 ∷ get_or text (n + 3) 0 ∷ get_or text (n + 4) 0 ∷ get_or text (n + 5) 0 ∷ []) (92 ∷ 117 ∷ 102 ∷ 102 ∷ 102 ∷ 100 ∷ [])) (sym slash)
    (subst (λ b. IsMended (92 ∷ b ∷ get_or text (n + 2) 0 ∷ get_or text (n + 3) 0 ∷ get_or text (n + 4) 0 ∷ get_or text (n + 5) 0 ∷ []) (92 ∷ 117 ∷ 102 ∷ 102 ∷ 102 ∷ 100 ∷ [])) (sym u) (mends spelled ends))) in
    subst (λ t. IsMended t (new ++ 92 ∷ 117 ∷ 102 ∷ 102 ∷ 102 ∷ 100 ∷ [])) (sym (take-add n 6 text)) (joined front end)

-- what is told where the text is JSON once it is mended
pub of_mended : (text mended : List ℕ) → IsMended text mended → IsSaying mended → IsNoJsonKind text UNPAIRED_SURROGATE
of_mended text mended is says = inr (refl, (mended, is, says))

-- A pointer that owns its text, and a token at its end.
use Rattle.std.proofs.Common.{◌≡◌, ℕ, List, [], ◌∷◌, ◌++◌, Option, length, length-append, subst, refl, sym, ap, ap₂}
use Rattle.std.proofs.Common.{◌∙◌, arith}
use Rattle.std.specs.Prelude.{String}
use Rattle.std.specs.declared.alloc.Global.{Global}
use Rattle.jsonptr.specs.Text.{encoded, text_of}
use Rattle.jsonptr.specs.Scanning.{tokens_of_text, IsOfItsTokens}
use Rattle.jsonptr.specs.Owned.{owned_text}
use Rattle.jsonptr.specs.TextLaws.{tokens_of_text-text_of}
use Rattle.jsonptr.proofs.Texts.{push_valid, push_tokens}

pub pushed_valid : (o : Option (String Global)) (t raw s' : List ℕ) → owned_text o ≡ t → s' ≡ t ++ 47 ∷ encoded raw → IsOfItsTokens (owned_text o) → IsOfItsTokens s'
pushed_valid o t raw s' a e v = subst IsOfItsTokens (sym e) (push_valid t raw (subst IsOfItsTokens a v))

pub pushed_tokens : (o : Option (String Global)) (t raw s' : List ℕ) (old : List (List ℕ)) → owned_text o ≡ t → s' ≡ t ++ 47 ∷ encoded raw → tokens_of_text (owned_text o) ≡ old → tokens_of_text s' ≡ old ++ raw ∷ []
pushed_tokens o t raw s' old a e v = ap tokens_of_text e ∙ push_tokens t raw ∙ ap (λ p. p ++ raw ∷ []) (ap tokens_of_text (sym a) ∙ v)

-- ---- another last token

-- the text of P, and then / and a token
pub last_valid : (P : List (List ℕ)) (s t raw : List ℕ) → s ≡ t ++ 47 ∷ encoded raw → t ≡ text_of P → IsOfItsTokens s
last_valid P s t raw e is =
    subst IsOfItsTokens (sym e) (push_valid t raw (subst IsOfItsTokens (sym is) (ap text_of (tokens_of_text-text_of P))))

pub last_tokens : (P : List (List ℕ)) (s t raw : List ℕ) → s ≡ t ++ 47 ∷ encoded raw → t ≡ text_of P → tokens_of_text s ≡ P ++ raw ∷ []
last_tokens P s t raw e is =
    ap tokens_of_text e ∙ push_tokens t raw ∙ ap (λ Q. Q ++ raw ∷ []) (ap tokens_of_text is ∙ tokens_of_text-text_of P)

-- where two pointers are equal, so are their tokens before the last
pub same_front : (P Q : List (List ℕ)) (a b : List ℕ) → P ++ a ∷ [] ≡ Q ++ b ∷ [] → P ≡ Q
same_front [] [] a b h = refl
same_front [] (q ∷ Q) a b h = absurd (omega (arith, ap length h, length-append Q (b ∷ [])))
same_front (p ∷ P) [] a b h = absurd (omega (arith, ap length h, length-append P (a ∷ [])))
same_front (p ∷ P) (q ∷ Q) a b h =
    let first : p ≡ q = cc in
    let rest : P ++ a ∷ [] ≡ Q ++ b ∷ [] = cc in
    ap₂ (λ x xs. x ∷ xs) first (same_front P Q a b rest)

-- The longest pointer with which two pointers start.
use Rattle.std.proofs.Common.{◌≡◌, ℕ, List, [], ◌∷◌, ◌++◌, refl, sym, ap, subst, length, ◌<◌, arith, ◌∙◌, append_assoc}
use Rattle.std.proofs.lemmas.List.{append_cancel_right}
use Rattle.std.specs.Str.Pattern.{StripsSuffix, FindsTextSuffix}
use Rattle.jsonptr.specs.Scanning.{tokens_of_text, IsOfItsTokens, BeginSame, AreApart}
use Rattle.jsonptr.specs.Text.{IsPrefix, IsLongestShared, text_of}
use Rattle.jsonptr.specs.TextLaws.{tokens_of_text-text_of}
use Rattle.jsonptr.proofs.Texts.{text_of-append}

-- P and Q start with the same tokens, and A and B are what follows
abbrev pub GoOn : List (List ℕ) → List (List ℕ) → List (List ℕ) → List (List ℕ) → Type 0
GoOn P Q A B = (S : List (List ℕ)) × (P ≡ S ++ A) × (Q ≡ S ++ B)

pub go_further : (P Q A B A' B' : List (List ℕ)) → GoOn P Q A B → BeginSame A B A' B' → GoOn P Q A' B'
go_further P Q A B A' B' (S, p, q) (t, a, b) = (
  S ++ t ∷ [],
  p ∙ ap (λ r. S ++ r) a ∙ sym (append_assoc S (t ∷ []) A'),
  q ∙ ap (λ r. S ++ r) b ∙ sym (append_assoc S (t ∷ []) B'),
)

pub goes_on_less : (A B A' B' : List (List ℕ)) → BeginSame A B A' B' → length A' < length A
goes_on_less A B A' B' (t, a, b) = omega (arith, ap length a)

joined : (s r : List ℕ) (S T : List (List ℕ)) → s ≡ r → S ≡ T → s ∷ S ≡ r ∷ T
joined s r S T e f = cc

-- no longer pointer begins both
longest : (S A B R : List (List ℕ)) → AreApart A B → IsPrefix R (S ++ A) → IsPrefix R (S ++ B) → IsPrefix R S
longest S A B [] apart a b = (S, refl)
longest [] A B (r ∷ R) apart (x, a) (y, b) = absurd (apart (R ++ x) (R ++ y) (r, a, b))
longest (s ∷ S) A B (r ∷ R) apart (x, a) (y, b) =
    let first : s ≡ r = cc in
    let k : IsPrefix R S = longest S A B R apart (x, cc) (y, cc) in (k.0, joined s r S (R ++ k.0) first k.1)

pub is_longest : (P Q A B S : List (List ℕ)) → P ≡ S ++ A → Q ≡ S ++ B → AreApart A B → IsLongestShared P Q S
is_longest P Q A B S p q apart = (
  (A, p),
  (B, q),
  λ R a b. longest S A B R apart (subst (IsPrefix R) p a) (subst (IsPrefix R) q b),
)

-- ---- the text before what is left

pub strips_end : (s n x : List ℕ) → StripsSuffix (FindsTextSuffix n) s x → s ≡ x ++ n
strips_end s n x (k, finds, is, fits) = finds.1 ∙ ap (λ a. a ++ n) (sym is)

front_text : (s r : List ℕ) (S : List (List ℕ)) → IsOfItsTokens s → IsOfItsTokens r → tokens_of_text s ≡ S ++ tokens_of_text r → s ≡ text_of S ++ r
front_text s r S v w e = sym v ∙ ap text_of e ∙ text_of-append S (tokens_of_text r) ∙ ap (λ a. text_of S ++ a) w

-- what is left is the end of the text
pub ends : (s r : List ℕ) (Q B : List (List ℕ)) → IsOfItsTokens s → IsOfItsTokens r → GoOn (tokens_of_text s) Q (tokens_of_text r) B → ((front : List ℕ) → s ≡ front ++ r → ⊥) → ⊥
ends s r Q B v w (S, p, q) never = never (text_of S) (front_text s r S v w p)

front_is : (s r x : List ℕ) (S : List (List ℕ)) → IsOfItsTokens s → IsOfItsTokens r → s ≡ x ++ r → tokens_of_text s ≡ S ++ tokens_of_text r → text_of S ≡ x
front_is s r x S v w is p = append_cancel_right (text_of S) x r (sym (front_text s r S v w p) ∙ is)

pub front_valid : (s r x : List ℕ) (Q B : List (List ℕ)) → IsOfItsTokens s → IsOfItsTokens r → s ≡ x ++ r → GoOn (tokens_of_text s) Q (tokens_of_text r) B → IsOfItsTokens x
front_valid s r x Q B v w is (S, p, q) = subst IsOfItsTokens (front_is s r x S v w is p) (ap text_of (tokens_of_text-text_of S))

pub front_longest : (s r x : List ℕ) (Q B : List (List ℕ)) → IsOfItsTokens s → IsOfItsTokens r → s ≡ x ++ r → GoOn (tokens_of_text s) Q (tokens_of_text r) B → AreApart (tokens_of_text r) B → IsLongestShared (tokens_of_text s) Q (tokens_of_text x)
front_longest s r x Q B v w is (S, p, q) apart =
    let same : S ≡ tokens_of_text x = sym (tokens_of_text-text_of S) ∙ ap tokens_of_text (front_is s r x S v w is p) in
    subst (IsLongestShared (tokens_of_text s) Q) same (is_longest (tokens_of_text s) Q (tokens_of_text r) B S p q apart)

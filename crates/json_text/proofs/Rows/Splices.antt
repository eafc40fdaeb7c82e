-- The lexemes of a stretch between two ends, and of a text with another stretch there.
use Rattle.std.proofs.Common.{◌≡◌, ◌⊎◌, ℕ, ◌+◌, ◌-◌, ◌<◌, ◌≤◌, true, ◌||◌, ◌==◌, List, [], ◌∷◌, ◌++◌, length, take, drop, get_or, refl, sym, ap, ◌∙◌, subst, inl, inr, arith, append-nil, length-append, take-append-drop, drop-drop, take-add, length-drop, length-take-le, get_or-drop, get_or-take}
use Rattle.std.proofs.lemmas.Bool.{cases_lt, eqb-true, or_cases}
use Rattle.std.proofs.lemmas.List.{drop_all, append_cancel_right, get_or_default}
use Rattle.std.proofs.Math.Seq.{take-length}
use Rattle.json.specs.Json.{Json}
use Rattle.json.specs.Word.{is_operator, is_space, ends_word}
use Rattle.json.specs.Lex.{Lexeme, Mode, between, in_word, lex}
use Rattle.json_lexemes.specs.Lexing.{after, Fits, Outside}
use Rattle.json_lexemes.specs.Places.{mode_at, left_at, HasEnd, IsEnd}
use Rattle.json_text.specs.Removed.{IsTightEnd, IsTightFront}
use Rattle.json_text.specs.Rows.{IsSolid, slice}
use Rattle.json_lexemes.specs.Spelled.{spelled, Says}
use Rattle.json_lexemes.proofs.Closed.{closed-Says}
use Rattle.json_lexemes.proofs.Steps.{after-append, each_operator, follows, ends-follows}
use Rattle.json_text.proofs.Stretches.{fits, lex-join, not_open, two_parts}

-- ---- where a word has ended, the lexer goes on as between lexemes

each_space : (P : ℕ → Type 0) → P 32 → P 9 → P 10 → P 13 → (x : ℕ) → is_space x ≡ true → P x
each_space P a b c d x h = go (or_cases _ _ h)
  where
    at : (y : ℕ) → (x == y) ≡ true → P y → P x
    at y i p = subst P (sym (eqb-true x y i)) p

    two : ((x == 32) ≡ true) ⊎ ((x == 9) ≡ true) → P x
    two (inl e) = at 32 e a
    two (inr e) = at 9 e b

    three : (((x == 32) || (x == 9)) ≡ true) ⊎ ((x == 10) ≡ true) → P x
    three (inl e) = two (or_cases _ _ e)
    three (inr e) = at 10 e c

    go : (((x == 32) || (x == 9) || (x == 10)) ≡ true) ⊎ ((x == 13) ≡ true) → P x
    go (inl e) = three (or_cases _ _ e)
    go (inr e) = at 13 e d

resumes : (x : ℕ) (xs : List ℕ) → (is_operator x || is_space x) ≡ true → after in_word (x ∷ xs) ≡ after between (x ∷ xs)
resumes x xs h = by_kind (or_cases _ _ h)
  where
    Same : ℕ → Type 0
    Same y = after in_word (y ∷ xs) ≡ after between (y ∷ xs)

    by_kind : (is_operator x ≡ true) ⊎ (is_space x ≡ true) → after in_word (x ∷ xs) ≡ after between (x ∷ xs)
    by_kind (inl o) = each_operator (λ y. after in_word (y ∷ xs) ≡ after between (y ∷ xs)) refl refl refl refl refl refl x o
    by_kind (inr s) = each_space (λ y. after in_word (y ∷ xs) ≡ after between (y ∷ xs)) refl refl refl refl x s

abbrev IsIdle : Mode → List ℕ → Type 0
IsIdle m r = (m ≡ between) ⊎ ((m ≡ in_word) × (ends_word r ≡ true))

idle_fits : (m : Mode) (r : List ℕ) → IsIdle m r → Fits m r
idle_fits m r (inl e) = subst (λ n. Fits n r) (sym e) tt
idle_fits m r (inr (e, f)) = subst (λ n. Fits n r) (sym e) f

fits_after : (s r : List ℕ) (m : Mode) → IsIdle m (s ++ r) → IsIdle (after m s) r → Fits (after between s) r
fits_after s r m (inl e) i = idle_fits (after between s) r (subst (λ n. IsIdle (after n s) r) e i)
fits_after [] r m (inr (e, f)) i = tt
fits_after (x ∷ xs) r m (inr (e, f)) i = idle_fits (after between (x ∷ xs)) r (subst (λ n. IsIdle n r) (ap (λ n. after n (x ∷ xs)) e ∙ resumes x xs f) i)

mode_from : (text : List ℕ) (i k : ℕ) → i ≤ k → mode_at text k ≡ after (mode_at text i) (slice text i k)
mode_from text i k h =
    let e : i + (k - i) ≡ k = omega arith in
    ap (after between) (ap (λ n. take n text) (sym e) ∙ take-add i (k - i) text) ∙ after-append between (take i text) (slice text i k)

slice_to_end : (text : List ℕ) (i : ℕ) → slice text i (length text) ≡ drop i text
slice_to_end text i =
    let size : length text - i ≡ length (drop i text) = omega (arith, length-drop i text) in
    ap (λ n. take n (drop i text)) size ∙ take-length (drop i text)

-- what is left at i are the lexemes of the stretch from there to k, and what is left there
pub parted : (text : List ℕ) (i k : ℕ) → IsEnd text i → IsEnd text k → i ≤ k → k ≤ length text → left_at text i ≡ lex between (slice text i k) ++ left_at text k
unfolding lex
parted text i k begins ends h w = by_end begins ends
  where
    joined : Fits (after between (slice text i k)) (drop k text) → left_at text i ≡ lex between (slice text i k) ++ left_at text k
    joined f = ap (lex between) (sym (two_parts text i k h)) ∙ lex-join (slice text i k) (drop k text) f

    all : k ≡ length text → left_at text i ≡ lex between (slice text i k) ++ left_at text k
    all e =
        let none : left_at text k ≡ [] = ap (lex between) (drop_all k text (omega (arith, e))) in
        ap (lex between) (sym (slice_to_end text i)) ∙ ap (λ n. lex between (slice text i n)) (sym e) ∙ sym (append-nil (lex between (slice text i k))) ∙ ap (λ l. lex between (slice text i k) ++ l) (sym none)

    idle : IsIdle (mode_at text i) (drop i text) → IsIdle (mode_at text k) (drop k text) → left_at text i ≡ lex between (slice text i k) ++ left_at text k
    idle p q =
        joined (fits_after (slice text i k) (drop k text) (mode_at text i) (subst (IsIdle (mode_at text i)) (sym (two_parts text i k h)) p) (subst (λ n. IsIdle n (drop k text)) (mode_from text i k h) q))

    by_end : IsEnd text i → IsEnd text k → left_at text i ≡ lex between (slice text i k) ++ left_at text k
    by_end p (inr (inr e)) = all e
    by_end (inr (inr e)) q = all (omega (arith, e, h, w))
    by_end (inl p) (inl q) = idle (inl p) (inl q)
    by_end (inl p) (inr (inl q)) = idle (inl p) (inr q)
    by_end (inr (inl p)) (inl q) = idle (inr p) (inl q)
    by_end (inr (inl p)) (inr (inl q)) = idle (inr p) (inr q)

pub slice_lexes : (text : List ℕ) (i k : ℕ) (a : List Lexeme) → IsEnd text i → IsEnd text k → left_at text i ≡ a ++ left_at text k → i ≤ k → k ≤ length text → lex between (slice text i k) ≡ a
slice_lexes text i k a begins ends left h w = append_cancel_right (lex between (slice text i k)) a (left_at text k) (sym (parted text i k begins ends h w) ∙ left)

-- where more is left, is before where less is
pub ordered : (text : List ℕ) (i k : ℕ) → IsEnd text i → IsEnd text k → k ≤ length text → length (left_at text i) < length (left_at text k) → k < i
ordered text i k begins ends w more = by_place (cases_lt k i)
  where
    by_place : (k < i) ⊎ (i ≤ k) → k < i
    by_place (inl h) = h
    by_place (inr h) = absurd (omega (arith, more, ap length (parted text i k begins ends h w), length-append (lex between (slice text i k)) (left_at text k)))

-- ---- another stretch

pub outside_end : (text : List ℕ) (j : Json) (i : ℕ) → Says text j → IsEnd text i → Outside (mode_at text i)
outside_end text j i says (inl e) = subst Outside (sym e) tt
outside_end text j i says (inr (inl (e, f))) = subst Outside (sym e) tt
outside_end text j i says (inr (inr e)) = subst Outside (sym (ap (after between) (ap (λ n. take n text) e ∙ take-length text))) (closed-Says text j says)

fits_end : (text : List ℕ) (j : Json) (i : ℕ) → Says text j → IsEnd text i → Fits (mode_at text i) (drop i text)
fits_end text j i says (inl e) = subst (λ n. Fits n (drop i text)) (sym e) tt
fits_end text j i says (inr (inl (e, f))) = subst (λ n. Fits n (drop i text)) (sym e) f
fits_end text j i says (inr (inr e)) =
    let none : drop i text ≡ [] = drop_all i text (omega (arith, e)) in
    fits (mode_at text i) (drop i text) (outside_end text j i says (inr (inr e))) (ap ends_word none)

-- what follows may come here: no lexeme is open, or one ends
abbrev pub MayGoOn : List ℕ → ℕ → List ℕ → Type 0
MayGoOn text i r = (mode_at text i ≡ between) ⊎ (follows (lex between r) ≡ true)

-- with something else behind i
pub kept_front : (text r : List ℕ) (a : List Lexeme) (j : Json) (i : ℕ) → Says text j → IsEnd text i → spelled j ≡ a ++ left_at text i → MayGoOn text i r → lex between (take i text ++ r) ≡ a ++ lex between r
kept_front text r a j i says e whole m =
    let joined : lex between text ≡ lex between (take i text) ++ left_at text i = ap (lex between) (sym (take-append-drop i text)) ∙ lex-join (take i text) (drop i text) (fits_end text j i says e) in
    let before : lex between (take i text) ≡ a = append_cancel_right (lex between (take i text)) a (left_at text i) (sym joined ∙ says ∙ whole) in
    lex-join (take i text) r (may_fit m) ∙ ap (λ b. b ++ lex between r) before
  where
    may_fit : MayGoOn text i r → Fits (mode_at text i) r
    may_fit (inl b) = subst (λ n. Fits n r) (sym b) tt
    may_fit (inr g) = fits (mode_at text i) r (outside_end text j i says e) (ends-follows r g)

pub front_lexes : (text : List ℕ) (a : List Lexeme) (j : Json) (i : ℕ) → Says text j → IsEnd text i → spelled j ≡ a ++ left_at text i → lex between (take i text) ≡ a
front_lexes text a j i says e whole =
    append_cancel_right (lex between (take i text)) a (left_at text i)
    (sym (ap (lex between) (sym (take-append-drop i text)) ∙ lex-join (take i text) (drop i text) (fits_end text j i says e)) ∙ says ∙ whole)

pub respliced : (text u : List ℕ) (a : List Lexeme) (j : Json) (i k : ℕ) → Says text j → IsEnd text i → spelled j ≡ a ++ left_at text i → MayGoOn text i (u ++ drop k text) → Fits (after between u) (drop k text)
    → lex between (take i text ++ (u ++ drop k text)) ≡ a ++ (lex between u ++ left_at text k)
respliced text u a j i k says e whole m f = kept_front text (u ++ drop k text) a j i says e whole m ∙ ap (λ l. a ++ l) (lex-join u (drop k text) f)

-- ---- edges

pub something_there : (text : List ℕ) (i : ℕ) → 0 < length (left_at text i) → i < length text
unfolding lex
something_there text i e = by_place (cases_lt i (length text))
  where
    by_place : (i < length text) ⊎ (length text ≤ i) → i < length text
    by_place (inl h) = h
    by_place (inr h) = absurd (omega (arith, ap length (ap (lex between) (drop_all i text h)), e))

first_of : (text : List ℕ) (i k : ℕ) → i < k → get_or (slice text i k) 0 32 ≡ get_or text i 32
first_of text i k h = get_or-take (k - i) (drop i text) 0 32 (omega arith) ∙ get_or-drop i text 0 32 ∙ ap (λ n. get_or text n 32) (omega arith)

pub tight_front : (text : List ℕ) (i k : ℕ) → IsSolid text i → i < k → i < length text → IsTightFront (slice text i k)
tight_front text i k s h w = ap is_space (first_of text i k h ∙ get_or_default text i 32 0 w) ∙ s w

pub tight_behind : (text : List ℕ) (i : ℕ) → IsSolid text i → i < length text → IsTightFront (drop i text)
tight_behind text i s w =
    let here : i + 0 ≡ i = omega arith in
    ap is_space (get_or-drop i text 0 32 ∙ ap (λ n. get_or text n 32) here ∙ get_or_default text i 32 0 w) ∙ s w

pub tight_end : (text : List ℕ) (j : Json) (i : ℕ) → Says text j → 0 < i → i ≤ length text → HasEnd text i → IsTightEnd (take i text)
tight_end text j i says p w (inr o) = absurd (not_open text j says o)
tight_end text j i says p w (inl s) =
    let size : length (take i text) ≡ i = length-take-le i text w in
    ap is_space (ap (λ n. get_or (take i text) (n - 1) 32) size ∙ get_or-take i text (i - 1) 32 (omega arith) ∙ get_or_default text (i - 1) 32 0 (omega arith)) ∙ s

pub tight_slice_end : (text : List ℕ) (j : Json) (a i : ℕ) → Says text j → a < i → i ≤ length text → HasEnd text i → IsTightEnd (slice text a i)
tight_slice_end text j a i says p w (inr o) = absurd (not_open text j says o)
tight_slice_end text j a i says p w (inl s) =
    let size : length (slice text a i) ≡ i - a = length-take-le (i - a) (drop a text) (omega (arith, length-drop a text)) in
    let place : a + (i - a - 1) ≡ i - 1 = omega arith in
    ap is_space (ap (λ n. get_or (slice text a i) (n - 1) 32) size ∙ get_or-take (i - a) (drop a text) (i - a - 1) 32 (omega arith) ∙ get_or-drop a text (i - a - 1) 32 ∙ ap (λ n. get_or text n 32) place ∙ get_or_default text (i - 1) 32 0 (omega arith)) ∙ s

-- ---- two stretches beside each other

pub beside : (text : List ℕ) (i k m : ℕ) → i ≤ k → k ≤ m → slice text i k ++ slice text k m ≡ slice text i m
beside text i k m h l =
    let e : i + (k - i) ≡ k = omega arith in
    let f : (k - i) + (m - k) ≡ m - i = omega arith in
    ap (λ x. slice text i k ++ x) (ap (take (m - k)) (ap (λ n. drop n text) (sym e) ∙ sym (drop-drop (k - i) i text)))
    ∙ sym (take-add (k - i) (m - k) (drop i text)) ∙ ap (λ n. take n (drop i text)) f

pub before_slice : (text : List ℕ) (i k : ℕ) → i ≤ k → take i text ++ slice text i k ≡ take k text
before_slice text i k h =
    let e : i + (k - i) ≡ k = omega arith in
    sym (take-add i (k - i) text) ∙ ap (λ n. take n text) e

pub empty_slice : (text : List ℕ) (i k : ℕ) → k ≡ i → slice text i k ≡ []
empty_slice text i k e =
    let none : k - i ≡ 0 = omega (arith, e) in
    ap (λ n. take n (drop i text)) none

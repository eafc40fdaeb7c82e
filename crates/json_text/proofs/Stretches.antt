-- In a text: the stretch of a child, by the places where it begins and ends.
use Rattle.std.proofs.Common.{◌≡◌, ◌⊎◌, ℕ, ◌+◌, ◌-◌, ◌<◌, ◌≤◌, true, false, List, [], ◌++◌, length, take, drop, get_or, refl, sym, ap, ap₂, ◌∙◌, subst, inl, inr, arith, append-nil, take-append-drop, drop-drop, take-add, length-drop, length-take-le, get_or-drop, get_or-take}
use Rattle.std.proofs.lemmas.Bool.{cases_lt}
use Rattle.std.proofs.lemmas.List.{drop_all, append_cancel_right, get_or_default}
use Rattle.std.proofs.Math.Seq.{take-length}
use Rattle.json.specs.Json.{Json}
use Rattle.json.specs.Word.{is_space, ends_word}
use Rattle.json.specs.Lex.{Lexeme, Mode, between, in_word, in_string, in_escape, lex}
use Rattle.json.proofs.Printed.Numbers.{in_word-ended}
use Rattle.jsonptr.specs.Text.{Pointer}
use Rattle.json_lexemes.specs.Lexing.{after, Fits, Outside}
use Rattle.json_lexemes.specs.Found.{IsCut, IsWithin}
use Rattle.json_lexemes.specs.Places.{mode_at, left_at, HasEnd, IsEnd, IsOpen}
use Rattle.json_text.specs.Pointed.{IsStretch, IsTight, IsWrittenAt, StandsBetween}
use Rattle.json_text.specs.Rows.{slice}
use Rattle.json_lexemes.specs.Spelled.{spelled, Says}
use Rattle.json_lexemes.specs.declared.span.Span.{Span}
use Rattle.json_text.proofs.Around.{Around}
use Rattle.json_lexemes.proofs.Closed.{closed-Says}
use Rattle.json_lexemes.proofs.Counted.{some_lexeme}
use Rattle.json_lexemes.proofs.Lexing.{lex-append}
use Rattle.json_lexemes.proofs.Steps.{after-append, follows, ends-follows}

-- ---- two texts, one after the other

pub fits : (m : Mode) (r : List ℕ) → Outside m → ends_word r ≡ true → Fits m r
fits between r o e = tt
fits in_word r o e = e
fits in_string r o e = o
fits in_escape r o e = o

-- after a mode that leaves no string open the lexer goes on as between lexemes
goes_on : (m : Mode) (r : List ℕ) → Fits m r → lex m r ≡ lex between r
goes_on between r f = refl
goes_on in_word r f = in_word-ended r f
goes_on in_string r f = absurd f
goes_on in_escape r f = absurd f

pub lex-join : (a r : List ℕ) → Fits (after between a) r → lex between (a ++ r) ≡ lex between a ++ lex between r
lex-join a r f = lex-append between a r f ∙ ap (λ l. lex between a ++ l) (goes_on (after between a) r f)

-- ---- the stretch

pub two_parts : (text : List ℕ) (i k : ℕ) → i ≤ k → slice text i k ++ drop k text ≡ drop i text
two_parts text i k h =
    let e : i + (k - i) ≡ k = omega arith in
    ap (λ l. slice text i k ++ l) (sym (drop-drop (k - i) i text ∙ ap (λ n. drop n text) e)) ∙ take-append-drop (k - i) (drop i text)

pub mode_between : (text : List ℕ) (i k : ℕ) → i ≤ k → mode_at text i ≡ between → mode_at text k ≡ after between (slice text i k)
mode_between text i k h m =
    let e : i + (k - i) ≡ k = omega arith in
    ap (after between) (ap (λ n. take n text) (sym e) ∙ take-add i (k - i) text) ∙ after-append between (take i text) (slice text i k) ∙ ap (λ n. after n (slice text i k)) m

pub slice_says : (text : List ℕ) (i k : ℕ) (v : Json) (ls : List Lexeme) → mode_at text i ≡ between → left_at text i ≡ spelled v ++ ls → left_at text k ≡ ls → IsEnd text k → i ≤ k → k ≤ length text → Says (slice text i k) v
unfolding lex
slice_says text i k v ls m at left ends h w = by_end ends
  where
    joined : Fits (after between (slice text i k)) (drop k text) → Says (slice text i k) v
    joined f =
        append_cancel_right (lex between (slice text i k)) (spelled v) (left_at text k)
        (sym (lex-join (slice text i k) (drop k text) f) ∙ ap (lex between) (two_parts text i k h) ∙ at ∙ ap (λ l. spelled v ++ l) (sym left))

    by_end : IsEnd text k → Says (slice text i k) v
    by_end (inl e) = joined (subst (λ n. Fits n (drop k text)) (sym e ∙ mode_between text i k h m) tt)
    by_end (inr (inl (e, f))) = joined (subst (λ n. Fits n (drop k text)) (sym e ∙ mode_between text i k h m) f)
    by_end (inr (inr e)) =
        let size : k - i ≡ length (drop i text) = omega (arith, e, length-drop i text) in
        let none : ls ≡ [] = sym left ∙ ap (lex between) (drop_all k text (omega (arith, e))) in
        ap (lex between) (ap (λ n. take n (drop i text)) size ∙ take-length (drop i text)) ∙ at ∙ ap (λ l. spelled v ++ l) none ∙ append-nil (spelled v)

pub not_empty : (text : List ℕ) (i k : ℕ) (v : Json) → Says (slice text i k) v → i < k
unfolding lex
not_empty text i k v says = by_size (cases_lt i k)
  where
    by_size : (i < k) ⊎ (k ≤ i) → i < k
    by_size (inl h) = h
    by_size (inr h) =
        let e : k - i ≡ 0 = omega arith in
        let none : [] ≡ spelled v = sym (ap (λ n. lex between (take n (drop i text))) e) ∙ says in
        absurd (omega (arith, ap length none, some_lexeme v))

pub not_open : (text : List ℕ) (j : Json) → Says text j → IsOpen text → ⊥
not_open text j says left = left (subst (λ t. Outside (after between t)) (sym (take-length text)) (closed-Says text j says))

pub tight : (text : List ℕ) (j : Json) (s : Span) → Says text j → IsCut text s → s.start < s.end → s.end ≤ length text → IsTight (slice text s.start s.end)
tight text j s says c h w =
    let i = s.start in
    let k = s.end in
    let size : length (slice text i k) ≡ k - i = length-take-le (k - i) (drop i text) (omega (arith, length-drop i text)) in
    let first : get_or (slice text i k) 0 32 ≡ get_or text i 0 =
    get_or-take (k - i) (drop i text) 0 32 (omega arith) ∙ get_or-drop i text 0 32 ∙ ap (λ n. get_or text n 32) (omega arith) ∙ get_or_default text i 32 0 (omega arith) in
    let place : i + (length (slice text i k) - 1) ≡ k - 1 = omega (arith, size) in
    let last : get_or (slice text i k) (length (slice text i k) - 1) 32 ≡ get_or text (k - 1) 0 =
    get_or-take (k - i) (drop i text) _ 32 (omega (arith, size)) ∙ get_or-drop i text _ 32 ∙ ap (λ n. get_or text n 32) place ∙ get_or_default text (k - 1) 32 0 (omega arith) in
    (ap is_space first ∙ c.front (omega arith), ap is_space last ∙ by_back c.back)
  where
    by_end : HasEnd text s.end → is_space (get_or text (s.end - 1) 0) ≡ false
    by_end (inl e) = e
    by_end (inr o) = absurd (not_open text j says o)

    by_back : (s.end ≡ s.start) ⊎ HasEnd text s.end → is_space (get_or text (s.end - 1) 0) ≡ false
    by_back (inl e) = absurd (omega (arith, e))
    by_back (inr e) = by_end e

-- the text with another value's text in the place of the stretch
exchanged : (text u : List ℕ) (j v w : Json) (ls : List Lexeme) (put : Json → Json) (i k : ℕ) → Says text j → Around v ls (spelled j) (λ x. spelled (put x)) → mode_at text i ≡ between → left_at text i ≡ spelled v ++ ls → left_at text k ≡ ls → follows ls ≡ true
    → Says u w → Says (take i text ++ (u ++ drop k text)) (put w)
exchanged text u j v w ls put i k says a m at left f new =
    let begins : (r : List ℕ) → Fits (after between (take i text)) r = λ r. subst (λ n. Fits n r) (sym m) tt in
    let joined : lex between text ≡ lex between (take i text) ++ left_at text i = ap (lex between) (sym (take-append-drop i text)) ∙ lex-join (take i text) (drop i text) (begins (drop i text)) in
    let all : lex between (take i text) ++ (spelled v ++ ls) ≡ a.before ++ (spelled v ++ ls) = ap (λ l. lex between (take i text) ++ l) (sym at) ∙ sym joined ∙ says ∙ a.is in
    let before : lex between (take i text) ≡ a.before = append_cancel_right _ _ (spelled v ++ ls) all in
    let second : Fits (after between u) (drop k text) = fits (after between u) (drop k text) (closed-Says u w new) (ends-follows (drop k text) (ap follows left ∙ f)) in
    lex-join (take i text) (u ++ drop k text) (begins (u ++ drop k text)) ∙ ap₂ (λ b l. b ++ l) before (lex-join u (drop k text) second ∙ ap₂ (λ l r. l ++ r) new left) ∙ sym (a.there w)

pub stretch : (text : List ℕ) (j v : Json) (ls : List Lexeme) (put : Json → Json) (s : Span) → Says text j → Around v ls (spelled j) (λ x. spelled (put x)) → follows ls ≡ true
    → left_at text s.start ≡ spelled v ++ ls → left_at text s.end ≡ ls → IsCut text s → s.start ≤ s.end → s.end ≤ length text → IsStretch (take s.start text) (slice text s.start s.end) (drop s.end text) v put
stretch text j v ls put s says a f at left c h w =
    let i = s.start in
    let k = s.end in
    let there : Says (slice text i k) v = slice_says text i k v ls c.begins at left c.ends h w in
    record {
      says = there;
      tight = tight text j s says c (not_empty text i k v there) w;
      alone = λ new x. exchanged text new j v x ls put i k says a c.begins at left f;
    }

-- for the code, which hands out a copy of the stretch
pub cut_out : (text : List ℕ) (j : Json) (P : Pointer) (s : Span) (out : List ℕ) → IsWithin text s → out ≡ slice text s.start s.end → StandsBetween (take s.start text) (slice text s.start s.end) (drop s.end text) j P → IsWrittenAt text j P out
cut_out text j P s out w e p =
    let whole : text ≡ take s.start text ++ (slice text s.start s.end ++ drop s.end text) = sym (ap (λ l. take s.start text ++ l) (two_parts text s.start s.end w.order) ∙ take-append-drop s.start text) in
    subst (IsWrittenAt text j P) (sym e) (take s.start text, drop s.end text, whole, p)

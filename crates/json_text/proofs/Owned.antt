-- An element of an array that stands in a longer text, reached by a step that is known there.
use Rattle.std.proofs.Common.{◌≡◌, ◌⊎◌, ℕ, zero, suc, ◌+◌, ◌-◌, ◌<◌, ◌≤◌, true, false, List, [], ◌∷◌, ◌++◌, length, take, drop, get_or, Option, Some, None, refl, sym, ap, ◌∙◌, subst, inl, inr, arith, drop-drop, take-add, take-append-drop, get_or-drop, length-append, length-take, length-drop, append_assoc}
use Rattle.std.proofs.lemmas.List.{append_cancel_right, get_or_append_left, get_or_default}
use Rattle.std.proofs.lemmas.List.Elements.{All-nil, All-weaker}
use Rattle.std.proofs.lemmas.Bool.{or_cases, true≢false}
use Rattle.std.proofs.lemmas.Str.{IsCharBoundary-after_ascii}
use Rattle.std.proofs.Math.Seq.{drop-append-add, drop-append-le, take-append-le, take-append_seam}
use Rattle.std.specs.Prelude.{◌||◌, All, IfSome}
use Rattle.std.specs.Str.{IsCharBoundary}
use Rattle.json.specs.Json.{Json}
use Rattle.json.specs.Lex.{Mode, between, in_word, in_string, in_escape, operator, class, comma, token, lex}
use Rattle.json.specs.Token as tokens
use Rattle.json.specs.Word.{ends_word, is_operator, is_space}
use Rattle.json_lexemes.specs.Blocks.{is_closing}
use Rattle.json_lexemes.specs.Found.{IsCut, later}
use Rattle.json_lexemes.specs.Lexing.{after, Fits, Outside, next_mode, restarts}
use Rattle.json_lexemes.specs.Places.{mode_at, left_at, IsEnd}
use Rattle.json_lexemes.specs.Signposts.{ArePlaces, AreSeenFrom, IsPassed, IsStep, seen_from}
use Rattle.json_lexemes.specs.Skipped.{skip}
use Rattle.json_lexemes.specs.Spelled.{first_elements, Says}
use Rattle.json_lexemes.specs.declared.signposts.Places.{Places}
use Rattle.json_lexemes.specs.declared.signposts.Step.{Step}
use Rattle.json_lexemes.specs.declared.span.Span.{Span}
use Rattle.json_lexemes.proofs.Closed.{closed-Says}
use Rattle.json_lexemes.proofs.FirstBytes.{kind, byte_by_kind}
use Rattle.json_lexemes.proofs.Ascii.{operator_ascii}
use Rattle.json_lexemes.proofs.Passed.{closing_operator}
use Rattle.json_lexemes.proofs.Skipping.{skip_before}
use Rattle.json_lexemes.proofs.Steps.{after-append, ends_by_end, ends_by_operator, mode_step, operator_class, operator_left, space_class}
use Rattle.json_text.specs.Owned.{IsApart, IsInner}
use Rattle.json_text.specs.Ways.{IsPlace}
use Rattle.json_text.specs.Rows.{Child, IsInside, IsNext, IsSolid, elements_in, inside, others, slice, tree_in}
use Rattle.json_text.proofs.Rows.Trees.{first_elements_in, spelled_in}
use Rattle.json_text.proofs.Stretches.{fits, lex-join, mode_between, two_parts}

-- ---- what stands around it

pub own_slice : (a t b : List ℕ) → t ≡ slice (a ++ (t ++ b)) (length a) (length a + length t)
own_slice a t b =
    let size : length a + length t - length a ≡ length t = omega arith in
    let none : length a + 0 ≡ length a = omega arith in
    sym (ap (λ n. take n (drop (length a) (a ++ (t ++ b)))) size ∙ ap (take (length t)) (ap (λ n. drop n (a ++ (t ++ b))) (sym none) ∙ drop-append-add a (t ++ b) 0) ∙ take-append_seam t b)

pub own_fits : (a t b : List ℕ) → length a + length t ≤ length (a ++ (t ++ b))
own_fits a t b = omega (arith, length-append a (t ++ b), length-append t b)

pub own_at : (t a b d : List ℕ) (s : Span) → a ++ (b ++ d) ≡ t → length a ≡ s.start → length a + length b ≡ s.end → IsApart t s → IsApart (a ++ (b ++ d)) (record { start = length a; end = length a + length b })
own_at t a b d s e f g h =
    subst (λ x. IsApart x (record { start = length a; end = length a + length b })) (sym e)
    (record { begins = subst (λ n. mode_at t n ≡ between) (sym f) h.begins; ends = subst (λ n. (mode_at t n ≡ between) ⊎ (ends_word (drop n t) ≡ true)) (sym g) h.ends })

pub joined : (a p x y z q b s0 s1 s2 s3 s4 s5 s6 s7 : List ℕ) → s0 ≡ [] → s1 ≡ s0 ++ a → s2 ≡ s1 ++ p → s3 ≡ s2 ++ x → s4 ≡ s3 ++ y → s5 ≡ s4 ++ z → s6 ≡ s5 ++ q → s7 ≡ s6 ++ b → s7 ≡ a ++ ((p ++ (x ++ (y ++ (z ++ q)))) ++ b)
joined a p x y z q b s0 s1 s2 s3 s4 s5 s6 s7 h0 h1 h2 h3 h4 h5 h6 h7 =
    h7 ∙ ap (λ s. s ++ b) (h6 ∙ ap (λ s. s ++ q) (h5 ∙ ap (λ s. s ++ z) (h4 ∙ ap (λ s. s ++ y) (h3 ∙ ap (λ s. s ++ x) (h2 ∙ ap (λ s. s ++ p) (h1 ∙ ap (λ s. s ++ a) h0))))))
    ∙ simp append_assoc

-- ---- before a comma

comma_mode : (m : Mode) → next_mode m operator ≡ between → (m ≡ between) ⊎ (m ≡ in_word)
comma_mode between e = inl refl
comma_mode in_word e = inr refl
comma_mode in_string e = cc
comma_mode in_escape e = cc

comma_end : (t : List ℕ) (i : ℕ) → i < length t → get_or t i 0 ≡ 44 → mode_at t (i + 1) ≡ between → IsEnd t i
comma_end t i l e m = by_mode (comma_mode (mode_at t i) (sym (mode_step t i l ∙ ap (next_mode (mode_at t i)) (operator_class (get_or t i 0) (ap is_operator e))) ∙ m))
  where
    by_mode : (mode_at t i ≡ between) ⊎ (mode_at t i ≡ in_word) → IsEnd t i
    by_mode (inl f) = inl f
    by_mode (inr f) = inr (inl (f, ends_by_operator t i l (ap is_operator e)))

-- ---- what is found

pub apart_cut : (t : List ℕ) (s : Span) → IsCut t s → IsApart t s
apart_cut t s h = record { begins = h.begins; ends = by_end h.ends }
  where
    by_end : IsEnd t s.end → (mode_at t s.end ≡ between) ⊎ (ends_word (drop s.end t) ≡ true)
    by_end (inl e) = inl e
    by_end (inr (inl (e, f))) = inr f
    by_end (inr (inr e)) = inr (ends_by_end t s.end (omega (arith, e)))

pub apart_places : (t : List ℕ) (found : Option Span) → IsPlace t found → IfSome found (IsApart t)
apart_places t None h = tt
apart_places t (Some s) h = apart_cut t s h.0

-- ---- elements

later_in : (n : ℕ) (cs : List Child) → later n (elements_in cs) ≡ elements_in (drop n cs)
later_in zero cs = refl
later_in (suc n) [] = refl
later_in (suc n) (c ∷ cs) = later_in n cs

-- ---- where the lexer goes on as between lexemes

ends_next : (y : ℕ) → (is_operator y || is_space y) ≡ true → next_mode in_word (class y) ≡ next_mode between (class y)
ends_next y e = by_kind (or_cases _ _ e)
  where
    by_kind : (is_operator y ≡ true) ⊎ (is_space y ≡ true) → next_mode in_word (class y) ≡ next_mode between (class y)
    by_kind (inl o) = ap (next_mode in_word) (operator_class y o) ∙ sym (ap (next_mode between) (operator_class y o))
    by_kind (inr o) = ap (next_mode in_word) (space_class y o) ∙ sym (ap (next_mode between) (space_class y o))

fits_again : (m : Mode) (x r : List ℕ) → restarts m x ≡ true → Fits (after m x) r → Fits (after between x) r
fits_again between x r e f = f
fits_again in_word [] r e f = tt
fits_again in_word (y ∷ ys) r e f = subst (λ n. Fits (after n ys) r) (ends_next y e) f
fits_again in_string x r e f = absurd (true≢false (sym e))
fits_again in_escape x r e f = absurd (true≢false (sym e))

restarts_alone : (m : Mode) (x r : List ℕ) → restarts m (x ++ r) ≡ true → restarts m x ≡ true
restarts_alone between x r e = e
restarts_alone in_word [] r e = refl
restarts_alone in_word (y ∷ ys) r e = e
restarts_alone in_string x r e = e
restarts_alone in_escape x r e = e

-- ---- the text t within w

module _ (w t : List ℕ) (i k : ℕ) (order : i ≤ k) (within : k ≤ length w) (is : t ≡ slice w i k) (begins : mode_at w i ≡ between) (ends : (mode_at w k ≡ between) ⊎ (ends_word (drop k w) ≡ true)) where
  whole : t ++ drop k w ≡ drop i w
  whole = ap (λ x. x ++ drop k w) is ∙ two_parts w i k order

  behind : (q : ℕ) → q ≤ length t → drop (i + q) w ≡ drop q t ++ drop k w
  behind q l = sym (drop-drop q i w) ∙ ap (drop q) (sym whole) ∙ drop-append-le q t (drop k w) l

  mode_here : (q : ℕ) → q ≤ length t → mode_at w (i + q) ≡ mode_at t q
  mode_here q l =
      ap (after between) (take-add i q w) ∙ after-append between (take i w) (take q (drop i w)) ∙ ap (λ m. after m (take q (drop i w))) begins
      ∙ ap (λ x. after between (take q x)) (sym whole) ∙ ap (after between) (take-append-le q t (drop k w) l)

  left_here : (q : ℕ) (v : Json) → Says t v → q ≤ length t → restarts (mode_at t q) (drop q t) ≡ true → left_at w (i + q) ≡ left_at t q ++ left_at w k
  left_here q v says l m =
      ap (lex between) (behind q l) ∙ lex-join (drop q t) (drop k w) (fits_again (mode_at t q) (drop q t) (drop k w) m (fit ends))
    where
      to_end : after between t ≡ after (mode_at t q) (drop q t)
      to_end = ap (after between) (sym (take-append-drop q t)) ∙ after-append between (take q t) (drop q t)

      fit : (mode_at w k ≡ between) ⊎ (ends_word (drop k w) ≡ true) → Fits (after (mode_at t q) (drop q t)) (drop k w)
      fit (inl e) = subst (λ n. Fits n (drop k w)) (sym e ∙ mode_between w i k order begins ∙ ap (after between) (sym is) ∙ to_end) tt
      fit (inr e) = fits (after (mode_at t q) (drop q t)) (drop k w) (subst Outside to_end (closed-Says t v says)) e

  byte_here : (q : ℕ) → q < length t → get_or w (i + q) 0 ≡ get_or t q 0
  byte_here q l = sym (get_or-drop i w q 0) ∙ ap (λ x. get_or x q 0) (sym whole) ∙ get_or_append_left t (drop k w) 0 q l

  -- what ends within t
  pub passed_here : (v : Json) (a b : ℕ) → Says t v → 0 < b → a ≤ b → b ≤ length t → IsPassed w (record { start = i + a; end = i + b }) → IsPassed t (record { start = a; end = b })
  passed_here v a b says some low fits p =
      let starts : restarts (mode_at t a) (drop a t) ≡ true = restarts_alone (mode_at t a) (drop a t) (drop k w) (ap (λ m. restarts m (drop a t ++ drop k w)) (sym (mode_here a (omega arith))) ∙ ap (restarts (mode_at w (i + a))) (sym (behind a (omega arith))) ∙ p.from) in
      let ends_between : mode_at t b ≡ between = sym (mode_here b fits) ∙ p.begins in
      let last : i + b - 1 ≡ i + (b - 1) = omega (arith, some) in
      let there : b - 1 + 1 ≡ b = omega (arith, some) in
      let bracket : is_closing (get_or t (b - 1) 0) ≡ true = ap is_closing (sym (byte_here (b - 1) (omega (arith, some, fits))) ∙ ap (λ n. get_or w n 0) (sym last)) ∙ p.bracket in
      record {
        order = low;
        fits = fits;
        left = sym (skip_before 0 (left_at t a) (left_at t b) (left_at w k) (ap (skip 0) (sym (left_here a v says (omega arith) starts)) ∙ sym p.left ∙ left_here b v says fits (ap (λ m. restarts m (drop b t)) ends_between)));
        from = starts;
        begins = ends_between;
        bracket = bracket;
        boundary = λ u. subst (IsCharBoundary t) there (IsCharBoundary-after_ascii t (b - 1) u (omega (arith, some, fits)) (operator_ascii _ (closing_operator (get_or t (b - 1) 0) bracket)));
      }

  module _ (s : Step) (p first start : ℕ) (step : IsStep w s) (array : s.array ≡ i) (place : s.place ≡ i + p) (inner : 1 < p) (fits_in : p < length t) (mark : get_or t (p - 1) 0 ≡ 44) (solid : is_space (get_or t (p - 2) 0) ≡ false) (some : 0 < s.number)
      (bracket : get_or t 0 0 ≡ 91) (first_left : left_at t first ≡ left_at t 1) (first_solid : IsSolid t first) (no_first : get_or t first 32 ≡ 93 → ⊥)
      (start_left : left_at t start ≡ left_at t p) (start_mode : mode_at t p ≡ between → mode_at t start ≡ between) (start_solid : IsSolid t start) (no_start : get_or t start 32 ≡ 93 → ⊥) where
    here_mode : mode_at t p ≡ between
    here_mode = sym (mode_here p (omega arith)) ∙ ap (mode_at w) (sym place) ∙ step.begins

    no_end : (q : ℕ) → IsSolid t q → (get_or t q 32 ≡ 93 → ⊥) → left_at t q ≡ inside false [] → ⊥
    no_end q stops other e = let b = byte_by_kind t q 93 stops (ap kind e) (λ z. absurd (omega (arith, z))) in other (get_or_default t q 32 0 b.0 ∙ b.1)

    left_there : (cs : List Child) → IsInside t false cs 1 → left_at t p ≡ inside false (drop s.number cs)
    left_there [] h = absurd (no_end first first_solid no_first (first_left ∙ h.0))
    left_there (c ∷ cs) h =
        let all = c ∷ cs in
        let says : Says t (tree_in false all) = operator_left t 0 91 (omega arith) bracket refl ∙ ap (λ l. token tokens.begin_array ∷ l) h.0 ∙ sym (spelled_in false all) in
        let front : get_or w s.array 0 ≡ 91 = ap (λ a. get_or w a 0) array ∙ in_whole ∙ bracket in
        let one : left_at w (s.array + 1) ≡ first_elements (elements_in all) ++ left_at w k = ap (λ a. left_at w (a + 1)) array ∙ left_here 1 (tree_in false all) says (omega arith) (ap (λ m. restarts m (drop 1 t)) h.1) ∙ ap (λ l. l ++ left_at w k) (h.0 ∙ sym (first_elements_in all)) in
        let there = step.ahead front c.1 (elements_in cs) (left_at w k) one in
        append_cancel_right (left_at t p) (inside false (drop s.number all)) (left_at w k)
        (sym (left_here p (tree_in false all) says (omega arith) (ap (λ m. restarts m (drop p t)) here_mode)) ∙ ap (left_at w) (sym place) ∙ there ∙ ap (λ l. l ++ left_at w k) (ap first_elements (later_in s.number all) ∙ first_elements_in (drop s.number all)))
      where
        in_whole : get_or w i 0 ≡ get_or t 0 0
        in_whole = let zero_is : i + 0 ≡ i = omega arith in sym (ap (λ a. get_or w a 0) zero_is) ∙ sym (get_or-drop i w 0 0) ∙ ap (λ x. get_or x 0 0) (sym whole) ∙ get_or_append_left t (drop k w) 0 0 (omega arith)

    pub next_known : (cs : List Child) → IsInside t false cs 1 → IsNext t false cs s.number (p - 1) start
    next_known cs h = by_rest (drop s.number cs) refl
      where
        by_rest : (ds : List Child) → drop s.number cs ≡ ds → IsNext t false cs s.number (p - 1) start
        by_rest [] e = absurd (no_end start start_solid no_start (start_left ∙ left_there cs h ∙ ap (inside false) e))
        by_rest (d ∷ ds) e =
            let next : p - 1 + 1 ≡ p = omega arith in
            let behind : others false (drop s.number cs) ≡ comma ∷ inside false (drop s.number cs) = ap (others false) e ∙ ap (λ l. comma ∷ inside false l) (sym e) in
            record {
              reached = record {
                left = start_left ∙ left_there cs h;
                begins = start_mode here_mode;
                ends = comma_end t (p - 1) (omega arith) mark (ap (mode_at t) next ∙ here_mode);
                back = let two : p - 1 - 1 ≡ p - 2 = omega arith in inl (ap (λ n. is_space (get_or t n 0)) two ∙ solid);
                first = λ z. absurd (omega (arith, z, some));
                later = λ z. operator_left t (p - 1) 44 (omega arith) mark refl ∙ ap (λ n. comma ∷ left_at t n) next ∙ ap (λ l. comma ∷ l) (left_there cs h) ∙ sym behind;
              };
              there = λ z. behind;
            }

-- ---- places of a text, seen from a value in it

pub inner_places : (w u : List ℕ) (s : Span) (p q : Places) (v : Json) → IsInner w s u → Says u v → ArePlaces w p → AreSeenFrom p s.start q → ArePlaces u q
inner_places w u s p q v h says a (no_steps, seen) = record { spans = by_seen seen; steps = subst (All (IsStep u)) (sym no_steps) (All-nil (IsStep u)) }
  where
    Known : Span → Type 0
    Known d = q.from ≤ d.start → q.from < d.end → d.end ≤ q.from + length u → IsPassed u (seen_from q.from d)

    size : length u + s.start ≡ s.end
    size = omega (arith, ap length h.is, length-take (s.end - s.start) (drop s.start w), length-drop s.start w, h.order, h.fits)

    known : (d : Span) → q.from ≡ p.from + s.start → (p.from ≤ d.start → p.from < d.end → d.end ≤ p.from + length w → IsPassed w (seen_from p.from d)) → Known d
    known d e f low some high =
        let is = f (omega (arith, low, e)) (omega (arith, some, e)) (omega (arith, high, e, size, h.fits)) in
        let first : d.start - p.from ≡ s.start + (d.start - q.from) = omega (arith, low, e) in
        let last : d.end - p.from ≡ s.start + (d.end - q.from) = omega (arith, some, e) in
        let order : d.start - q.from ≤ d.end - q.from = omega (arith, is.order, first, last) in
        passed_here w u s.start s.end h.order h.fits h.is h.apart.begins h.apart.ends v (d.start - q.from) (d.end - q.from) says (omega (arith, some)) order (omega (arith, high))
        (subst (λ n. IsPassed w (record { start = n; end = s.start + (d.end - q.from) })) first (subst (λ n. IsPassed w (record { start = d.start - p.from; end = n })) last is))

    by_seen : (q.spans.now ≡ []) ⊎ ((q.from ≡ p.from + s.start) × (q.spans.now ≡ p.spans.now)) → All Known q.spans.now
    by_seen (inl e) = subst (All Known) (sym e) (All-nil Known)
    by_seen (inr (e, f)) = subst (All Known) (sym f) (All-weaker (λ d. p.from ≤ d.start → p.from < d.end → d.end ≤ p.from + length w → IsPassed w (seen_from p.from d)) Known (λ d. known d e) p.spans.now a.spans)

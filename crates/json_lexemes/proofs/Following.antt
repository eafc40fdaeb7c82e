-- The objects and arrays that a check follows, a step on.
use Rattle.std.proofs.Common.{◌≡◌, ◌⊎◌, ℕ, zero, suc, ◌+◌, ◌-◌, ◌<◌, ◌≤◌, Bool, true, false, List, [], ◌∷◌, ◌++◌, length, length-take, take, drop, get_or, set, inl, inr, refl, sym, ap, ◌∙◌, subst, arith, append_assoc}
use Rattle.std.proofs.lemmas.Bool.{cases_lt}
use Rattle.std.proofs.lemmas.List.{get_or-take, get_or_past, get_or-set_other, get_or-set_same, length-set}
use Rattle.std.proofs.lemmas.Str.{IsCharBoundary-after_ascii}
use Rattle.std.specs.Prelude.{◌≢◌, All}
use Rattle.std.specs.Str.{IsCharBoundary}
use Rattle.json.specs.Json.{Json, null, boolean, number, string, array, object, Items, no_items, item}
use Rattle.json.specs.Token as tokens
use Rattle.json.specs.Lex.{Lexeme, token, comma, colon}
use Rattle.json_lexemes.specs.Followed.{Follows, Ahead, Behind, IsAhead, IsBehind, IsBehindBracket, IsBehindComma}
use Rattle.json_lexemes.specs.Found.{later}
use Rattle.json_lexemes.specs.Grammar.{Opens, Continues, Spells, closing}
use Rattle.json_lexemes.specs.Signposts.{ArePlaces, AreSignposts, IsPassed, IsStep, seen_from}
use Rattle.json_lexemes.specs.Lexing.{restarts}
use Rattle.json_lexemes.specs.Places.{left_at, mode_at, HasEnd, IsEnd}
use Rattle.json_lexemes.specs.Skipped.{if_open, skip}
use Rattle.json_lexemes.specs.Spelled.{spelled, first_elements, more_elements}
use Rattle.json_lexemes.specs.declared.signposts.Signposts.{Signposts}
use Rattle.json_lexemes.specs.declared.signposts.Open.{Open}
use Rattle.json_lexemes.specs.declared.signposts.Places.{Places}
use Rattle.json_lexemes.specs.declared.span.Span.{Span}
use Rattle.json_lexemes.proofs.Ascii.{operator_ascii}
use Rattle.json_lexemes.proofs.FirstBytes.{kind}
use Rattle.json_lexemes.proofs.Passed.{closing_operator}
use Rattle.json_lexemes.proofs.Skipping.{skip-spelled, skip-value}
use Rattle.json_lexemes.proofs.Steps.{operator_left, operator_no_space}

-- ---- what a step leaves of the lexemes

opens_skip : (t : List ℕ) (o : Bool) (i k n : ℕ) → Opens t o i k → skip n (left_at t i) ≡ skip (suc n) (left_at t k)
unfolding skip
opens_skip t true i k n (ls, e, (s, f)) = ap (skip n) e ∙ ap (skip (suc n)) f
opens_skip t false i k n (ls, e, f) = ap (skip n) e ∙ ap (skip (suc n)) f

continues_skip : (t : List ℕ) (o : Bool) (i k n : ℕ) → Continues t o i k → skip (suc n) (left_at t i) ≡ skip (suc n) (left_at t k)
unfolding skip
continues_skip t true i k n (ls, e, (s, f)) = ap (skip (suc n)) e ∙ ap (skip (suc n)) f
continues_skip t false i k n (ls, e, f) = ap (skip (suc n)) e ∙ ap (skip (suc n)) f

closes_skip : (t : List ℕ) (o : Bool) (i k n : ℕ) → left_at t i ≡ closing o ∷ left_at t k → skip (suc n) (left_at t i) ≡ if_open n (left_at t k) (skip n (left_at t k))
unfolding skip
closes_skip t true i k n e = ap (skip (suc n)) e
closes_skip t false i k n e = ap (skip (suc n)) e

spells_skip : (t : List ℕ) (m i k n : ℕ) → Spells t m i k → skip n (left_at t i) ≡ if_open n (left_at t k) (skip n (left_at t k))
spells_skip t m i k n s = ap (skip n) s.1 ∙ skip-spelled s.0 n (left_at t k)

-- ---- of one that is open

moved : (t : List ℕ) (o : Open) (i k : ℕ) (now later rest still : List Lexeme) → i ≤ k → now ≡ later → rest ≡ still → Follows t o i now rest → Follows t o k later still
moved t o i k now later rest still h a b f = record {
  on = omega (arith, f.on, h);
  begins = f.begins;
  few = omega (arith, f.few, h);
  kept = omega (arith, f.kept, h);
  value = f.value ∙ b;
  elements = λ q j js ls e. sym a ∙ f.elements q j js ls e;
}

ahead_within : (t : List ℕ) (o : Open) (ob : Bool) (i k n : ℕ) → i ≤ k → Opens t ob i k → Ahead t i n o → Ahead t k (suc n) o
ahead_within t o ob i k n h p = moved t o i k _ _ _ _ h (opens_skip t ob i k n p) (opens_skip t ob i k (suc n) p)

behind_value : (t : List ℕ) (o : Open) (m i k n : ℕ) → i ≤ k → Spells t m i k → Ahead t i n o → Behind t k n o
behind_value t o m i k n h s = moved t o i k _ _ _ _ h (spells_skip t m i k n s) (spells_skip t m i k (suc n) s)

behind_bracket : (t : List ℕ) (o : Open) (ob : Bool) (i k n : ℕ) → i ≤ k → left_at t i ≡ closing ob ∷ left_at t k → Behind t i (suc n) o → Behind t k n o
behind_bracket t o ob i k n h e = moved t o i k _ _ _ _ h (closes_skip t ob i k n e) (closes_skip t ob i k (suc n) e)

ahead_outside : (t : List ℕ) (o : Open) (ob : Bool) (i k n : ℕ) → i ≤ k → Continues t ob i k → Behind t i (suc n) o → Ahead t k (suc n) o
ahead_outside t o ob i k n h c = moved t o i k _ _ _ _ h (continues_skip t ob i k n c) (continues_skip t ob i k (suc n) c)

-- ---- among the first so many

all_taken : {A : Type 0} (P : A → Type 0) (xs : List A) (n : ℕ) → n ≤ length xs → ((k : ℕ) (d : A) → k < n → P (get_or xs k d)) → All P (take n xs)
all_taken P xs n h f = λ k d l.
    let low : k < n = omega (arith, l, length-take n xs) in
    subst P (sym (get_or-take n xs k d low)) (f k d low)

-- ---- where something ends

pub passed_ends : (t : List ℕ) (s : Span) → IsPassed t s → IsEnd t s.end × HasEnd t s.end
passed_ends t s p = (inl p.begins, inl (operator_no_space (get_or t (s.end - 1) 0) (closing_operator (get_or t (s.end - 1) 0) p.bracket)))

-- a span is seen from the text's beginning as it is
seen_itself : (t : List ℕ) (s : Span) → IsPassed t s → IsPassed t (seen_from 0 s)
seen_itself t s p = let i : s.start - 0 ≡ s.start = omega arith in let k : s.end - 0 ≡ s.end = omega arith in subst (λ n. IsPassed t (record { start = n; end = s.end - 0 })) (sym i) (subst (λ n. IsPassed t (record { start = s.start; end = n })) (sym k) p)

pub all_places : (t : List ℕ) (x : Signposts) (p : Places) → AreSignposts t x → p.from ≡ 0 → p.spans.now ≡ take x.ended x.spans → p.steps.now ≡ take x.stepped x.steps → length x.spans ≡ 128 → length x.steps ≡ 128 → ArePlaces t p
all_places t x p a from spans steps many more = record {
  spans = subst (All (λ s. p.from ≤ s.start → p.from < s.end → s.end ≤ p.from + length t → IsPassed t (seen_from p.from s))) (sym spans) (all_taken (λ s. p.from ≤ s.start → p.from < s.end → s.end ≤ p.from + length t → IsPassed t (seen_from p.from s)) x.spans x.ended (omega (arith, a.room.0, many)) (λ k d l. λ _ _ _. subst (λ i. IsPassed t (seen_from i (get_or x.spans k d))) (sym from) (seen_itself t (get_or x.spans k d) (a.spans k d l))));
  steps = subst (All (IsStep t)) (sym steps) (all_taken (IsStep t) x.steps x.stepped (omega (arith, a.room.1, more)) a.steps);
}

-- ---- one that opens

within : (t : List ℕ) (i : ℕ) → get_or t i 0 ≡ 91 → i < length t
within t i q = by_place (cases_lt i (length t))
  where
    by_place : (i < length t) ⊎ (length t ≤ i) → i < length t
    by_place (inl h) = h
    by_place (inr h) = absurd (omega (arith, sym (get_or_past t i 0 h) ∙ q))

abbrev some : Items → ℕ
some no_items = 0
some (item j js) = 1

abbrev others : Items → Items
others no_items = no_items
others (item j js) = js

abbrev tail : List Lexeme → List Lexeme
tail [] = []
tail (l ∷ ls) = ls

first_left : (t : List ℕ) (ob : Bool) (start i k : ℕ) → get_or t start 0 ≡ 91 → left_at t start ≡ left_at t i → Opens t ob i k → left_at t (start + 1) ≡ left_at t k
first_left t true start i k q a (ls, e, f) = absurd (omega (arith, sym (ap kind (operator_left t start 91 (within t start q) q refl)) ∙ ap kind (a ∙ e)))
first_left t false start i k q a (ls, e, f) = ap tail (sym (operator_left t start 91 (within t start q) q refl) ∙ a ∙ e) ∙ f

newly : (t : List ℕ) (ob : Bool) (start i k : ℕ) → start < k → IsEnd t start → left_at t start ≡ left_at t i → Opens t ob i k → Ahead t k 0 (record { start = start; number = 0; kept = start })
newly t ob start i k h b a p = record {
  on = h;
  begins = b;
  few = omega (arith, h);
  kept = omega (arith, h);
  value = ap (skip 0) a ∙ opens_skip t ob i k 0 p;
  elements = λ q j js ls e. ap (skip 0) (sym (first_left t ob start i k q a p) ∙ e ∙ append_assoc (spelled j) (more_elements js) ls) ∙ skip-value j (more_elements js ++ ls);
}

-- ---- the innermost, behind a comma

value_only : (j : Json) (more : Items) (ls L : List Lexeme) (s : List ℕ) → (spelled j ++ more_elements more) ++ ls ≡ token (tokens.string s) ∷ colon ∷ L → ⊥
value_only null more ls L s e = omega (arith, ap kind e)
value_only (boolean b) more ls L s e = omega (arith, ap kind e)
value_only (number x) more ls L s e = omega (arith, ap kind e)
value_only (string x) no_items ls L s e = omega (arith, ap (λ l. kind (tail l)) e)
value_only (string x) (item j more) ls L s e = omega (arith, ap (λ l. kind (tail l)) e)
value_only (array js) more ls L s e = omega (arith, ap kind e)
value_only (object ms) more ls L s e = omega (arith, ap kind e)

-- a name stands behind no comma of an array
no_name : (t : List ℕ) (i k : ℕ) (more : Items) (ls : List Lexeme) → Continues t true i k → left_at t i ≡ more_elements more ++ ls → ⊥
no_name t i k no_items ls (after, e, f) a = omega (arith, sym (ap kind e) ∙ ap kind a)
no_name t i k (item j more) ls (after, e, (s, f)) a = value_only j more ls (left_at t k) s (ap tail (sym a ∙ e) ∙ f)

named_top : (t : List ℕ) (o : Open) (i k : ℕ) → i ≤ k → Continues t true i k → Behind t i 0 o → Ahead t k 0 o
named_top t o i k h c f = record {
  on = omega (arith, f.on, h);
  begins = f.begins;
  few = omega (arith, f.few, h);
  kept = omega (arith, f.kept, h);
  value = f.value ∙ continues_skip t true i k 0 c;
  elements = λ q j js ls e. absurd (no_name t i k (later o.number js) ls c (f.elements q j js ls e));
}

comma_left : (t : List ℕ) (i k : ℕ) → Continues t false i k → left_at t i ≡ comma ∷ left_at t k
comma_left t i k (ls, e, f) = e ∙ ap (λ l. comma ∷ l) f

later_next : (n : ℕ) (js : Items) (v : Json) (rest : Items) → later n js ≡ item v rest → later (suc n) js ≡ rest
later_next zero no_items v rest e = let z : 0 ≡ 1 = ap some e in absurd (omega (arith, z))
later_next zero (item j js) v rest e = ap others e
later_next (suc n) no_items v rest e = let z : 0 ≡ 1 = ap some e in absurd (omega (arith, z))
later_next (suc n) (item j js) v rest e = later_next n js v rest e

next_passed : (t : List ℕ) (i k n m : ℕ) (js more : Items) (ls : List Lexeme) → later n js ≡ more → m ≡ suc n → left_at t i ≡ comma ∷ left_at t k → left_at t i ≡ more_elements more ++ ls → skip 0 (left_at t k) ≡ more_elements (later m js) ++ ls
next_passed t i k n m js no_items ls is s c a = absurd (omega (arith, sym (ap kind c) ∙ ap kind a))
next_passed t i k n m js (item v rest) ls is s c a =
    ap (skip 0) (ap tail (sym c ∙ a) ∙ append_assoc (spelled v) (more_elements rest) ls) ∙ skip-value v (more_elements rest ++ ls)
    ∙ ap (λ x. more_elements x ++ ls) (sym (ap (λ l. later l js) s ∙ later_next n js v rest is))

array_top : (t : List ℕ) (o : Open) (i k m kept : ℕ) → i < k → m ≡ o.number + 1 → kept ≤ k → Continues t false i k → Behind t i 0 o → Ahead t k 0 (record { start = o.start; number = m; kept = kept })
array_top t o i k m kept h s l c f = record {
  on = omega (arith, f.on, h);
  begins = f.begins;
  few = omega (arith, f.few, h, s);
  kept = l;
  value = f.value ∙ continues_skip t false i k 0 c;
  elements = λ q j js ls e. next_passed t i k o.number m js _ ls refl (omega (arith, s)) (comma_left t i k c) (f.elements q j js ls e);
}

step_ahead : (t : List ℕ) (i k : ℕ) (more : Items) (ls : List Lexeme) → left_at t i ≡ comma ∷ left_at t k → left_at t i ≡ more_elements more ++ ls → left_at t k ≡ first_elements more ++ ls
step_ahead t i k no_items ls c a = absurd (omega (arith, sym (ap kind c) ∙ ap kind a))
step_ahead t i k (item v rest) ls c a = ap tail (sym c ∙ a)

pub step_here : (t : List ℕ) (o : Open) (i k m : ℕ) → i < k → k ≤ length t → m ≡ o.number + 1 → IsBehindComma t k → Continues t false i k → Behind t i 0 o → IsStep t (record { array = o.start; number = m; place = k })
step_here t o i k m h fits s b c f =
    let there : k - 1 + 1 ≡ k = omega (arith, h) in
    let ascii = b.comma in
    record {
      on = omega (arith, f.on, h);
      fits = fits;
      begins = b.begins;
      boundary = λ u. subst (IsCharBoundary t) there (IsCharBoundary-after_ascii t (k - 1) u (omega (arith, h, fits)) (omega (arith, ascii)));
      ahead = λ q j js ls e.
          let same : suc o.number ≡ m = omega (arith, s) in
          step_ahead t i k (later o.number js) ls (comma_left t i k c) (f.elements q j js ls e) ∙ ap (λ n. first_elements (later n (item j js)) ++ ls) same;
    }

pub closed_here : (t : List ℕ) (o : Open) (ob : Bool) (i k : ℕ) → i < k → k ≤ length t → IsBehindBracket t k → left_at t i ≡ closing ob ∷ left_at t k → Behind t i 0 o
    → IsPassed t (record { start = o.start; end = k })
closed_here t o ob i k h fits b l f =
    let there : k - 1 + 1 ≡ k = omega (arith, h) in
    let operator = closing_operator (get_or t (k - 1) 0) b.bracket in
    record {
      order = omega (arith, f.on, h);
      fits = fits;
      left = sym (f.value ∙ closes_skip t ob i k 0 l);
      from = from_end f.begins;
      begins = b.begins;
      bracket = b.bracket;
      boundary = λ u. subst (IsCharBoundary t) there (IsCharBoundary-after_ascii t (k - 1) u (omega (arith, h, fits)) (operator_ascii _ operator));
    }
  where
    from_end : IsEnd t o.start → restarts (mode_at t o.start) (drop o.start t) ≡ true
    from_end (inl e) = ap (λ m. restarts m (drop o.start t)) e
    from_end (inr (inl (e, w))) = ap (λ m. restarts m (drop o.start t)) e ∙ w
    from_end (inr (inr e)) = absurd (omega (arith, e, f.on, h, fits))

-- ---- of all

pub entered : (t : List ℕ) (x y : Signposts) (ob : Bool) (start d i k : ℕ) → d ≡ x.depth → d < 128 → y.depth ≡ d + 1 → y.nest ≡ set x.nest d (record { start = start; number = 0; kept = start }) → AreSignposts t y
    → start < k → i ≤ k → left_at t start ≡ left_at t i → IsEnd t start → Opens t ob i k → IsAhead t x d i → IsAhead t y (d + 1) k
entered t x y ob start d i k here room deep nest signposts h le same end p a = record {
  few = omega (arith, deep);
  room = omega (arith, deep, room);
  size = ap length nest ∙ length-set x.nest d (record { start = start; number = 0; kept = start }) ∙ a.size;
  signposts = signposts;
  each = λ e o l. by_place e o l (cases_lt e d);
}
  where
    by_place : (e : ℕ) (o : Open) → e < y.depth → (e < d) ⊎ (d ≤ e) → Ahead t k (d + 1 - suc e) (get_or y.nest e o)
    by_place e o l (inl b) =
        let n : d + 1 - suc e ≡ suc (d - suc e) = omega (arith, b) in
        subst (λ m. Ahead t k m (get_or y.nest e o)) (sym n)
        (subst (Ahead t k (suc (d - suc e))) (sym (ap (λ l. get_or l e o) nest ∙ get_or-set_other x.nest d e (record { start = start; number = 0; kept = start }) o (λ z. absurd (omega (arith, b, z)))))
        (ahead_within t (get_or x.nest e o) ob i k (d - suc e) le p (a.each e o (omega (arith, b, here)))))
    by_place e o l (inr b) =
        let top : e ≡ d = omega (arith, b, l, deep) in
        let n : d + 1 - suc e ≡ 0 = omega (arith, top) in
        subst (λ m. Ahead t k m (get_or y.nest e o)) (sym n)
        (subst (Ahead t k 0) (sym (ap (λ l. get_or l e o) nest ∙ ap (λ m. get_or (set x.nest d (record { start = start; number = 0; kept = start })) m o) top ∙ get_or-set_same x.nest d (record { start = start; number = 0; kept = start }) o (omega (arith, a.size, room)))) (newly t ob start i k h end same p))

pub deeper : (t : List ℕ) (x : Signposts) (ob : Bool) (d i k : ℕ) → i ≤ k → Opens t ob i k → IsAhead t x d i → IsAhead t x (d + 1) k
deeper t x ob d i k h p a = record {
  few = omega (arith, a.few);
  room = a.room;
  size = a.size;
  signposts = a.signposts;
  each = λ e o l.
      let n : d + 1 - suc e ≡ suc (d - suc e) = omega (arith, l, a.few) in
      subst (λ m. Ahead t k m (get_or x.nest e o)) (sym n) (ahead_within t (get_or x.nest e o) ob i k (d - suc e) h p (a.each e o l));
}

pub valued : (t : List ℕ) (x : Signposts) (m d i k : ℕ) → i ≤ k → Spells t m i k → IsAhead t x d i → IsBehind t x d k
valued t x m d i k h s a = record { few = a.few; room = a.room; size = a.size; signposts = a.signposts; each = λ e o l. behind_value t (get_or x.nest e o) m i k (d - suc e) h s (a.each e o l) }

pub bracket_passed : (t : List ℕ) (x y : Signposts) (ob : Bool) (d i k : ℕ) → y.depth ≤ d - 1 → y.depth ≤ x.depth → y.nest ≡ x.nest → AreSignposts t y → i ≤ k → left_at t i ≡ closing ob ∷ left_at t k → IsBehind t x d i → IsBehind t y (d - 1) k
bracket_passed t x y ob d i k few fewer nest signposts h e a = record {
  few = few;
  room = omega (arith, fewer, a.room);
  size = ap length nest ∙ a.size;
  signposts = signposts;
  each = λ m o l.
      let n : d - suc m ≡ suc (d - 1 - suc m) = omega (arith, l, few) in
      subst (λ z. Behind t k (d - 1 - suc m) z) (sym (ap (λ z. get_or z m o) nest))
      (behind_bracket t (get_or x.nest m o) ob i k (d - 1 - suc m) h e (subst (λ z. Behind t i z (get_or x.nest m o)) n (a.each m o (omega (arith, l, fewer)))));
}

-- the innermost of d isn't followed, or is an object
outside : (t : List ℕ) (x : Signposts) (ob : Bool) (d i k e : ℕ) (o : Open) → suc e < d → i ≤ k → Continues t ob i k → Behind t i (d - suc e) (get_or x.nest e o) → Ahead t k (d - suc e) (get_or x.nest e o)
outside t x ob d i k e o l h c b =
    let n : d - suc e ≡ suc (d - suc (suc e)) = omega (arith, l) in
    subst (λ z. Ahead t k z (get_or x.nest e o)) (sym n) (ahead_outside t (get_or x.nest e o) ob i k (d - suc (suc e)) h c (subst (λ z. Behind t i z (get_or x.nest e o)) n b))

pub named_on : (t : List ℕ) (x : Signposts) (d i k : ℕ) → 0 < d → i ≤ k → Continues t true i k → IsBehind t x d i → IsAhead t x d k
named_on t x d i k some h c a = record { few = a.few; room = a.room; size = a.size; signposts = a.signposts; each = λ e o l. by_place e o (a.each e o l) (cases_lt (suc e) d) (omega (arith, l, a.few)) }
  where
    by_place : (e : ℕ) (o : Open) → Behind t i (d - suc e) (get_or x.nest e o) → (suc e < d) ⊎ (d ≤ suc e) → suc e ≤ d → Ahead t k (d - suc e) (get_or x.nest e o)
    by_place e o b (inl l) m = outside t x true d i k e o l h c b
    by_place e o b (inr l) m =
        let n : d - suc e ≡ 0 = omega (arith, l, m) in
        subst (λ z. Ahead t k z (get_or x.nest e o)) (sym n) (named_top t (get_or x.nest e o) i k h c (subst (λ z. Behind t i z (get_or x.nest e o)) n b))

pub unfollowed_on : (t : List ℕ) (x : Signposts) (ob : Bool) (d i k : ℕ) → (d ≡ x.depth → ⊥) → i ≤ k → Continues t ob i k → IsBehind t x d i → IsAhead t x d k
unfollowed_on t x ob d i k other h c a = record {
  few = a.few;
  room = a.room;
  size = a.size;
  signposts = a.signposts;
  each = λ e o l. outside t x ob d i k e o (grind (arith, l, a.few, other)) h c (a.each e o l);
}

-- as it is read where there is none
abbrev pub no_open : Open
no_open = record { start = 0; number = 0; kept = 0 }

-- the innermost, where it is followed
pub innermost_behind : (t : List ℕ) (x : Signposts) (d i : ℕ) → 0 < d → d ≡ x.depth → IsBehind t x d i → Behind t i 0 (get_or x.nest (d - 1) no_open)
innermost_behind t x d i some here a =
    let none_within : d - suc (d - 1) ≡ 0 = omega (arith, some) in
    subst (λ n. Behind t i n (get_or x.nest (d - 1) no_open)) none_within (a.each (d - 1) no_open (omega (arith, some, here)))

pub array_on : (t : List ℕ) (x y : Signposts) (d i k m kept : ℕ) → 0 < d → d ≡ x.depth → y.depth ≡ x.depth → m ≡ (get_or x.nest (d - 1) no_open).number + 1 → kept ≤ k
    → y.nest ≡ set x.nest (d - 1) (record { start = (get_or x.nest (d - 1) no_open).start; number = m; kept = kept }) → AreSignposts t y → i < k → Continues t false i k → IsBehind t x d i → IsAhead t y d k
array_on t x y d i k m kept some here same counted low nest signposts h c a = record {
  few = omega (arith, same, here);
  room = omega (arith, same, a.room);
  size = ap length nest ∙ length-set x.nest (d - 1) put ∙ a.size;
  signposts = signposts;
  each = λ e o l. by_place e o (cases_lt (suc e) d) (omega (arith, l, same, here));
}
  where
    put : Open
    put = record { start = (get_or x.nest (d - 1) no_open).start; number = m; kept = kept }

    by_place : (e : ℕ) (o : Open) → (suc e < d) ⊎ (d ≤ suc e) → suc e ≤ d → Ahead t k (d - suc e) (get_or y.nest e o)
    by_place e o (inl l) le =
        subst (Ahead t k (d - suc e)) (sym (ap (λ z. get_or z e o) nest ∙ get_or-set_other x.nest (d - 1) e put o (λ z. absurd (omega (arith, l, z)))))
        (outside t x false d i k e o l (omega (arith, h)) c (a.each e o (omega (arith, l, here))))
    by_place e o (inr l) le =
        let n : d - suc e ≡ 0 = omega (arith, l, le) in
        let top : e ≡ d - 1 = omega (arith, l, le) in
        subst (λ z. Ahead t k z (get_or y.nest e o)) (sym n)
        (subst (Ahead t k 0) (sym (ap (λ z. get_or z e o) nest ∙ ap (λ z. get_or (set x.nest (d - 1) put) z o) top ∙ get_or-set_same x.nest (d - 1) put o (omega (arith, a.size, a.room, here, some))))
        (array_top t (get_or x.nest (d - 1) no_open) i k m kept h counted low c (innermost_behind t x d i some here a)))

-- one is put in the place of another
pub set_known : {A : Type 0} (P : A → Type 0) (xs : List A) (at n : ℕ) (v : A) → at < length xs → P v → ((k : ℕ) (d : A) → k ≤ n → k ≢ at → P (get_or xs k d)) → (k : ℕ) (d : A) → k ≤ n → P (get_or (set xs at v) k d)
set_known {A} P xs at n v room p f k d l = by_place (cases_lt k at) (cases_lt at k)
  where
    by_place : (k < at) ⊎ (at ≤ k) → (at < k) ⊎ (k ≤ at) → P (get_or (set xs at v) k d)
    by_place (inl a) b = subst P (sym (get_or-set_other xs at k v d (λ z. absurd (omega (arith, a, z))))) (f k d l (λ z. omega (arith, a, z)))
    by_place (inr a) (inl b) = subst P (sym (get_or-set_other xs at k v d (λ z. absurd (omega (arith, b, z))))) (f k d l (λ z. omega (arith, b, z)))
    by_place (inr a) (inr b) =
        let same : k ≡ at = omega (arith, a, b) in
        subst P (sym (ap (λ z. get_or (set xs at v) z d) same ∙ get_or-set_same xs at v d room)) p

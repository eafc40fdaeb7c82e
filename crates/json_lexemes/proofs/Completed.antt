-- A check of a text against the grammar, a lexeme at a time.
use Rattle.std.proofs.Common.{◌≡◌, ℕ, zero, suc, ◌+◌, ◌-◌, ◌<◌, ◌≤◌, Bool, true, false, cond, List, [], ◌∷◌, ◌++◌, length, drop, get_or, set, inl, inr, ◌⊎◌, ◌==◌, refl, sym, ap, ap₂, ◌∙◌, subst, arith, append_assoc}
use Rattle.std.specs.Prelude.{Option, Some, None, IfSome, nat_lt}
use Rattle.std.proofs.lemmas.Bool.{false≢true, cases_lt, lt-ltb, le-ltb}
use Rattle.std.proofs.lemmas.List.{get_or-set_other, get_or-set_same}
use Rattle.json.specs.Json.{array, object, no_items, item, no_members, member}
use Rattle.json.specs.Token as tokens
use Rattle.json.specs.Lex.{Lexeme, token, comma, colon, between, in_string, lex, operator_lexeme}
use Rattle.json.specs.Word.{is_operator}
use Rattle.json_lexemes.specs.Places.{left_at, mode_at, IsEnd}
use Rattle.json_lexemes.specs.Followed.{IsBehindBracket, IsBehindComma}
use Rattle.json_lexemes.specs.Spelled.{spelled, more_elements, more_members}
use Rattle.json_lexemes.specs.Grammar.{HasContent, Spells, Named, Opens, Continues, opening, closing, Completes, Begins, innermost}
use Rattle.json_lexemes.proofs.Steps.{each_operator, operator_left, operator_end}
use Rattle.json_lexemes.specs.Blocks.{is_closing}
use Rattle.json_lexemes.proofs.FirstBytes.{kind}
use Rattle.json_lexemes.proofs.Ended.{here, string_spells}

-- ---- what has been passed, put before what is left

pub whole_begins : (t : List ℕ) (n m : ℕ) (os : List Bool) (i k : ℕ) → m ≤ n → Spells t m i k → Completes n os (left_at t k) → Begins n os (left_at t i)
whole_begins t n m os i k h s c = (s.0, left_at t k, s.1, omega (arith, s.2, h), c)

-- whitespace before it aside
pub spells_from : (t : List ℕ) (n p i k : ℕ) → left_at t p ≡ left_at t i → Spells t n p k → Spells t n i k
spells_from t n p i k a s = (s.0, sym a ∙ s.1, s.2)

pub opens_begins : (t : List ℕ) (n : ℕ) (o : Bool) (os : List Bool) (i k : ℕ) → Opens t o i k → Begins n (o ∷ os) (left_at t k) → Begins (suc n) os (left_at t i)
opens_begins t n true os i k (ls, e, (s, f)) (j, rest, g, d, (after, (ms, h, md), c)) = (
  object (member s j ms),
  after,
  e ∙ ap (λ l. token tokens.begin_object ∷ l) (f ∙ ap (λ l. token (tokens.string s) ∷ colon ∷ l) (g ∙ ap (λ l. spelled j ++ l) h ∙ sym (append_assoc (spelled j) (more_members ms) after))),
  omega (arith, d, md),
  c,
)
opens_begins t n false os i k (ls, e, f) (j, rest, g, d, (after, (js, h, jd), c)) = (
  array (item j js),
  after,
  e ∙ ap (λ l. token tokens.begin_array ∷ l) (f ∙ g ∙ ap (λ l. spelled j ++ l) h ∙ sym (append_assoc (spelled j) (more_elements js) after)),
  omega (arith, d, jd),
  c,
)

pub continues_completes : (t : List ℕ) (n : ℕ) (o : Bool) (os : List Bool) (i k : ℕ) → Continues t o i k → Begins n (o ∷ os) (left_at t k) → Completes n (o ∷ os) (left_at t i)
continues_completes t n true os i k (ls, e, (s, f)) (j, rest, g, d, (after, (ms, h, md), c)) = (
  after,
  (member s j ms, e ∙ ap (λ l. comma ∷ l) (f ∙ ap (λ l. token (tokens.string s) ∷ colon ∷ l) (g ∙ ap (λ l. spelled j ++ l) h ∙ sym (append_assoc (spelled j) (more_members ms) after))), omega (arith, d, md)),
  c,
)
continues_completes t n false os i k (ls, e, f) (j, rest, g, d, (after, (js, h, jd), c)) = (
  after,
  (item j js, e ∙ ap (λ l. comma ∷ l) (f ∙ g ∙ ap (λ l. spelled j ++ l) h ∙ sym (append_assoc (spelled j) (more_elements js) after)), omega (arith, d, jd)),
  c,
)

pub closing_completes : (t : List ℕ) (n : ℕ) (o : Bool) (os : List Bool) (i k : ℕ) → left_at t i ≡ closing o ∷ left_at t k → Completes (suc n) os (left_at t k) → Completes n (o ∷ os) (left_at t i)
closing_completes t n true os i k e c = (left_at t k, (no_members, e, omega arith), c)
closing_completes t n false os i k e c = (left_at t k, (no_items, e, omega arith), c)

-- ---- a value without values

pub empty_spells : (t : List ℕ) (o : Bool) (i k : ℕ) → left_at t i ≡ opening o ∷ closing o ∷ left_at t k → Spells t 1 i k
empty_spells t true i k e = (object no_members, e, omega arith)
empty_spells t false i k e = (array no_items, e, omega arith)

-- ---- steps

pub named_by : (t : List ℕ) (i k : ℕ) (r : Option ℕ) → i < length t → get_or t i 0 ≡ 34 → lex in_string (drop (i + 1) t) ≡ left_at t k → HasContent t (i + 1) → IfSome r (λ m. left_at t k ≡ colon ∷ left_at t m)
    → IfSome r (λ m. Named true (left_at t i) (left_at t m))
named_by t i k None h q l c a = tt
named_by t i k (Some m) h q l c a = let s = string_spells t i k h q l c in (s.0, s.1 ∙ ap (λ ls. token (tokens.string s.0) ∷ ls) a)

pub named_from : (t : List ℕ) (from i : ℕ) (r : Option ℕ) → left_at t i ≡ left_at t from → IfSome r (λ m. Named true (left_at t i) (left_at t m)) → IfSome r (λ m. Named true (left_at t from) (left_at t m))
named_from t from i None e h = tt
named_from t from i (Some m) e h = (h.0, sym e ∙ h.1)

-- an opening bracket, read with a space past the end
pub record Bracket (t : List ℕ) (i c : ℕ) : Type 0 where
  pub here : i < length t
  pub either : (get_or t i 0 ≡ 123) ⊎ (get_or t i 0 ≡ 91)
  pub same : (c == 123) ≡ (get_or t i 0 == 123)

pub bracket_here : (t : List ℕ) (i c : ℕ) → c ≡ get_or t i 32 → ((c ≡ 123 → ⊥) × (c ≡ 91)) ⊎ (c ≡ 123) → Bracket t i c
bracket_here t i c e (inl f) = let h = here t i 91 (omega arith) (sym e ∙ f.1) in record { here = h.0; either = inr h.1; same = ap (λ x. x == 123) (f.1 ∙ sym h.1) }
bracket_here t i c e (inr f) = let h = here t i 123 (omega arith) (sym e ∙ f) in record { here = h.0; either = inl h.1; same = ap (λ x. x == 123) (f ∙ sym h.1) }

pub opening_left : (t : List ℕ) (i k : ℕ) → i < length t → (get_or t i 0 ≡ 123) ⊎ (get_or t i 0 ≡ 91) → left_at t k ≡ left_at t (i + 1) → left_at t i ≡ opening (get_or t i 0 == 123) ∷ left_at t k
opening_left t i k h (inl e) l = operator_left t i 123 h e refl ∙ ap₂ (λ x ls. opening (x == 123) ∷ ls) (sym e) (sym l)
opening_left t i k h (inr e) l = operator_left t i 91 h e refl ∙ ap₂ (λ x ls. opening (x == 123) ∷ ls) (sym e) (sym l)

pub byte_left : (t : List ℕ) (i j x : ℕ) (l : Lexeme) → (32 ≡ x → ⊥) → get_or t j 32 ≡ x → is_operator x ≡ true → operator_lexeme x ≡ l → left_at t j ≡ left_at t i → left_at t i ≡ l ∷ left_at t (j + 1)
byte_left t i j x l n e o f same = let h = here t j x n e in sym same ∙ operator_left t j x h.0 h.1 o ∙ ap (λ k. k ∷ left_at t (j + 1)) f

pub no_whitespace : (x : ℕ) → is_operator x ≡ true → 32 ≡ x → ⊥
no_whitespace x o e = false≢true (ap is_operator e ∙ o)

pub past_operator : (t : List ℕ) (from i x : ℕ) → (32 ≡ x → ⊥) → get_or t i 32 ≡ x → is_operator x ≡ true → (IsEnd t from → IsEnd t i) → IsEnd t from → mode_at t (i + 1) ≡ between
past_operator t from i x n e o f s = let h = here t i x n e in operator_end t i h.0 (ap is_operator h.1 ∙ o) (f s)

pub behind_comma : (t : List ℕ) (i k : ℕ) → k ≡ i + 1 → get_or t i 0 ≡ 44 → mode_at t (i + 1) ≡ between → IsBehindComma t k
behind_comma t i k e c m =
    let before : k - 1 ≡ i = omega (arith, e) in
    record { comma = ap (λ j. get_or t j 0) before ∙ c; begins = ap (mode_at t) e ∙ m }

closes_by : (o : Bool) (x : ℕ) → is_operator x ≡ true → operator_lexeme x ≡ closing o → is_closing x ≡ true
closes_by true x h e = each_operator (λ y. kind (operator_lexeme y ∷ []) ≡ 125 → is_closing y ≡ true) (λ z. absurd (omega (arith, z))) (λ z. refl) (λ z. absurd (omega (arith, z))) (λ z. absurd (omega (arith, z))) (λ z. absurd (omega (arith, z))) (λ z. absurd (omega (arith, z))) x h (ap (λ l. kind (l ∷ [])) e)
closes_by false x h e = each_operator (λ y. kind (operator_lexeme y ∷ []) ≡ 93 → is_closing y ≡ true) (λ z. absurd (omega (arith, z))) (λ z. absurd (omega (arith, z))) (λ z. absurd (omega (arith, z))) (λ z. refl) (λ z. absurd (omega (arith, z))) (λ z. absurd (omega (arith, z))) x h (ap (λ l. kind (l ∷ [])) e)

pub behind_bracket : (t : List ℕ) (i x : ℕ) (o : Bool) → get_or t i 0 ≡ x → operator_lexeme x ≡ closing o → is_operator x ≡ true → mode_at t (i + 1) ≡ between → IsBehindBracket t (i + 1)
behind_bracket t i x o c l h m =
    let before : i + 1 - 1 ≡ i = omega arith in
    record { bracket = ap is_closing (ap (λ j. get_or t j 0) before ∙ c) ∙ closes_by o x h l; begins = m }

pub bracket_ends : (t : List ℕ) (i c : ℕ) → Bracket t i c → IsEnd t i → mode_at t (i + 1) ≡ between
bracket_ends t i c b = by_byte b.either
  where
    by_byte : (get_or t i 0 ≡ 123) ⊎ (get_or t i 0 ≡ 91) → IsEnd t i → mode_at t (i + 1) ≡ between
    by_byte (inl e) = operator_end t i b.here (ap is_operator e)
    by_byte (inr e) = operator_end t i b.here (ap is_operator e)

pub empty_whole : (t : List ℕ) (room : Bool) (i k c x : ℕ) → room ≡ true → Bracket t i c → left_at t k ≡ left_at t (i + 1) → get_or t k 32 ≡ x → operator_lexeme x ≡ closing (c == 123) → is_operator x ≡ true
    → Spells t (cond room 1 0) i (k + 1)
empty_whole t room i k c x r b l e f o =
    let closes = byte_left t k k x _ (no_whitespace x o) e o f refl in
    subst (λ n. Spells t n i (k + 1)) (sym (ap (λ y. cond y 1 0) r))
    (empty_spells t (c == 123) i (k + 1) (opening_left t i k b.here b.either l ∙ ap₂ (λ y ls. opening y ∷ ls) (sym b.same) closes))

pub opens_by : (t : List ℕ) (i p k m c : ℕ) → left_at t p ≡ left_at t i → Bracket t p c → left_at t k ≡ left_at t (p + 1) → Named (c == 123) (left_at t k) (left_at t m) → Opens t (c == 123) i m
opens_by t i p k m c a b l n = (left_at t k, sym a ∙ opening_left t p k b.here b.either l ∙ ap (λ y. opening y ∷ left_at t k) (sym b.same), n)

-- ---- the brackets that are open

pub innermost-set : (os : List Bool) (n d : ℕ) (o : Bool) → d ≤ n → innermost (set os n o) d ≡ innermost os d
innermost-set os n zero o h = refl
innermost-set os n (suc d) o h = ap₂ (λ x l. x ∷ l) (get_or-set_other os n d o false (λ e. absurd (omega (arith, e, h)))) (innermost-set os n d o (omega arith))

pub innermost-push : (os : List Bool) (n : ℕ) (o : Bool) → n < length os → innermost (set os n o) (suc n) ≡ o ∷ innermost os n
innermost-push os n o h = ap₂ (λ x l. x ∷ l) (get_or-set_same os n o false h) (innermost-set os n n o (omega arith))

pub innermost-last : (os : List Bool) (d : ℕ) → 0 < d → innermost os d ≡ get_or os (d - 1) false ∷ innermost os (d - 1)
innermost-last os zero h = let never : ⊥ = omega arith in absurd never
innermost-last os (suc d) h = let less : suc d - 1 ≡ d = omega arith in sym (ap (λ k. get_or os k false ∷ innermost os k) less)

pub next_on : (t : List ℕ) (os : List Bool) (n d i k : ℕ) → 0 < d → Continues t (get_or os (d - 1) false) i k → Begins n (innermost os d) (left_at t k) → Completes n (innermost os d) (left_at t i)
next_on t os n d i k h e b =
    let last = innermost-last os d h in
    subst (λ l. Completes n l (left_at t i)) (sym last) (continues_completes t n _ _ i k e (subst (λ l. Begins n l (left_at t k)) last b))

pub closing_on : (t : List ℕ) (os : List Bool) (n d m i k : ℕ) → 0 < m → m ≤ d → left_at t i ≡ closing (get_or os (m - 1) false) ∷ left_at t k
    → Completes (n + (d - (m - 1))) (innermost os (m - 1)) (left_at t k) → Completes (n + (d - m)) (innermost os m) (left_at t i)
closing_on t os n d m i k h le e c =
    let more : n + (d - (m - 1)) ≡ suc (n + (d - m)) = omega arith in
    subst (λ l. Completes (n + (d - m)) l (left_at t i)) (sym (innermost-last os m h)) (closing_completes t _ _ _ i k e (subst (λ r. Completes r (innermost os (m - 1)) (left_at t k)) more c))

pub opens_on : (t : List ℕ) (os : List Bool) (o : Bool) (most d i k : ℕ) → d < most → d < length os → Opens t o i k → Begins (most - (d + 1)) (innermost (set os d o) (d + 1)) (left_at t k) → Begins (most - d) (innermost os d) (left_at t i)
opens_on t os o most d i k h room p b =
    let one : d + 1 ≡ suc d = omega arith in
    let more : most - d ≡ suc (most - suc d) = omega arith in
    let push = ap (innermost (set os d o)) one ∙ innermost-push os d o room in
    subst (λ m. Begins m (innermost os d) (left_at t i)) (sym more)
    (opens_begins t (most - suc d) o (innermost os d) i k p (subst (λ m. Begins (most - m) (o ∷ innermost os d) (left_at t k)) one (subst (λ l. Begins (most - (d + 1)) l (left_at t k)) push b)))

pub room_for : (d most : ℕ) → cond (nat_lt d most) 1 0 ≤ most - d
room_for d most = by_order (cases_lt d most)
  where
    by_order : (d < most) ⊎ (most ≤ d) → cond (nat_lt d most) 1 0 ≤ most - d
    by_order (inl h) = rw (lt-ltb d most h) (omega arith)
    by_order (inr h) = rw (le-ltb d most h) (omega arith)

-- A row with one of it cut out.
use Rattle.std.proofs.Common.{◌≡◌, ◌⊎◌, ℕ, zero, suc, ◌<◌, ◌≤◌, Bool, true, false, List, [], ◌∷◌, ◌++◌, length, take, drop, length-append, Option, Some, None, refl, sym, ap, ap₂, ◌∙◌, subst, inl, inr, arith, append_assoc, append-nil, take-append-drop}
use Rattle.std.proofs.lemmas.Bool.{cases_eq}
use Rattle.std.specs.Prelude.{IfSome, IfNone, MatchOption}
use Rattle.json.specs.Lex.{Lexeme, comma, between, lex}
use Rattle.json_lexemes.specs.Places.{mode_at, left_at, IsEnd}
use Rattle.json_text.specs.Removed.{IsNaming, IsPiece, IsTightFront}
use Rattle.json_text.specs.Rows.{AreEdges, AreInOrder, Child, inside, IsNumbered, IsSolid, naming, opening, others, tree_in, slice}
use Rattle.json_lexemes.specs.Spelled.{spelled, Says}
use Rattle.json_text.specs.declared.parts.Numbered.{Numbered}
use Rattle.json_lexemes.specs.declared.span.Span.{Span}
use Rattle.json_lexemes.proofs.Counted.{some_lexeme}
use Rattle.json_lexemes.proofs.FirstBytes.{kind}
use Rattle.json_lexemes.proofs.Steps.{follows}
use Rattle.json_text.proofs.Rows.Reached.{apart}
use Rattle.json_text.proofs.Rows.Splices.{beside, empty_slice, respliced, slice_lexes, something_there, tight_behind, tight_end, tight_front}
use Rattle.json_text.proofs.Rows.Trees.{spelled_in}

-- ---- a row in two parts

-- each with the comma behind it
lead : Bool → List Child → List Lexeme
lead b [] = []
lead b (c ∷ cs) = naming b c.0 ++ (spelled c.1 ++ (comma ∷ lead b cs))

-- each with the comma before it
tails : Bool → List Child → List Lexeme
tails b [] = []
tails b (c ∷ cs) = comma ∷ (naming b c.0 ++ (spelled c.1 ++ tails b cs))

others_inside : (b : Bool) (pre : List Child) (d : Child) (rest : List Child) → others b (pre ++ (d ∷ rest)) ≡ comma ∷ inside b (pre ++ (d ∷ rest))
others_inside b [] d rest = refl
others_inside b (c ∷ pre) d rest = refl

in_three : (a b c d : List Lexeme) → (a ++ (b ++ c)) ++ d ≡ a ++ (b ++ (c ++ d))
in_three a b c d = append_assoc a (b ++ c) d ∙ ap (λ l. a ++ l) (append_assoc b c d)

inside_split : (b : Bool) (pre : List Child) (d : Child) (rest : List Child) → inside b (pre ++ (d ∷ rest)) ≡ lead b pre ++ inside b (d ∷ rest)
unfolding lead
inside_split b [] d rest = refl
inside_split b (c ∷ pre) d rest =
    ap (λ l. naming b c.0 ++ (spelled c.1 ++ l)) (others_inside b pre d rest ∙ ap (λ l. comma ∷ l) (inside_split b pre d rest))
    ∙ sym (in_three (naming b c.0) (spelled c.1) (comma ∷ lead b pre) (inside b (d ∷ rest)))

others_split : (b : Bool) (pre rest : List Child) → others b (pre ++ rest) ≡ tails b pre ++ others b rest
unfolding tails
others_split b [] rest = refl
others_split b (c ∷ pre) rest =
    ap (λ l. comma ∷ (naming b c.0 ++ (spelled c.1 ++ l))) (others_split b pre rest) ∙ ap (λ l. comma ∷ l) (sym (in_three (naming b c.0) (spelled c.1) (tails b pre) (others b rest)))

inside_behind : (b : Bool) (c : Child) (pre rest : List Child) → inside b (c ∷ (pre ++ rest)) ≡ (naming b c.0 ++ (spelled c.1 ++ tails b pre)) ++ others b rest
inside_behind b c pre rest = ap (λ l. naming b c.0 ++ (spelled c.1 ++ l)) (others_split b pre rest) ∙ sym (in_three (naming b c.0) (spelled c.1) (tails b pre) (others b rest))

-- a row whose first n stay, up to a child
pub record Fronts (b : Bool) (cs : List Child) (n : ℕ) : Type 0 where
  pub lexemes : List Lexeme
  pub is : spelled (tree_in b cs) ≡ lexemes ++ inside b (drop n cs)
  pub there : (d : Child) (rest : List Child) → spelled (tree_in b (take n cs ++ (d ∷ rest))) ≡ lexemes ++ inside b (d ∷ rest)
  pub more : (n ≡ 0 → ⊥) → 1 < length lexemes

some_lead : (b : Bool) (cs : List Child) (n : ℕ) (c : Child) (more : List Child) → drop n cs ≡ c ∷ more → (n ≡ 0 → ⊥) → 0 < length (lead b (take n cs))
unfolding lead
some_lead b cs zero c more e z = absurd (z refl)
some_lead b [] (suc n) c more e z = absurd (omega (arith, ap length e))
some_lead b (d ∷ cs) (suc n) c more e z =
    omega (arith, length-append (naming b d.0) (spelled d.1 ++ (comma ∷ lead b (take n cs))), length-append (spelled d.1) (comma ∷ lead b (take n cs)))

pub fronts : (b : Bool) (cs : List Child) (n : ℕ) (c : Child) (more : List Child) → drop n cs ≡ c ∷ more → Fronts b cs n
fronts b cs n c more e = record {
  lexemes = opening b ∷ lead b (take n cs);
  is = spelled_in b cs
      ∙ ap (λ l. opening b ∷ l) (ap (inside b) (sym (take-append-drop n cs) ∙ ap (λ l. take n cs ++ l) e) ∙ inside_split b (take n cs) c more ∙ ap (λ l. lead b (take n cs) ++ inside b l) (sym e));
  there = λ d rest. spelled_in b (take n cs ++ (d ∷ rest)) ∙ ap (λ l. opening b ∷ l) (inside_split b (take n cs) d rest);
  more = λ z. let some = some_lead b cs n c more e z in omega (arith, some);
}

-- and up to the end of the one before
pub record Backs (b : Bool) (cs : List Child) (n : ℕ) : Type 0 where
  pub lexemes : List Lexeme
  pub is : spelled (tree_in b cs) ≡ lexemes ++ others b (drop n cs)
  pub there : (rest : List Child) → spelled (tree_in b (take n cs ++ rest)) ≡ lexemes ++ others b rest

pub backs : (b : Bool) (cs : List Child) (n : ℕ) (c : Child) (more : List Child) → drop n cs ≡ c ∷ more → (n ≡ 0 → ⊥) → Backs b cs n
backs b [] zero c more e z = absurd (z refl)
backs b [] (suc n) c more e z = absurd (omega (arith, ap length e))
backs b (d ∷ cs) zero c more e z = absurd (z refl)
backs b (d ∷ cs) (suc n) c more e z = record {
  lexemes = opening b ∷ (naming b d.0 ++ (spelled d.1 ++ tails b (take n cs)));
  is = spelled_in b (d ∷ cs) ∙ ap (λ l. opening b ∷ l) (ap (λ l. inside b (d ∷ l)) (sym (take-append-drop n cs)) ∙ inside_behind b d (take n cs) (drop n cs));
  there = λ rest. spelled_in b (d ∷ (take n cs ++ rest)) ∙ ap (λ l. opening b ∷ l) (inside_behind b d (take n cs) rest);
}

-- all stay, up to the closing bracket
pub record Alls (b : Bool) (cs : List Child) : Type 0 where
  pub lexemes : List Lexeme
  pub is : spelled (tree_in b cs) ≡ lexemes ++ others b []
  pub there : (c : Child) → spelled (tree_in b (cs ++ (c ∷ []))) ≡ lexemes ++ others b (c ∷ [])

pub alls : (b : Bool) (cs : List Child) → (cs ≡ [] → ⊥) → Alls b cs
alls b [] n = absurd (n refl)
alls b (d ∷ cs) n = record {
  lexemes = opening b ∷ (naming b d.0 ++ (spelled d.1 ++ tails b cs));
  is = spelled_in b (d ∷ cs) ∙ ap (λ l. opening b ∷ l) (ap (λ l. inside b (d ∷ l)) (sym (append-nil cs)) ∙ inside_behind b d cs []);
  there = λ c. spelled_in b (d ∷ (cs ++ (c ∷ []))) ∙ ap (λ l. opening b ∷ l) (inside_behind b d cs (c ∷ []));
}

-- ---- what comes behind

pub others_follow : (b : Bool) (cs : List Child) → follows (others b cs) ≡ true
others_follow true [] = refl
others_follow false [] = refl
others_follow true (c ∷ cs) = refl
others_follow false (c ∷ cs) = refl

pub no_comma : (b : Bool) (ls : List Lexeme) → others b [] ≡ comma ∷ ls → ⊥
no_comma true ls e = absurd (omega (arith, ap kind e))
no_comma false ls e = absurd (omega (arith, ap kind e))

no_others : (b : Bool) (cs : List Child) (ls : List Lexeme) → others b cs ≡ opening b ∷ ls → ⊥
no_others true [] ls e = absurd (omega (arith, ap kind e))
no_others false [] ls e = absurd (omega (arith, ap kind e))
no_others true (c ∷ cs) ls e = absurd (omega (arith, ap kind e))
no_others false (c ∷ cs) ls e = absurd (omega (arith, ap kind e))

no_inside : (b : Bool) (ls : List Lexeme) → ls ≡ opening b ∷ ls → ⊥
no_inside b ls e = absurd (omega (arith, ap length e))

positive : (i : ℕ) → (i ≡ 0 → ⊥) → 0 < i
positive i n = grind arith

pub others_positive : (t : List ℕ) (b : Bool) (cs ds : List Child) (i : ℕ) → Says t (tree_in b cs) → left_at t i ≡ others b ds → 0 < i
others_positive t b cs ds i says e = positive i (λ z. no_others b ds (inside b cs) (sym e ∙ ap (left_at t) z ∙ says ∙ spelled_in b cs))

pub inside_positive : (t : List ℕ) (b : Bool) (cs : List Child) (i : ℕ) → Says t (tree_in b cs) → left_at t i ≡ inside b cs → 0 < i
inside_positive t b cs i says e = positive i (λ z. no_inside b (inside b cs) (sym e ∙ ap (left_at t) z ∙ says ∙ spelled_in b cs))

some_others : (b : Bool) (cs : List Child) → 0 < length (others b cs)
some_others b [] = omega arith
some_others b (c ∷ cs) = omega arith

some_inside : (b : Bool) (cs : List Child) → 0 < length (inside b cs)
some_inside b [] = omega arith
some_inside b (c ∷ cs) = omega (arith, some_lexeme c.1, length-append (naming b c.0) (spelled c.1 ++ others b cs), length-append (spelled c.1) (others b cs))

pub others_there : (t : List ℕ) (b : Bool) (cs : List Child) (i : ℕ) → left_at t i ≡ others b cs → i < length t
others_there t b cs i e = something_there t i (omega (arith, ap length e, some_others b cs))

pub inside_there : (t : List ℕ) (b : Bool) (cs : List Child) (i : ℕ) → left_at t i ≡ inside b cs → i < length t
inside_there t b cs i e = something_there t i (omega (arith, ap length e, some_inside b cs))

pub is_naming : (b : Bool) (k : List ℕ) → IsNaming (naming b k)
is_naming true k = inr (k, refl)
is_naming false k = inl refl

-- ---- the piece

-- what goes from i to k with the value from vs to ve leaves the row without the child of number n
pub record Cut (t : List ℕ) (b : Bool) (cs more : List Child) (n i vs ve k : ℕ) : Type 0 where
  pub says : Says (take i t ++ drop k t) (tree_in b (take n cs ++ more))
  pub piece : IsPiece (take i t) (slice t i vs) (slice t vs ve) (slice t ve k) (drop k t)
  pub begins : i ≤ vs

nonempty : (t : List ℕ) (b : Bool) (cs : List Child) (n : ℕ) (r : Numbered) → IsNumbered t b cs n r → AreInOrder t r.part → r.part.value.start < r.part.value.end
nonempty t b cs n r num o =
    let other : r.part.value.end ≡ r.part.value.start → ⊥ = apart t num.part.child.1 (others b num.part.more) r.part.value.start r.part.value.end num.part.value num.part.behind in
    let below : r.part.value.start ≤ r.part.value.end = o.value in
    strict r.part.value.start r.part.value.end below other
  where
    strict : (i k : ℕ) → i ≤ k → (k ≡ i → ⊥) → i < k
    strict i k h n = grind arith

up_to_next : (t : List ℕ) (b : Bool) (cs : List Child) (n : ℕ) (r : Numbered) (g : ℕ) (d : Child) (rest : List Child) → Says t (tree_in b cs) → (num : IsNumbered t b cs n r) → AreInOrder t r.part → num.part.more ≡ d ∷ rest → left_at t g ≡ inside b num.part.more → others b num.part.more ≡ comma ∷ inside b num.part.more
    → r.part.value.end < g → g ≤ length t → IsSolid t g → mode_at t g ≡ between → Cut t b cs num.part.more n r.part.start r.part.value.start r.part.value.end g
unfolding lex
up_to_next t b cs n r g d rest says num o e left comes h l s m =
    let i = r.part.start in
    let vs = r.part.value.start in
    let ve = r.part.value.end in
    let k = num.part.child.0 in
    let f = fronts b cs n num.part.child num.part.more num.part.is in
    let start : left_at t i ≡ inside b (drop n cs) = num.part.left in
    let size : vs < ve = nonempty t b cs n r num o in
    let front : lex between (slice t i vs) ≡ naming b k =
    slice_lexes t i vs (naming b k) (inl num.places.begins) (inl num.places.cut.begins) (start ∙ ap (inside b) num.part.is ∙ ap (λ x. naming b k ++ x) (sym num.part.value)) o.named (omega (arith, o.value, o.fits)) in
    let back : lex between (slice t ve g) ≡ comma ∷ [] = slice_lexes t ve g (comma ∷ []) num.places.cut.ends (inl m) (num.part.behind ∙ comes ∙ ap (λ x. comma ∷ x) (sym left)) (omega arith) l in
    record {
      says = respliced t [] f.lexemes (tree_in b cs) i g says (inl num.places.begins) (f.is ∙ ap (λ x. f.lexemes ++ x) (sym start)) (inl num.places.begins) tt
          ∙ ap (λ x. f.lexemes ++ x) (left ∙ ap (inside b) e) ∙ sym (f.there d rest) ∙ ap (λ x. spelled (tree_in b (take n cs ++ x))) (sym e);
      piece = (naming b k, is_naming b k, inl (subst IsTightFront (sym (beside t i vs ve o.named o.value)) (tight_front t i ve o.solid (omega (arith, size, o.named)) (omega (arith, size, o.named, o.fits))), front, back, tight_behind t g s (inside_there t b num.part.more g left)));
      begins = o.named;
    }

last_cut : (t : List ℕ) (b : Bool) (cs : List Child) (n : ℕ) (r : Numbered) → Says t (tree_in b cs) → (num : IsNumbered t b cs n r) → AreInOrder t r.part → r.before ≤ r.part.start → num.part.more ≡ [] → (n ≡ 0 → ⊥) → Cut t b cs num.part.more n r.before r.part.value.start r.part.value.end r.part.value.end
unfolding lex
last_cut t b cs n r says num o w e z =
    let i = r.before in
    let vs = r.part.value.start in
    let ve = r.part.value.end in
    let k = num.part.child.0 in
    let f = backs b cs n num.part.child num.part.more num.part.is z in
    let start : left_at t i ≡ others b (drop n cs) = num.reached.later z in
    let front : lex between (slice t i vs) ≡ comma ∷ naming b k =
    slice_lexes t i vs (comma ∷ naming b k) num.reached.ends (inl num.places.cut.begins) (start ∙ ap (others b) num.part.is ∙ ap (λ x. comma ∷ (naming b k ++ x)) (sym num.part.value)) (omega (arith, w, o.named)) (omega (arith, o.value, o.fits)) in
    let fits : i ≤ length t = omega (arith, w, o.named, o.value, o.fits) in
    record {
      says = respliced t [] f.lexemes (tree_in b cs) i ve says num.reached.ends (f.is ∙ ap (λ x. f.lexemes ++ x) (sym start)) (inr (ap follows num.part.behind ∙ others_follow b num.part.more)) tt
          ∙ ap (λ x. f.lexemes ++ x) num.part.behind ∙ sym (f.there num.part.more);
      piece = (naming b k, is_naming b k, inr (inl (tight_end t (tree_in b cs) i says (others_positive t b cs (drop n cs) i says start) fits num.reached.back, front, empty_slice t ve ve refl, λ ls c. no_comma b ls (ap (others b) (sym e) ∙ sym num.part.behind ∙ c))));
      begins = omega (arith, w, o.named);
    }

all_cut : (t : List ℕ) (b : Bool) (cs : List Child) (n : ℕ) (r : Numbered) (g : ℕ) → Says t (tree_in b cs) → (num : IsNumbered t b cs n r) → AreInOrder t r.part → r.before ≤ r.part.start → num.part.more ≡ [] → n ≡ 0 → left_at t g ≡ left_at t r.part.value.end → IsSolid t g → IsEnd t g → r.part.value.end ≤ g
    → Cut t b cs num.part.more n r.before r.part.value.start r.part.value.end g
unfolding lex
all_cut t b cs n r g says num o w e z left s ends h =
    let i = r.before in
    let vs = r.part.value.start in
    let ve = r.part.value.end in
    let k = num.part.child.0 in
    let begin = num.reached.first z in
    let none : drop n cs ≡ cs = ap (λ m. drop m cs) z in
    let first : cs ≡ num.part.child ∷ num.part.more = sym none ∙ num.part.is in
    let comes : left_at t g ≡ others b num.part.more = left ∙ num.part.behind in
    let there : g < length t = others_there t b num.part.more g comes in
    let front : lex between (slice t i vs) ≡ naming b k =
    slice_lexes t i vs (naming b k) num.reached.ends (inl num.places.cut.begins) (begin.0 ∙ ap (inside b) first ∙ ap (λ x. naming b k ++ x) (sym num.part.value)) (omega (arith, w, o.named)) (omega (arith, o.value, o.fits)) in
    let back : lex between (slice t ve g) ≡ [] = slice_lexes t ve g [] num.places.cut.ends ends (sym left) h (omega (arith, there)) in
    let left_over : take n cs ++ num.part.more ≡ [] = ap₂ (λ m x. take m cs ++ x) z e in
    record {
      says = respliced t [] (opening b ∷ []) (tree_in b cs) i g says num.reached.ends (spelled_in b cs ∙ ap (λ x. opening b ∷ x) (sym begin.0)) (inl begin.1) tt
          ∙ ap (λ x. opening b ∷ x) (comes ∙ ap (others b) e) ∙ sym (spelled_in b []) ∙ ap (λ x. spelled (tree_in b x)) (sym left_over);
      piece = (naming b k, is_naming b k, inr (inr (tight_end t (tree_in b cs) i says (inside_positive t b cs i says begin.0) (omega (arith, w, o.named, o.value, o.fits)) num.reached.back, front, back, tight_behind t g s there)));
      begins = omega (arith, w, o.named);
    }

pub cut : (t : List ℕ) (b : Bool) (cs : List Child) (n : ℕ) (r : Numbered) (p : Span) → Says t (tree_in b cs) → (num : IsNumbered t b cs n r) → AreInOrder t r.part → r.before ≤ r.part.start → AreEdges t n r p → Cut t b cs num.part.more n p.start r.part.value.start r.part.value.end p.end
cut t b cs n r p says num o w e = by_next r.part.next refl
  where
    with_more : (g : ℕ) (more : List Child) → num.part.more ≡ more → others b more ≡ comma ∷ inside b more → r.part.next ≡ Some g → Cut t b cs num.part.more n p.start r.part.value.start r.part.value.end p.end
    with_more g [] q comes is = absurd (no_comma b _ comes)
    with_more g (d ∷ rest) q comes is =
        let there = subst (λ x. MatchOption x (num.part.more ≡ []) (λ g. (left_at t g ≡ inside b num.part.more) × (others b num.part.more ≡ comma ∷ inside b num.part.more))) is num.part.next in
        let order = subst (λ x. IfSome x (λ g. (r.part.value.end < g) × (g ≤ length t) × IsSolid t g)) is o.next in
        let mode = subst (λ x. IfSome x (λ g. mode_at t g ≡ between)) is num.places.next in
        let places = subst (λ x. IfSome x (λ g. (p.start ≡ r.part.start) × (p.end ≡ g))) is e.next in
        subst (λ i. Cut t b cs num.part.more n i r.part.value.start r.part.value.end p.end) (sym places.0)
        (subst (λ k. Cut t b cs num.part.more n r.part.start r.part.value.start r.part.value.end k) (sym places.1) (up_to_next t b cs n r g d rest says num o q there.0 there.1 order.0 order.1 order.2 mode))

    by_number : (n ≡ 0) ⊎ (n ≡ 0 → ⊥) → r.part.next ≡ None → Cut t b cs num.part.more n p.start r.part.value.start r.part.value.end p.end
    by_number (inl z) is =
        let none = subst (λ x. MatchOption x (num.part.more ≡ []) (λ g. (left_at t g ≡ inside b num.part.more) × (others b num.part.more ≡ comma ∷ inside b num.part.more))) is num.part.next in
        let all = subst (λ x. IfNone x (n ≡ 0 → (left_at t p.end ≡ left_at t r.part.value.end) × IsSolid t p.end × (IsEnd t r.part.value.end → IsEnd t p.end))) is e.all z in
        subst (λ i. Cut t b cs num.part.more n i r.part.value.start r.part.value.end p.end) (sym (subst (λ x. IfNone x (p.start ≡ r.before)) is e.last))
        (all_cut t b cs n r p.end says num o w none z all.0 all.1 (all.2 num.places.cut.ends) e.behind)
    by_number (inr z) is =
        let none = subst (λ x. MatchOption x (num.part.more ≡ []) (λ g. (left_at t g ≡ inside b num.part.more) × (others b num.part.more ≡ comma ∷ inside b num.part.more))) is num.part.next in
        let end = subst (λ x. IfNone x ((n ≡ 0 → ⊥) → p.end ≡ r.part.value.end)) is e.end z in
        subst (λ i. Cut t b cs num.part.more n i r.part.value.start r.part.value.end p.end) (sym (subst (λ x. IfNone x (p.start ≡ r.before)) is e.last))
        (subst (λ k. Cut t b cs num.part.more n r.before r.part.value.start r.part.value.end k) (sym end) (last_cut t b cs n r says num o w none z))

    by_next : (x : Option ℕ) → r.part.next ≡ x → Cut t b cs num.part.more n p.start r.part.value.start r.part.value.end p.end
    by_next (Some g) is =
        with_more g num.part.more refl (subst (λ x. MatchOption x (num.part.more ≡ []) (λ g. (left_at t g ≡ inside b num.part.more) × (others b num.part.more ≡ comma ∷ inside b num.part.more))) is num.part.next).1 is
    by_next None is = by_number (cases_eq n 0) is

-- From one of a row to the next.
use Rattle.std.proofs.Common.{◌≡◌, ◌⊎◌, ℕ, zero, suc, ◌+◌, ◌≤◌, Bool, true, false, cond, List, [], ◌∷◌, ◌++◌, length, drop, Option, Some, None, if◌then◌else◌, refl, sym, ap, ◌∙◌, subst, inl, inr, arith, drop-drop, length-drop, length-append}
use Rattle.std.proofs.lemmas.Bool.{false≢true, cases_Bool, cases_eq}
use Rattle.std.proofs.lemmas.List.{drop_all}
use Rattle.std.proofs.lemmas.Option.{same_Some}
use Rattle.std.proofs.lemmas.Slice.Eq.{bytes_eq-Decides}
use Rattle.std.specs.Bool.{Decides}
use Rattle.std.specs.Prelude.{option_map, IfSome, MatchOption}
use Rattle.std.specs.Str.{bytes_eq}
use Rattle.json.specs.Lex.{Lexeme, comma, between}
use Rattle.json.specs.Json.{Json}
use Rattle.json.specs.Text.{content, plain}
use Rattle.json_lexemes.specs.Found.{IsCut, or_else}
use Rattle.json_lexemes.specs.Places.{mode_at, left_at, HasEnd}
use Rattle.json_text.specs.Rows.{ArePlaces, Child, IsInside, IsLast, IsNext, IsNumbered, IsPart, IsReached, inside, last_named, others}
use Rattle.json_lexemes.specs.Spelled.{spelled}
use Rattle.json_text.specs.declared.parts.Part.{Part}
use Rattle.json_lexemes.specs.declared.span.Span.{Span}
use Rattle.json_lexemes.proofs.Counted.{some_lexeme}
use Rattle.json_lexemes.proofs.FirstBytes.{kind}

pub behind_child : {A : Type 0} (n : ℕ) (cs : List A) (c : A) (more : List A) → drop n cs ≡ c ∷ more → drop (n + 1) cs ≡ more
behind_child n cs c more e = sym (drop-drop 1 n cs) ∙ ap (drop 1) e

pub none_behind : {A : Type 0} (n m : ℕ) (cs : List A) → drop n cs ≡ [] → n ≤ m → drop m cs ≡ []
none_behind n m cs e h = drop_all m cs (omega (arith, ap length e, length-drop n cs))

-- a value is not empty
pub apart : (t : List ℕ) (v : Json) (ls : List Lexeme) (i k : ℕ) → left_at t i ≡ spelled v ++ ls → left_at t k ≡ ls → k ≡ i → ⊥
apart t v ls i k a b e =
    let same : ls ≡ spelled v ++ ls = sym b ∙ ap (left_at t) e ∙ a in
    absurd (omega (arith, ap length same, some_lexeme v, length-append (spelled v) ls))

pub ends_solid : (t : List ℕ) (v : Json) (ls : List Lexeme) (s : Span) → left_at t s.start ≡ spelled v ++ ls → left_at t s.end ≡ ls → IsCut t s → HasEnd t s.end
ends_solid t v ls s a b c = by_back c.back
  where
    by_back : (s.end ≡ s.start) ⊎ HasEnd t s.end → HasEnd t s.end
    by_back (inl e) = absurd (apart t v ls s.start s.end a b e)
    by_back (inr h) = h

pub first_reached : (t : List ℕ) (b : Bool) (cs : List Child) (from start : ℕ) → left_at t start ≡ left_at t from → (mode_at t from ≡ between → mode_at t start ≡ between) → IsInside t b cs from → IsReached t b cs 0 from start
first_reached t b cs from start l m h = record {
  left = l ∙ h.0;
  begins = m h.1;
  ends = inl h.1;
  back = h.2;
  first = λ z. (h.0, h.1);
  later = λ z. absurd (z refl);
}

pub next_reached : (t : List ℕ) (b : Bool) (cs : List Child) (n before start g : ℕ) (p : Part) → p.next ≡ Some g → IsReached t b cs n before start → IsPart t b (drop n cs) p → ArePlaces t p → IsReached t b cs (n + 1) p.value.end g
next_reached t b cs n before start g p e r h a =
    let more : drop (n + 1) cs ≡ h.more = behind_child n cs h.child h.more h.is in
    let next = subst (λ o. MatchOption o (h.more ≡ []) (λ g. (left_at t g ≡ inside b h.more) × (others b h.more ≡ comma ∷ inside b h.more))) e h.next in
    record {
      left = next.0 ∙ ap (inside b) (sym more);
      begins = subst (λ o. IfSome o (λ g. mode_at t g ≡ between)) e a.next;
      ends = a.cut.ends;
      back = ends_solid t h.child.1 (others b h.more) p.value h.value h.behind a.cut;
      first = λ z. absurd (omega (arith, z));
      later = λ z. h.behind ∙ ap (others b) (sym more);
    }

pub none_past_last : (t : List ℕ) (b : Bool) (cs : List Child) (n m : ℕ) (p : Part) → p.next ≡ None → n ≤ m → (n ≡ m → ⊥) → IsPart t b (drop n cs) p → drop m cs ≡ []
none_past_last t b cs n m p e h d part =
    let last : drop (n + 1) cs ≡ [] = behind_child n cs part.child part.more part.is ∙ subst (λ o. MatchOption o (part.more ≡ []) (λ g. (left_at t g ≡ inside b part.more) × (others b part.more ≡ comma ∷ inside b part.more))) e part.next in
    let less : n + 1 ≤ m = grind arith in
    none_behind (n + 1) m cs last less

pub numbered_there : (t : List ℕ) (b : Bool) (cs : List Child) (n m before start : ℕ) (p : Part) → n ≡ m → p.start ≡ start → IsReached t b cs n before start → IsPart t b (drop n cs) p → ArePlaces t p → IsNumbered t b cs m (record { before = before; part = p })
numbered_there t b cs n m before start p e s r h a =
    subst (λ k. IsNumbered t b cs k (record { before = before; part = p })) e
    (record { reached = subst (λ i. IsReached t b cs n before i) (sym s) r; part = h; places = a })

-- ---- the last of a name

-- of these the first n are passed, and found is the last of this name among them
abbrev pub AreNamed : List ℕ → List ℕ → List Child → ℕ → ℕ → Option ℕ → Type 0
AreNamed t k cs n start found = (left_at t start ≡ inside true (drop n cs)) × (last_named k cs ≡ or_else (option_map (λ m. n + m) (last_named k (drop n cs))) found)

pub none_passed : (t k : List ℕ) (cs : List Child) (from start : ℕ) → left_at t start ≡ left_at t from → left_at t from ≡ inside true cs → AreNamed t k cs 0 start None
none_passed t k cs from start l e = (l ∙ e, same (last_named k cs))
  where
    same : (o : Option ℕ) → o ≡ or_else (option_map (λ m. 0 + m) o) None
    same None = refl
    same (Some m) = ap Some (omega arith)

pub named_none : (t k : List ℕ) (cs : List Child) (n start : ℕ) (found : Option ℕ) → AreNamed t k cs n start found → drop n cs ≡ [] → found ≡ last_named k cs
named_none t k cs n start found a e = sym (a.1 ∙ ap (λ ds. or_else (option_map (λ m. n + m) (last_named k ds)) found) e)

chosen : (k l : List ℕ) (is : Bool) (o : Option (List ℕ)) (n : ℕ) (found rest : Option ℕ) → Decides is (o ≡ Some k) → o ≡ Some l
    → or_else (option_map (λ m. n + m) (or_else (option_map suc rest) (cond (bytes_eq l k) (Some zero) None))) found ≡ or_else (option_map (λ m. n + 1 + m) rest) (if is then Some n else found)
chosen k l is o n found (Some m) d e = ap Some (omega arith)
chosen k l true o n found None d e =
    let same : l ≡ k = sym (same_Some k l (sym (d.0 refl) ∙ e)) in
    ap (λ b. or_else (option_map (λ m. n + m) (cond b (Some zero) None)) found) ((bytes_eq-Decides l k).1 same) ∙ ap Some (omega arith)
chosen k l false o n found None d e = ap (λ b. or_else (option_map (λ m. n + m) (cond b (Some zero) None)) found) (not_equal (cases_Bool (bytes_eq l k)))
  where
    not_equal : (bytes_eq l k ≡ true) ⊎ (bytes_eq l k ≡ false) → bytes_eq l k ≡ false
    not_equal (inl y) = absurd (false≢true (d.1 (e ∙ ap Some ((bytes_eq-Decides l k).0 y))))
    not_equal (inr z) = z

-- one more is passed
passed : (t k : List ℕ) (cs : List Child) (n start : ℕ) (found new : Option ℕ) (is : Bool) (p : Part) → p.start ≡ start → Decides is (content plain (drop (start + 1) t) ≡ Some k) → new ≡ (if is then Some n else found)
    → AreNamed t k cs n start found → IsPart t true (drop n cs) p → last_named k cs ≡ or_else (option_map (λ m. n + 1 + m) (last_named k (drop (n + 1) cs))) new
passed t k cs n start found new is p s d e a h =
    let more : drop (n + 1) cs ≡ h.more = behind_child n cs h.child h.more h.is in
    let there : content plain (drop (start + 1) t) ≡ Some h.child.0 = ap (λ i. content plain (drop (i + 1) t)) (sym s) ∙ (h.name refl).1 in
    a.1 ∙ ap (λ ds. or_else (option_map (λ m. n + m) (last_named k ds)) found) h.is ∙ chosen k h.child.0 is _ n found (last_named k h.more) d there
    ∙ ap (λ ds. or_else (option_map (λ m. n + 1 + m) (last_named k ds)) (if is then Some n else found)) (sym more) ∙ ap (or_else (option_map (λ m. n + 1 + m) (last_named k (drop (n + 1) cs)))) (sym e)

pub next_named : (t k : List ℕ) (cs : List Child) (n start g : ℕ) (found new : Option ℕ) (is : Bool) (p : Part) → p.next ≡ Some g → p.start ≡ start → Decides is (content plain (drop (start + 1) t) ≡ Some k) → new ≡ (if is then Some n else found)
    → AreNamed t k cs n start found → IsPart t true (drop n cs) p → AreNamed t k cs (n + 1) g new
next_named t k cs n start g found new is p o s d e a h =
    let more : drop (n + 1) cs ≡ h.more = behind_child n cs h.child h.more h.is in
    let next = subst (λ o. MatchOption o (h.more ≡ []) (λ g. (left_at t g ≡ inside true h.more) × (others true h.more ≡ comma ∷ inside true h.more))) o h.next in
    (next.0 ∙ ap (inside true) (sym more), passed t k cs n start found new is p s d e a h)

pub last_passed : (t k : List ℕ) (cs : List Child) (n start : ℕ) (found new : Option ℕ) (is : Bool) (p : Part) → p.next ≡ None → p.start ≡ start → Decides is (content plain (drop (start + 1) t) ≡ Some k) → new ≡ (if is then Some n else found)
    → AreNamed t k cs n start found → IsPart t true (drop n cs) p → new ≡ last_named k cs
last_passed t k cs n start found new is p o s d e a h =
    let last : drop (n + 1) cs ≡ [] = behind_child n cs h.child h.more h.is ∙ subst (λ o. MatchOption o (h.more ≡ []) (λ g. (left_at t g ≡ inside true h.more) × (others true h.more ≡ comma ∷ inside true h.more))) o h.next in
    sym (passed t k cs n start found new is p s d e a h ∙ ap (λ ds. or_else (option_map (λ m. n + 1 + m) (last_named k ds)) new) last)

-- ---- the last

pub first_next : (t : List ℕ) (b : Bool) (cs : List Child) (from start : ℕ) → left_at t start ≡ left_at t from → (mode_at t from ≡ between → mode_at t start ≡ between) → IsInside t b cs from → IsNext t b cs 0 from start
first_next t b cs from start l m h = record { reached = first_reached t b cs from start l m h; there = λ z. absurd (z refl) }

pub next_next : (t : List ℕ) (b : Bool) (cs : List Child) (n before start g : ℕ) (p : Part) → p.next ≡ Some g → IsNext t b cs n before start → IsPart t b (drop n cs) p → ArePlaces t p → IsNext t b cs (n + 1) p.value.end g
next_next t b cs n before start g p e r h a =
    let more : drop (n + 1) cs ≡ h.more = behind_child n cs h.child h.more h.is in
    let next = subst (λ o. MatchOption o (h.more ≡ []) (λ g. (left_at t g ≡ inside b h.more) × (others b h.more ≡ comma ∷ inside b h.more))) e h.next in
    record {
      reached = next_reached t b cs n before start g p e r.reached h a;
      there = λ z. ap (others b) more ∙ next.1 ∙ ap (λ ds. comma ∷ inside b ds) (sym more);
    }

no_comma : (b : Bool) (ls : List Lexeme) → others b [] ≡ comma ∷ ls → ⊥
no_comma true ls e = absurd (omega (arith, ap kind e))
no_comma false ls e = absurd (omega (arith, ap kind e))

pub none_at_all : (t : List ℕ) (b : Bool) (cs : List Child) (n before start : ℕ) → IsNext t b cs n before start → drop n cs ≡ [] → cs ≡ []
none_at_all t b cs n before start r e = by_number (cases_eq n 0)
  where
    by_number : (n ≡ 0) ⊎ (n ≡ 0 → ⊥) → cs ≡ []
    by_number (inl z) = ap (λ m. drop m cs) (sym z) ∙ e
    by_number (inr z) = absurd (no_comma b (inside b []) (sym (ap (others b) e) ∙ r.there z ∙ ap (λ ds. comma ∷ inside b ds) e))

pub last_there : (t : List ℕ) (b : Bool) (cs : List Child) (n before start : ℕ) (p : Part) → p.next ≡ None → p.start ≡ start → IsNext t b cs n before start → IsPart t b (drop n cs) p → ArePlaces t p → IsLast t b cs n (record { before = before; part = p })
last_there t b cs n before start p e s r h a = record {
  numbered = numbered_there t b cs n n before start p refl s r.reached h a;
  last = behind_child n cs h.child h.more h.is ∙ subst (λ o. MatchOption o (h.more ≡ []) (λ g. (left_at t g ≡ inside b h.more) × (others b h.more ≡ comma ∷ inside b h.more))) e h.next;
}

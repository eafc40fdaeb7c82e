-- The first of a row, from where it begins.
use Rattle.std.proofs.Common.{◌≡◌, ℕ, ◌+◌, ◌<◌, Bool, true, false, List, [], ◌∷◌, length, drop, get_or, Option, Some, None, refl, sym, ap, ◌∙◌, subst, arith}
use Rattle.std.proofs.lemmas.Bool.{false≢true, true≢false}
use Rattle.std.proofs.lemmas.List.{get_or_default}
use Rattle.std.specs.Prelude.{IfSome, IfNone, MatchOption}
use Rattle.json.specs.Text.{content, plain}
use Rattle.json.specs.Lex.{Lexeme, token, comma, colon, string_token, in_string, lex}
use Rattle.json_lexemes.specs.Places.{left_at}
use Rattle.json_text.specs.Rows.{Begins, Child, FindsValue, IsPart, IsSolid, inside, others}
use Rattle.json_lexemes.specs.Skipped.{skip}
use Rattle.json_text.specs.declared.parts.Part.{Part}
use Rattle.json_lexemes.specs.declared.span.Span.{Span}
use Rattle.json_lexemes.proofs.FirstBytes.{kind, byte_by_kind}
use Rattle.json_lexemes.proofs.Elements as elements
use Rattle.json_lexemes.proofs.Members as members
use Rattle.json_lexemes.proofs.Skipping.{skip-value}
use Rattle.json_lexemes.proofs.Steps.{operator_left}

abbrev pub tail : List Lexeme → List Lexeme
tail [] = []
tail (l ∷ ls) = ls

-- ---- an element

pub none_at_bracket : (t : List ℕ) (b : Bool) (cs : List Child) (i : ℕ) → b ≡ false → i < length t → get_or t i 32 ≡ 93 → left_at t i ≡ inside b cs → cs ≡ []
none_at_bracket t true cs i f h c e = absurd (true≢false f)
none_at_bracket t false [] i f h c e = refl
none_at_bracket t false (d ∷ cs) i f h c e =
    absurd (elements.no_end d.1 (others false cs) (sym (ap kind (sym (operator_left t i 93 h (get_or_default t i 0 32 h ∙ c) refl) ∙ e))))

pub element_begins : (t : List ℕ) (b : Bool) (cs : List Child) (i : ℕ) → b ≡ false → IsSolid t i → (get_or t i 32 ≡ 93 → ⊥) → left_at t i ≡ inside b cs → Begins t b cs i i
element_begins t true cs i f s n e = absurd (true≢false f)
element_begins t false [] i f s n e = let c = byte_by_kind t i 93 s (ap kind e) (λ x. absurd (omega (arith, x))) in absurd (n (get_or_default t i 32 0 c.0 ∙ c.1))
element_begins t false (d ∷ cs) i f s n e = record { child = d; more = cs; is = refl; value = e; name = λ x. absurd (false≢true x) }

-- ---- a member

pub none_with_no_quote : (t : List ℕ) (b : Bool) (cs : List Child) (i : ℕ) → b ≡ true → IsSolid t i → (get_or t i 32 ≡ 34 → ⊥) → left_at t i ≡ inside b cs → cs ≡ []
none_with_no_quote t false cs i f s n e = absurd (false≢true f)
none_with_no_quote t true [] i f s n e = refl
none_with_no_quote t true (d ∷ cs) i f s n e = let c = byte_by_kind t i 34 s (ap kind e) (λ x. absurd (omega (arith, x))) in absurd (n (get_or_default t i 32 0 c.0 ∙ c.1))

pub member_begins : (t : List ℕ) (b : Bool) (cs : List Child) (i k : ℕ) (found : Option ℕ) → b ≡ true → i < length t → get_or t i 32 ≡ 34 → left_at t k ≡ lex in_string (drop (i + 1) t)
    → IfSome found (λ v. left_at t k ≡ colon ∷ left_at t v) → IfNone found ((ls : List Lexeme) → left_at t k ≡ colon ∷ ls → ⊥) → left_at t i ≡ inside b cs → FindsValue t b cs i found
member_begins t false cs i k found f h q z y n e = absurd (false≢true f)
member_begins t true cs i k found f h q z y n e =
    by_children cs found (quote_here ∙ ap (λ l. token (string_token (content plain (drop (i + 1) t))) ∷ l) (sym z)) y n e
  where
    quote_here : left_at t i ≡ token (string_token (content plain (drop (i + 1) t))) ∷ lex in_string (drop (i + 1) t)
    quote_here = members.quote_left t i h (get_or_default t i 0 32 h ∙ q)

    by_children : (cs : List Child) (found : Option ℕ) → left_at t i ≡ token (string_token (content plain (drop (i + 1) t))) ∷ left_at t k → IfSome found (λ v. left_at t k ≡ colon ∷ left_at t v) → IfNone found ((ls : List Lexeme) → left_at t k ≡ colon ∷ ls → ⊥)
        → left_at t i ≡ inside true cs → FindsValue t true cs i found
    by_children [] found l y n e = absurd (members.no_end (content plain (drop (i + 1) t)) (sym (ap kind l) ∙ ap kind e))
    by_children (d ∷ cs) None l y n e = absurd (n _ (members.same_string _ d.0 _ _ (sym l ∙ e)).1)
    by_children (d ∷ cs) (Some v) l y n e =
        let p = members.same_string (content plain (drop (i + 1) t)) d.0 _ _ (sym l ∙ e) in
        record { child = d; more = cs; is = refl; value = ap tail (sym y ∙ p.1); name = λ x. (h, p.0) }

pub some_if : {A : Type 0} (found : Option A) (P : Type 0) (Q : A → Type 0) → P → IfSome found (λ v. P → Q v) → IfSome found Q
some_if None P Q p h = tt
some_if (Some v) P Q p h = h p

-- ---- the whole

pub part_stands : (t : List ℕ) (b : Bool) (cs : List Child) (i v : ℕ) (s : Span) (next : Option ℕ) (p : Part) → p.start ≡ i → p.value ≡ s → p.next ≡ next → s.start ≡ v → left_at t s.end ≡ skip 0 (left_at t v)
    → IfSome next (λ g. left_at t s.end ≡ comma ∷ left_at t g) → IfNone next ((ls : List Lexeme) → left_at t s.end ≡ comma ∷ ls → ⊥) → left_at t i ≡ inside b cs → Begins t b cs i v → IsPart t b cs p
part_stands t b cs i v s next p ei ev en es k y n e h =
    let behind : left_at t s.end ≡ others b h.more = k ∙ ap (skip 0) h.value ∙ skip-value h.child.1 (others b h.more) in
    record {
      child = h.child;
      more = h.more;
      is = h.is;
      left = ap (left_at t) ei ∙ e;
      value = ap (λ q. left_at t q.start) ev ∙ ap (left_at t) es ∙ h.value;
      behind = ap (λ q. left_at t q.end) ev ∙ behind;
      next = subst (λ o. MatchOption o (h.more ≡ []) (λ g. (left_at t g ≡ inside b h.more) × (others b h.more ≡ comma ∷ inside b h.more))) (sym en) (by_more h.more next behind y n);
      name = λ x. subst (λ o. (o < length t) × (content plain (drop (o + 1) t) ≡ Some h.child.0)) (sym ei) (h.name x);
    }
  where
    by_more : (more : List Child) (next : Option ℕ) → left_at t s.end ≡ others b more → IfSome next (λ g. left_at t s.end ≡ comma ∷ left_at t g) → IfNone next ((ls : List Lexeme) → left_at t s.end ≡ comma ∷ ls → ⊥)
        → MatchOption next (more ≡ []) (λ g. (left_at t g ≡ inside b more) × (others b more ≡ comma ∷ inside b more))
    by_more [] None l y n = refl
    by_more [] (Some g) l y n = absurd (not_comma b (sym y ∙ l))
      where
        not_comma : (b : Bool) → comma ∷ left_at t g ≡ others b [] → ⊥
        not_comma true e = absurd (omega (arith, ap kind e))
        not_comma false e = absurd (omega (arith, ap kind e))
    by_more (d ∷ more) None l y n = absurd (n _ l)
    by_more (d ∷ more) (Some g) l y n = (ap tail (sym y ∙ l), refl)

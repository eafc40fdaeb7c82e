-- A row with one more.
use Rattle.std.proofs.Common.{◌≡◌, ℕ, zero, suc, ◌<◌, ◌≤◌, Bool, true, false, List, [], ◌∷◌, ◌++◌, length, take, drop, Some, None, refl, sym, ap, ap₂, ◌∙◌, subst, inl, inr, arith, length-drop, take-append-drop}
use Rattle.std.proofs.Math.Seq.{take-length}
use Rattle.std.proofs.lemmas.List.{drop_all}
use Rattle.std.specs.Prelude.{option_map}
use Rattle.json.specs.Json.{Json, array, object, item, member}
use Rattle.json.specs.Find.{get_member}
use Rattle.json.specs.Lex.{token, comma, colon, between, lex}
use Rattle.json.specs.Print.{quoted}
use Rattle.json.specs.Token as tokens
use Rattle.json_text.specs.Added.{HasNoComma, IsBehindElement, IsBehindMember, IsPutInto, IsStyled}
use Rattle.json_text.specs.Changed.{add_child, elements_len, insert_element, push_member, slot_in}
use Rattle.json_lexemes.specs.Found.{IsCut}
use Rattle.json_lexemes.specs.Places.{left_at}
use Rattle.json_text.specs.Pointed.{child, if_some, put_member, IsTight}
use Rattle.json_text.specs.Rows.{AreInOrder, Child, inside, IsComma, IsInside, IsLast, IsMemberAhead, elements_in, members_in, naming, opening, others, slice, tree_in}
use Rattle.json_lexemes.specs.Spelled.{spelled, Says}
use Rattle.json_text.specs.declared.parts.Numbered.{Numbered}
use Rattle.json_lexemes.specs.declared.span.Span.{Span}
use Rattle.json_lexemes.proofs.Steps.{follows}
use Rattle.json_text.proofs.Stretches.{tight}
use Rattle.json_text.proofs.Rows.Cuts.{alls, inside_positive, no_comma, others_follow}
use Rattle.json_text.proofs.Rows.Leads.{colon_lead, comma_lead, Lead, leads, no_lead, quoted_lead, slice_lead, value_before}
use Rattle.json_text.proofs.Rows.Reached.{apart, behind_child, ends_solid}
use Rattle.json_text.proofs.Rows.Splices.{before_slice, beside, kept_front, slice_lexes, tight_end}
use Rattle.json_text.proofs.Rows.Styles.{by_colons, by_whitespace}
use Rattle.json_text.proofs.Rows.Trees.{spelled_in}

-- ---- the tree

pushed : (k : List ℕ) (w : Json) (cs : List Child) → push_member k w (members_in cs) ≡ members_in (cs ++ ((k, w) ∷ []))
pushed k w [] = refl
pushed k w (c ∷ cs) = ap (member c.0 c.1) (pushed k w cs)

pub new_member : (k : List ℕ) (w : Json) (cs : List Child) → get_member k (members_in cs) ≡ None → add_child k w (tree_in true cs) ≡ Some (tree_in true (cs ++ ((k, w) ∷ [])))
new_member k w cs e =
    ap (λ o. Some (object (if_some o (λ v. put_member k w (members_in cs)) (push_member k w (members_in cs))))) e ∙ ap (λ ms. Some (object ms)) (pushed k w cs)

inserted : (n : ℕ) (w : Json) (cs : List Child) → insert_element n w (elements_in cs) ≡ elements_in (take n cs ++ (([], w) ∷ drop n cs))
inserted zero w [] = refl
inserted (suc n) w [] = refl
inserted zero w (c ∷ cs) = refl
inserted (suc n) w (c ∷ cs) = ap (item c.1) (inserted n w cs)

pub elements_count : (cs : List Child) → elements_len (elements_in cs) ≡ length cs
elements_count [] = refl
elements_count (c ∷ cs) = ap suc (elements_count cs)

pub new_element : (k : List ℕ) (w : Json) (cs : List Child) (n : ℕ) → slot_in k (length cs) ≡ Some n → add_child k w (tree_in false cs) ≡ Some (tree_in false (take n cs ++ (([], w) ∷ drop n cs)))
new_element k w cs n e = ap (option_map (λ m. array (insert_element m w (elements_in cs)))) (ap (slot_in k) (elements_count cs) ∙ e) ∙ ap (λ js. Some (array js)) (inserted n w cs)

-- ---- behind the last

-- what is known of the last child's text
record LastText (t : List ℕ) (b : Bool) (cs : List Child) (r : Numbered) : Type 0 where
  child : Child
  left : left_at t r.part.start ≡ naming b child.0 ++ (spelled child.1 ++ others b [])
  value : left_at t r.part.value.start ≡ spelled child.1 ++ others b []
  behind : left_at t r.part.value.end ≡ others b []
  some : cs ≡ [] → ⊥

last_text : (t : List ℕ) (b : Bool) (cs : List Child) (n : ℕ) (r : Numbered) → IsLast t b cs n r → LastText t b cs r
last_text t b cs n r l =
    let num = l.numbered in
    let none : num.part.more ≡ [] = sym (behind_child n cs num.part.child num.part.more num.part.is) ∙ l.last in
    record {
      child = num.part.child;
      left = num.part.left ∙ ap (inside b) num.part.is ∙ ap (λ m. naming b num.part.child.0 ++ (spelled num.part.child.1 ++ others b m)) none;
      value = num.part.value ∙ ap (λ m. spelled num.part.child.1 ++ others b m) none;
      behind = num.part.behind ∙ ap (others b) none;
      some = λ e. absurd (omega (arith, ap length num.part.is, length-drop n cs, ap length e));
    }

-- with any value's text behind the comma
behind_says : (t : List ℕ) (b : Bool) (cs : List Child) (n : ℕ) (r : Numbered) (ahead : List ℕ) (k new : List ℕ) (w : Json) → Says t (tree_in b cs) → IsLast t b cs n r → Lead ahead (comma ∷ naming b k) → Says new w
    → Says (take r.part.value.end t ++ (ahead ++ (new ++ drop r.part.value.end t))) (tree_in b (cs ++ ((k, w) ∷ [])))
behind_says t b cs n r ahead k new w says l lead s =
    let h = last_text t b cs n r l in
    let ve = r.part.value.end in
    let a = alls b cs h.some in
    let rest : lex between (ahead ++ (new ++ drop ve t)) ≡ (comma ∷ naming b k) ++ (spelled w ++ others b []) =
    lead.lexed (new ++ drop ve t) ∙ ap (λ x. (comma ∷ naming b k) ++ x) (value_before new w (drop ve t) s (ap follows h.behind ∙ others_follow b []) ∙ ap (λ x. spelled w ++ x) h.behind) in
    kept_front t (ahead ++ (new ++ drop ve t)) a.lexemes (tree_in b cs) ve says l.numbered.places.cut.ends (a.is ∙ ap (λ x. a.lexemes ++ x) (sym h.behind)) (inr (ap follows rest)) ∙ ap (λ x. a.lexemes ++ x) rest ∙ sym (a.there (k, w))

value_text : (t : List ℕ) (b : Bool) (cs : List Child) (n : ℕ) (r : Numbered) → Says t (tree_in b cs) → IsLast t b cs n r → AreInOrder t r.part → IsTight (slice t r.part.value.start r.part.value.end) × ((v : Json) × Says (slice t r.part.value.start r.part.value.end) v)
value_text t b cs n r says l o =
    let h = last_text t b cs n r l in
    let c = l.numbered.places.cut in
    let other : r.part.value.end ≡ r.part.value.start → ⊥ = apart t h.child.1 (others b []) r.part.value.start r.part.value.end h.value h.behind in (
      tight t (tree_in b cs) r.part.value says c (strict r.part.value.start r.part.value.end o.value other) o.fits,
      (h.child.1, slice_lexes t r.part.value.start r.part.value.end (spelled h.child.1) (inl c.begins) c.ends (h.value ∙ ap (λ x. spelled h.child.1 ++ x) (sym h.behind)) o.value o.fits),
    )
  where
    strict : (i k : ℕ) → i ≤ k → (k ≡ i → ⊥) → i < k
    strict i k h n = grind arith

no_comma_behind : (t : List ℕ) (b : Bool) (cs : List Child) (n : ℕ) (r : Numbered) → IsLast t b cs n r → HasNoComma (drop r.part.value.end t)
no_comma_behind t b cs n r l ls e = no_comma b ls (sym (last_text t b cs n r l).behind ∙ e)

styled_member : (k : List ℕ) (cs : List Child) (front ahead trail back : List ℕ) → (cs ≡ [] → ⊥) → IsBehindMember k front ahead trail back → IsStyled k (tree_in true cs) front ahead trail back
styled_member k [] front ahead trail back n s = absurd (n refl)
styled_member k (c ∷ cs) front ahead trail back n s = s

-- ---- a member

pub member_behind : (t k put ahead : List ℕ) (cs : List Child) (n : ℕ) (r : Numbered) → Says t (tree_in true cs) → child k (tree_in true cs) ≡ None → IsLast t true cs n r → AreInOrder t r.part → IsMemberAhead t r k ahead
    → IsPutInto t (tree_in true cs) k put (take r.part.value.end t ++ (ahead ++ (put ++ ([] ++ drop r.part.value.end t))))
member_behind t k put ahead cs n r says none l o (i, e, gap, name, is) =
    let s = r.part.start in
    let vs = r.part.value.start in
    let ve = r.part.value.end in
    let h = last_text t true cs n r l in
    let place = l.numbered.places in
    let wide : vs ≤ length t = omega (arith, o.value, o.fits) in
    let whitespace_lead = by_whitespace (λ x. Lead x []) (slice t i s) (slice_lead t i s [] gap.begins place.begins gap.left gap.order (omega (arith, o.named, wide))) no_lead in
    let colon_led = by_colons (λ x. Lead x (colon ∷ [])) (slice t e vs) (slice_lead t e vs (colon ∷ []) name.begins place.cut.begins name.left name.order wide) colon_lead in
    let lead : Lead ahead (comma ∷ token (tokens.string k) ∷ colon ∷ []) =
    subst (λ x. Lead x (comma ∷ token (tokens.string k) ∷ colon ∷ [])) (sym is) (comma_lead _ _ (leads _ _ [] _ whitespace_lead (leads (quoted k) _ (token (tokens.string k) ∷ []) _ (quoted_lead k) colon_led))) in
    let whitespace : lex between (slice t i s) ≡ [] = slice_lexes t i s [] (inl gap.begins) (inl place.begins) gap.left gap.order (omega (arith, o.named, wide)) in
    let named : lex between (slice t s e) ≡ token (tokens.string h.child.0) ∷ [] =
    slice_lexes t s e (token (tokens.string h.child.0) ∷ []) (inl place.begins) (inl name.begins) (h.left ∙ ap (λ x. token (tokens.string h.child.0) ∷ colon ∷ x) (sym h.value) ∙ ap (λ x. token (tokens.string h.child.0) ∷ x) (sym name.left)) (omega (arith, name.behind)) (omega (arith, name.order, wide)) in
    let colons : lex between (slice t e vs) ≡ colon ∷ [] = slice_lexes t e vs (colon ∷ []) (inl name.begins) (inl place.cut.begins) name.left name.order wide in
    let spot : Span = record { start = s; end = e } in
    let cut : IsCut t spot = record { begins = place.begins; ends = inl name.begins; front = o.solid; back = inr name.back } in
    let name_tight : IsTight (slice t s e) = tight t (tree_in true cs) spot says cut name.behind (omega (arith, name.order, wide)) in
    let whole : take ve t ≡ take i t ++ (slice t i s ++ (slice t s e ++ (slice t e vs ++ slice t vs ve))) =
    sym (ap (λ x. take i t ++ (slice t i s ++ (slice t s e ++ x))) (beside t e vs ve name.order o.value) ∙ ap (λ x. take i t ++ (slice t i s ++ x)) (beside t s e ve (omega (arith, name.behind)) (omega (arith, name.order, o.value)))
    ∙ ap (λ x. take i t ++ x) (beside t i s ve gap.order (omega (arith, o.named, o.value))) ∙ before_slice t i ve (omega (arith, gap.order, o.named, o.value))) in
    record {
      front = take ve t;
      back = drop ve t;
      whole = sym (take-append-drop ve t);
      ahead = ahead;
      trail = [];
      styled = styled_member k cs (take ve t) ahead [] (drop ve t) h.some (
        slice t i s,
        slice t e vs,
        record {
          lead = take i t;
          name = slice t s e;
          value = slice t vs ve;
          is = whole;
          tight = (tight_end t (tree_in true cs) i says gap.some (omega (arith, gap.order, o.named, wide)) gap.back, whitespace);
          named = (name_tight, (h.child.0, named));
          colon = colons;
          says = value_text t true cs n r says l o;
        },
        is,
        refl,
        no_comma_behind t true cs n r l,
      );
      put_in = refl;
      alone = λ new w x. (tree_in true (cs ++ ((k, w) ∷ [])), new_member k w cs none, behind_says t true cs n r ahead k new w says l lead x);
    }

pub first_member : (t k put : List ℕ) (cs : List Child) (i : ℕ) → Says t (tree_in true cs) → cs ≡ [] → IsInside t true cs i → i ≤ length t → IsPutInto t (tree_in true cs) k put (take i t ++ ((quoted k ++ (58 ∷ [])) ++ (put ++ ([] ++ drop i t))))
first_member t k put cs i says none (left, begins, back) w =
    let lead : Lead (quoted k ++ (58 ∷ [])) (token (tokens.string k) ∷ colon ∷ []) = leads (quoted k) (58 ∷ []) (token (tokens.string k) ∷ []) (colon ∷ []) (quoted_lead k) colon_lead in
    let comes : left_at t i ≡ others true [] = left ∙ ap (inside true) none in
    let whole : spelled (tree_in true cs) ≡ (opening true ∷ []) ++ left_at t i = spelled_in true cs ∙ ap (λ x. opening true ∷ x) (sym left) in
    record {
      front = take i t;
      back = drop i t;
      whole = sym (take-append-drop i t);
      ahead = quoted k ++ (58 ∷ []);
      trail = [];
      styled = subst (λ ds. IsStyled k (tree_in true ds) (take i t) (quoted k ++ (58 ∷ [])) [] (drop i t)) (sym none) (tight_end t (tree_in true cs) i says (inside_positive t true cs i says left) w back, refl, refl);
      put_in = refl;
      alone = λ new w x. (
        tree_in true (cs ++ ((k, w) ∷ [])),
        new_member k w cs (ap (λ ds. get_member k (members_in ds)) none),
        kept_front t ((quoted k ++ (58 ∷ [])) ++ (new ++ drop i t)) (opening true ∷ []) (tree_in true cs) i says (inl begins) whole (inl begins)
            ∙ ap (λ y. opening true ∷ y) (lead.lexed (new ++ drop i t) ∙ ap (λ y. token (tokens.string k) ∷ colon ∷ y) (value_before new w (drop i t) x (ap follows comes ∙ others_follow true []) ∙ ap (λ y. spelled w ++ y) comes))
            ∙ sym (spelled_in true ((k, w) ∷ [])) ∙ ap (λ ds. spelled (tree_in true (ds ++ ((k, w) ∷ [])))) (sym none),
      );
    }

-- ---- an element behind the last, or alone

styled_element : (k : List ℕ) (cs : List Child) (front ahead trail back : List ℕ) → (cs ≡ [] → ⊥) → IsBehindElement front ahead trail back → IsStyled k (tree_in false cs) front ahead trail back
styled_element k [] front ahead trail back n s = absurd (n refl)
styled_element k (c ∷ cs) front ahead trail back n s = inl s

pub element_behind : (t k put ahead : List ℕ) (cs : List Child) (n : ℕ) (r : Numbered) → Says t (tree_in false cs) → slot_in k (length cs) ≡ Some (length cs) → IsLast t false cs n r → AreInOrder t r.part → IsComma t r.part.start ahead
    → IsPutInto t (tree_in false cs) k put (take r.part.value.end t ++ (ahead ++ (put ++ ([] ++ drop r.part.value.end t))))
element_behind t k put ahead cs n r says slot l o (i, gap, is) =
    let s = r.part.start in
    let ve = r.part.value.end in
    let h = last_text t false cs n r l in
    let place = l.numbered.places in
    let wide : s ≤ length t = omega (arith, o.named, o.value, o.fits) in
    let lead : Lead ahead (comma ∷ []) = subst (λ x. Lead x (comma ∷ [])) (sym is) (comma_lead _ [] (by_whitespace (λ x. Lead x []) (slice t i s) (slice_lead t i s [] gap.begins place.begins gap.left gap.order wide) no_lead)) in
    let reach : s ≤ ve = omega (arith, o.named, o.value) in
    let cut : IsCut t (record { start = s; end = ve }) = record { begins = place.begins; ends = place.cut.ends; front = o.solid; back = inr (ends_solid t h.child.1 (others false []) r.part.value h.value h.behind place.cut) } in
    let value : lex between (slice t s ve) ≡ spelled h.child.1 = slice_lexes t s ve (spelled h.child.1) (inl place.begins) place.cut.ends (h.left ∙ ap (λ x. spelled h.child.1 ++ x) (sym h.behind)) reach o.fits in
    let other : ve ≡ s → ⊥ = apart t h.child.1 (others false []) s ve h.left h.behind in
    record {
      front = take ve t;
      back = drop ve t;
      whole = sym (take-append-drop ve t);
      ahead = ahead;
      trail = [];
      styled = styled_element k cs (take ve t) ahead [] (drop ve t) h.some (
        slice t i s,
        record {
          lead = take i t;
          value = slice t s ve;
          is = sym (ap (λ x. take i t ++ x) (beside t i s ve gap.order reach) ∙ before_slice t i ve (omega (arith, gap.order, reach)));
          tight = (tight_end t (tree_in false cs) i says gap.some (omega (arith, gap.order, wide)) gap.back, slice_lexes t i s [] (inl gap.begins) (inl place.begins) gap.left gap.order wide);
          says = (tight t (tree_in false cs) (record { start = s; end = ve }) says cut (strict s ve reach other) o.fits, (h.child.1, value));
        },
        is,
        refl,
        no_comma_behind t false cs n r l,
      );
      put_in = refl;
      alone = λ new w x. (
        tree_in false (cs ++ (([], w) ∷ [])),
        new_element k w cs (length cs) slot ∙ ap₂ (λ a b. Some (tree_in false (a ++ (([], w) ∷ b)))) (take-length cs) (drop_all (length cs) cs (omega arith)),
        behind_says t false cs n r ahead [] new w says l lead x,
      );
    }
  where
    strict : (i k : ℕ) → i ≤ k → (k ≡ i → ⊥) → i < k
    strict i k h n = grind arith

pub first_element : (t k put : List ℕ) (cs : List Child) (i : ℕ) → Says t (tree_in false cs) → slot_in k 0 ≡ Some 0 → cs ≡ [] → IsInside t false cs i → i ≤ length t → IsPutInto t (tree_in false cs) k put (take i t ++ ([] ++ (put ++ ([] ++ drop i t))))
first_element t k put cs i says slot none (left, begins, back) w =
    let comes : left_at t i ≡ others false [] = left ∙ ap (inside false) none in
    let whole : spelled (tree_in false cs) ≡ (opening false ∷ []) ++ left_at t i = spelled_in false cs ∙ ap (λ x. opening false ∷ x) (sym left) in
    record {
      front = take i t;
      back = drop i t;
      whole = sym (take-append-drop i t);
      ahead = [];
      trail = [];
      styled = subst (λ ds. IsStyled k (tree_in false ds) (take i t) [] [] (drop i t)) (sym none) (tight_end t (tree_in false cs) i says (inside_positive t false cs i says left) w back, refl, refl);
      put_in = refl;
      alone = λ new w x. (
        tree_in false (([], w) ∷ []),
        ap (λ ds. add_child k w (tree_in false ds)) none ∙ new_element k w [] 0 slot,
        kept_front t (new ++ drop i t) (opening false ∷ []) (tree_in false cs) i says (inl begins) whole (inl begins)
            ∙ ap (λ y. opening false ∷ y) (value_before new w (drop i t) x (ap follows comes ∙ others_follow false []) ∙ ap (λ y. spelled w ++ y) comes) ∙ sym (spelled_in false (([], w) ∷ [])),
      );
    }

-- An element before another.
use Rattle.std.proofs.Common.{◌≡◌, ◌⊎◌, ℕ, zero, suc, ◌+◌, ◌<◌, ◌≤◌, ◌^◌, Bool, true, false, List, [], ◌∷◌, ◌++◌, length, take, drop, Option, Some, None, option_and_then, if◌then◌else◌, refl, sym, ap, ap₂, ◌∙◌, subst, inl, inr, arith, length-append, length-drop, take-append-drop}
use Rattle.std.proofs.lemmas.Bool.{cases_Bool, cases_eq}
use Rattle.std.proofs.lemmas.Option.{none-some}
use Rattle.std.proofs.lemmas.Slice.Eq.{bytes_eq-Decides}
use Rattle.std.specs.Prelude.{nat_le, option_map, bytes_eq}
use Rattle.json.specs.Json.{Json, array, Items, no_items, item}
use Rattle.json.specs.Lex.{comma, token, between, lex}
use Rattle.json.specs.Token as tokens
use Rattle.jsonptr.specs.Indexes.{IsIndexText, IsNoIndexText, place_in}
use Rattle.jsonptr.specs.PlaceLaws.{next_is_no_place}
use Rattle.jsonptr.specs.Places.{place_of, next_token}
use Rattle.jsonptr.specs.declared.index.Index.{Index}
use Rattle.jsonptr.specs.declared.index.Index.TheVariants.{Num, Next}
use Rattle.json_text.specs.Removed.{IsTightFront}
use Rattle.json_text.specs.Added.{HasOne, IsBeforeElement, IsPutInto, IsStyled}
use Rattle.json_text.specs.Changed.{add_child, elements_len, insert_element, slot_in}
use Rattle.json_lexemes.specs.Places.{left_at}
use Rattle.json_text.specs.Rows.{AreInOrder, Child, inside, IsComma, IsInside, IsLast, IsNumbered, IsTrail, elements_in, opening, others, slice, tree_in}
use Rattle.json_lexemes.specs.Spelled.{spelled, first_elements, more_elements, Says}
use Rattle.json_text.specs.declared.parts.Numbered.{Numbered}
use Rattle.json_lexemes.proofs.Counted.{lexemes, some_lexeme}
use Rattle.json_lexemes.proofs.Steps.{follows}
use Rattle.json_text.proofs.Stretches.{two_parts}
use Rattle.json_text.proofs.Rows.Cuts.{fronts, inside_there, no_comma}
use Rattle.json_text.proofs.Rows.Grows.{elements_count, new_element}
use Rattle.json_text.proofs.Rows.Leads.{comma_lead, Lead, no_lead, slice_lead, value_before}
use Rattle.json_text.proofs.Rows.Reached.{behind_child}
use Rattle.json_text.proofs.Rows.Splices.{before_slice, front_lexes, kept_front, ordered, slice_lexes, tight_behind, tight_end, tight_slice_end}
use Rattle.json_text.proofs.Rows.Styles.{by_whitespace}
use Rattle.json_text.proofs.Rows.Trees.{spelled_in}

-- ---- the slot

more_count : (js : Items) → suc (elements_len js) ≤ length (more_elements js)
more_count no_items = omega arith
more_count (item j js) = omega (arith, more_count js, length-append (spelled j) (more_elements js), some_lexeme j)

elements_within : (js : Items) → elements_len js ≤ length (first_elements js)
elements_within no_items = omega arith
elements_within (item j js) = omega (arith, more_count js, length-append (spelled j) (more_elements js), some_lexeme j)

pub count_within : (t : List ℕ) (cs : List Child) → Says t (tree_in false cs) → length cs ≤ length t
count_within t cs says = omega (arith, ap length says, lexemes between t, elements_within (elements_in cs), elements_count cs)

not_next : (t : List ℕ) → (t ≡ next_token → ⊥) → bytes_eq t next_token ≡ false
not_next t n = by_case (cases_Bool (bytes_eq t next_token))
  where
    by_case : (bytes_eq t next_token ≡ true) ⊎ (bytes_eq t next_token ≡ false) → bytes_eq t next_token ≡ false
    by_case (inl y) = absurd (n ((bytes_eq-Decides t next_token).0 y))
    by_case (inr f) = f

abbrev if_within : ℕ → ℕ → Option ℕ
if_within n i = if nat_le i n then Some i else None

slot_by_place : (t : List ℕ) (n : ℕ) (o : Option ℕ) → (t ≡ next_token → ⊥) → place_of t ≡ o → slot_in t n ≡ option_and_then (if_within n) o
slot_by_place t n o d e = ap₂ (λ b x. if b then Some n else option_and_then (if_within n) x) (not_next t d) e

place_no_next : (t : List ℕ) (i : ℕ) → place_of t ≡ Some i → t ≡ next_token → ⊥
place_no_next t i e f = absurd (none-some i (sym next_is_no_place ∙ ap place_of (sym f) ∙ e))

within_is : (n i : ℕ) → i ≤ n → if_within n i ≡ Some i
within_is n i h = let b : nat_le i n ≡ true = grind arith in ap (λ x. if x then Some i else None) b

past_is : (n i : ℕ) → n < i → if_within n i ≡ None
past_is n i h = let b : nat_le i n ≡ false = grind arith in ap (λ x. if x then Some i else None) b

pub slot_by : (t : List ℕ) (index : Index) (n m : ℕ) → IsIndexText t index → m ≡ place_in index n → m ≤ n → slot_in t n ≡ Some m
slot_by t (Num i) n m x e h = slot_by_place t n (Some i) (place_no_next t i x.0) x.0 ∙ within_is n i (omega (arith, e, h)) ∙ ap Some (sym e)
slot_by t Next n m x e h = ap (λ b. if b then Some n else option_and_then (if_within n) (place_of t)) ((bytes_eq-Decides t next_token).1 x) ∙ ap Some (sym e)

pub no_slot_past : (t : List ℕ) (index : Index) (n : ℕ) → IsIndexText t index → n < place_in index n → slot_in t n ≡ None
no_slot_past t (Num i) n x h = slot_by_place t n (Some i) (place_no_next t i x.0) x.0 ∙ past_is n i h
no_slot_past t Next n x h = absurd (omega (arith, h))

pub no_slot : (t : List ℕ) (n : ℕ) → n < 2 ^ 64 → IsNoIndexText t → slot_in t n ≡ None
no_slot t n h x = slot_by_place t n (place_of t) x.other refl ∙ by_place (place_of t) x.past
  where
    by_place : (o : Option ℕ) → ((i : ℕ) → o ≡ Some i → 2 ^ 64 ≤ i) → option_and_then (if_within n) o ≡ None
    by_place None past = refl
    by_place (Some i) past = past_is n i (omega (arith, h, past i refl))

pub nothing_added : (k : List ℕ) (w : Json) (cs : List Child) → slot_in k (length cs) ≡ None → add_child k w (tree_in false cs) ≡ None
nothing_added k w cs e = ap (option_map (λ m. array (insert_element m w (elements_in cs)))) (ap (slot_in k) (elements_count cs) ∙ e)

pub last_count : (t : List ℕ) (cs : List Child) (n : ℕ) (r : Numbered) → IsLast t false cs n r → length cs ≡ n + 1
last_count t cs n r l = omega (arith, ap length l.last, length-drop (n + 1) cs, ap length l.numbered.part.is, length-drop n cs)

-- ---- before an element

nothing : (n : ℕ) (c : Child) (more : List Child) → drop n [] ≡ c ∷ more → ⊥
nothing zero c more e = absurd (omega (arith, ap length e))
nothing (suc n) c more e = absurd (omega (arith, ap length e))

styled_before : (k : List ℕ) (cs : List Child) (n : ℕ) (c : Child) (more : List Child) (front trail back : List ℕ) → drop n cs ≡ c ∷ more → IsBeforeElement front trail back → IsStyled k (tree_in false cs) front [] trail back
styled_before k [] n c more front trail back e s = absurd (nothing n c more e)
styled_before k (d ∷ cs) n c more front trail back e s = inr (refl, s)

comma_of : (t trail : List ℕ) (r : Numbered) → (m : ℕ) (b : Bool) (cs : List Child) → IsNumbered t b cs m r → AreInOrder t r.part → IsComma t r.part.start trail → Lead trail (comma ∷ [])
comma_of t trail r m b cs num o (i, gap, is) =
    subst (λ x. Lead x (comma ∷ [])) (sym is) (comma_lead _ [] (by_whitespace (λ x. Lead x []) (slice t i r.part.start) (slice_lead t i r.part.start [] gap.begins num.places.begins gap.left gap.order (omega (arith, o.named, o.value, o.fits))) no_lead))

trail_lead : (t trail : List ℕ) (cs : List Child) (n from : ℕ) (r : Numbered) → IsNumbered t false cs n r → AreInOrder t r.part → IsInside t false cs from → IsTrail t from n r trail → Lead trail (comma ∷ [])
trail_lead t trail cs n from r num o h x = by_case (x cs h)
  where
    by_case : ((n ≡ 0) × ((r2 : Numbered) × IsNumbered t false cs 1 r2 × AreInOrder t r2.part × IsComma t r2.part.start trail)) ⊎ ((n ≡ 0 → drop 1 cs ≡ []) × IsComma t r.part.start trail) → Lead trail (comma ∷ [])
    by_case (inl (z, (r2, num2, o2, c))) = comma_of t trail r2 1 false cs num2 o2 c
    by_case (inr (z, c)) = comma_of t trail r n false cs num o c

element_lexes : (t : List ℕ) (cs : List Child) (n : ℕ) (r : Numbered) → (num : IsNumbered t false cs n r) → AreInOrder t r.part → lex between (slice t r.part.start r.part.value.end) ≡ spelled num.part.child.1
element_lexes t cs n r num o =
    slice_lexes t r.part.start r.part.value.end (spelled num.part.child.1) (inl num.places.begins) num.places.cut.ends
    (num.part.left ∙ ap (inside false) num.part.is ∙ ap (λ y. spelled num.part.child.1 ++ y) (sym num.part.behind)) (omega (arith, o.named, o.value)) o.fits

tight_back : (t : List ℕ) (cs : List Child) (n : ℕ) (r : Numbered) → IsNumbered t false cs n r → AreInOrder t r.part → IsTightFront (drop r.part.start t)
tight_back t cs n r num o = tight_behind t r.part.start o.solid (inside_there t false (drop n cs) r.part.start num.part.left)

before_second : (t trail : List ℕ) (cs : List Child) (n : ℕ) (r r2 : Numbered) → Says t (tree_in false cs) → IsNumbered t false cs n r → AreInOrder t r.part → n ≡ 0 → IsNumbered t false cs 1 r2 → AreInOrder t r2.part → IsComma t r2.part.start trail
    → IsBeforeElement (take r.part.start t) trail (drop r.part.start t)
before_second t trail cs n r r2 says num o z num2 o2 (i, gap, is) =
    let s = r.part.start in
    let ve = r.part.value.end in
    let s2 = r2.part.start in
    let wide2 : s2 ≤ length t = omega (arith, o2.named, o2.value, o2.fits) in
    let reach : s ≤ ve = omega (arith, o.named, o.value) in
    let start : left_at t s ≡ inside false cs = num.part.left ∙ ap (λ m. inside false (drop m cs)) z in
    let one : drop 1 cs ≡ num.part.more = ap (λ m. drop (m + 1) cs) (sym z) ∙ behind_child n cs num.part.child num.part.more num.part.is in
    let next : left_at t i ≡ inside false num.part.more = gap.left ∙ num2.part.left ∙ ap (inside false) one in
    let some : num.part.more ≡ num2.part.child ∷ num2.part.more = sym one ∙ num2.part.is in
    let comes : left_at t ve ≡ comma ∷ left_at t i = num.part.behind ∙ ap (others false) some ∙ ap (λ ds. comma ∷ inside false ds) (sym some) ∙ ap (λ x. comma ∷ x) (sym next) in
    let later : ve < i = ordered t i ve (inl gap.begins) num.places.cut.ends o.fits (omega (arith, ap length comes)) in (
      slice t i s2,
      is,
      tight_back t cs n r num o,
      inl (
        front_lexes t (opening false ∷ []) (tree_in false cs) s says (inl num.places.begins) (spelled_in false cs ∙ ap (λ x. opening false ∷ x) (sym start)),
        record {
          value = slice t s ve;
          gap = slice t ve i;
          rest = drop s2 t;
          is = sym (ap (λ x. slice t s ve ++ x) (ap (λ x. slice t ve i ++ x) (two_parts t i s2 gap.order) ∙ two_parts t ve i (omega (arith, later))) ∙ two_parts t s ve reach);
          says = (num.part.child.1, element_lexes t cs n r num o);
          comes = (tight_slice_end t (tree_in false cs) ve i says later (omega (arith, gap.order, wide2)) gap.back, slice_lexes t ve i (comma ∷ []) num.places.cut.ends (inl gap.begins) comes (omega (arith, later)) (omega (arith, gap.order, wide2)));
          tight = (slice_lexes t i s2 [] (inl gap.begins) (inl num2.places.begins) gap.left gap.order wide2, tight_behind t s2 o2.solid (inside_there t false (drop 1 cs) s2 num2.part.left));
        },
      ),
    )

has_one : (t : List ℕ) (cs : List Child) (n : ℕ) (r : Numbered) → Says t (tree_in false cs) → IsNumbered t false cs n r → AreInOrder t r.part → (n ≡ 0 → drop 1 cs ≡ []) → lex between (take r.part.start t) ≡ token tokens.begin_array ∷ [] → HasOne (drop r.part.start t)
has_one t cs n r says num o last front = by_number (cases_eq n 0)
  where
    by_number : (n ≡ 0) ⊎ (n ≡ 0 → ⊥) → HasOne (drop r.part.start t)
    by_number (inl z) =
        let none : num.part.more ≡ [] = sym (behind_child n cs num.part.child num.part.more num.part.is) ∙ ap (λ m. drop (m + 1) cs) z ∙ last z in
        record {
          value = slice t r.part.start r.part.value.end;
          rest = drop r.part.value.end t;
          is = sym (two_parts t r.part.start r.part.value.end (omega (arith, o.named, o.value)));
          says = (num.part.child.1, element_lexes t cs n r num o);
          last = λ ls e. no_comma false ls (ap (others false) (sym none) ∙ sym num.part.behind ∙ e);
        }
    by_number (inr z) =
        let f = fronts false cs n num.part.child num.part.more num.part.is in
        let is : lex between (take r.part.start t) ≡ f.lexemes = front_lexes t f.lexemes (tree_in false cs) r.part.start says (inl num.places.begins) (f.is ∙ ap (λ x. f.lexemes ++ x) (sym num.part.left)) in
        absurd (omega (arith, f.more z, ap length (sym is ∙ front)))

before_itself : (t trail : List ℕ) (cs : List Child) (n : ℕ) (r : Numbered) → Says t (tree_in false cs) → IsNumbered t false cs n r → AreInOrder t r.part → (n ≡ 0 → drop 1 cs ≡ []) → IsComma t r.part.start trail → IsBeforeElement (take r.part.start t) trail (drop r.part.start t)
before_itself t trail cs n r says num o last (i, gap, is) =
    let s = r.part.start in
    let wide : s ≤ length t = omega (arith, o.named, o.value, o.fits) in (
      slice t i s,
      is,
      tight_back t cs n r num o,
      inr (
        take i t,
        sym (before_slice t i s gap.order),
        tight_end t (tree_in false cs) i says gap.some (omega (arith, gap.order, wide)) gap.back,
        slice_lexes t i s [] (inl gap.begins) (inl num.places.begins) gap.left gap.order wide,
        has_one t cs n r says num o last,
      ),
    )

before_style : (t trail : List ℕ) (cs : List Child) (n from : ℕ) (r : Numbered) → Says t (tree_in false cs) → IsNumbered t false cs n r → AreInOrder t r.part → IsInside t false cs from → IsTrail t from n r trail → IsBeforeElement (take r.part.start t) trail (drop r.part.start t)
before_style t trail cs n from r says num o h x = by_case (x cs h)
  where
    by_case : ((n ≡ 0) × ((r2 : Numbered) × IsNumbered t false cs 1 r2 × AreInOrder t r2.part × IsComma t r2.part.start trail)) ⊎ ((n ≡ 0 → drop 1 cs ≡ []) × IsComma t r.part.start trail) → IsBeforeElement (take r.part.start t) trail (drop r.part.start t)
    by_case (inl (z, (r2, num2, o2, c))) = before_second t trail cs n r r2 says num o z num2 o2 c
    by_case (inr (last, c)) = before_itself t trail cs n r says num o last c

pub element_before : (t k put trail : List ℕ) (cs : List Child) (n from : ℕ) (r : Numbered) → Says t (tree_in false cs) → slot_in k (length cs) ≡ Some n → IsNumbered t false cs n r → AreInOrder t r.part → IsInside t false cs from → IsTrail t from n r trail
    → IsPutInto t (tree_in false cs) k put (take r.part.start t ++ ([] ++ (put ++ (trail ++ drop r.part.start t))))
element_before t k put trail cs n from r says slot num o h x =
    let s = r.part.start in
    let f = fronts false cs n num.part.child num.part.more num.part.is in
    let lead : Lead trail (comma ∷ []) = trail_lead t trail cs n from r num o h x in
    let behind : lex between (trail ++ drop s t) ≡ comma ∷ inside false (num.part.child ∷ num.part.more) = lead.lexed (drop s t) ∙ ap (λ y. comma ∷ y) (num.part.left ∙ ap (inside false) num.part.is) in
    record {
      front = take s t;
      back = drop s t;
      whole = sym (take-append-drop s t);
      ahead = [];
      trail = trail;
      styled = styled_before k cs n num.part.child num.part.more (take s t) trail (drop s t) num.part.is (before_style t trail cs n from r says num o h x);
      put_in = refl;
      alone = λ new w y. (
        tree_in false (take n cs ++ (([], w) ∷ drop n cs)),
        new_element k w cs n slot,
        kept_front t (new ++ (trail ++ drop s t)) f.lexemes (tree_in false cs) s says (inl num.places.begins) (f.is ∙ ap (λ z. f.lexemes ++ z) (sym num.part.left)) (inl num.places.begins)
            ∙ ap (λ z. f.lexemes ++ z) (value_before new w (trail ++ drop s t) y (ap follows behind) ∙ ap (λ z. spelled w ++ z) (behind ∙ ap (others false) (sym num.part.is)))
            ∙ sym (f.there ([], w) (drop n cs)),
      );
    }

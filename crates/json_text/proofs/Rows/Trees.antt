-- A row as the members of an object, or as the elements of an array.
use Rattle.std.proofs.Common.{◌≡◌, ℕ, zero, suc, ◌+◌, ◌-◌, ◌<◌, ◌≤◌, ◌^◌, Bool, true, false, cond, List, [], ◌∷◌, ◌++◌, length, take, drop, get_or, Option, Some, None, refl, sym, ap, ap₂, ◌∙◌, subst, inl, arith}
use Rattle.std.proofs.lemmas.Option.{none-some, same_Some}
use Rattle.std.specs.Prelude.{option_map, option_and_then}
use Rattle.std.specs.Str.{bytes_eq}
use Rattle.json.specs.Json.{Json, array, object, Items, no_items, item, Members, no_members, member}
use Rattle.json.specs.Find.{get_item}
use Rattle.json.specs.Lex.{token, comma, colon, between}
use Rattle.json.specs.Token as t
use Rattle.json.specs.Word.{is_space}
use Rattle.jsonptr.specs.Indexes.{IsNoIndexText}
use Rattle.jsonptr.specs.PlaceLaws.{next_is_no_place}
use Rattle.jsonptr.specs.Places.{place_of, next_token}
use Rattle.json_text.specs.Changed.{remove_element, without}
use Rattle.json_lexemes.specs.Found.{named, numbered, or_else}
use Rattle.json_text.specs.Less.{HasInside}
use Rattle.json_lexemes.specs.Places.{mode_at, HasEnd}
use Rattle.json_text.specs.Pointed.{child}
use Rattle.json_text.specs.Rows.{Child, elements_in, inside, last_named, members_in, opening, others, tree_in}
use Rattle.json_lexemes.specs.Spelled.{spelled, first_elements, more_elements, first_members, more_members, Says}
use Rattle.json_text.proofs.Around.{named_is}
use Rattle.json_lexemes.proofs.Counted.{element_within}
use Rattle.json_text.proofs.Tokens.{IsArray, IsObject}

-- ---- spelled

pub more_members_in : (cs : List Child) → more_members (members_in cs) ≡ others true cs
more_members_in [] = refl
more_members_in (c ∷ cs) = ap (λ l. comma ∷ token (t.string c.0) ∷ colon ∷ (spelled c.1 ++ l)) (more_members_in cs)

first_members_in : (cs : List Child) → first_members (members_in cs) ≡ inside true cs
first_members_in [] = refl
first_members_in (c ∷ cs) = ap (λ l. token (t.string c.0) ∷ colon ∷ (spelled c.1 ++ l)) (more_members_in cs)

pub more_elements_in : (cs : List Child) → more_elements (elements_in cs) ≡ others false cs
more_elements_in [] = refl
more_elements_in (c ∷ cs) = ap (λ l. comma ∷ (spelled c.1 ++ l)) (more_elements_in cs)

pub first_elements_in : (cs : List Child) → first_elements (elements_in cs) ≡ inside false cs
first_elements_in [] = refl
first_elements_in (c ∷ cs) = ap (λ l. spelled c.1 ++ l) (more_elements_in cs)

pub spelled_in : (b : Bool) (cs : List Child) → spelled (tree_in b cs) ≡ opening b ∷ inside b cs
spelled_in true cs = ap (λ l. token t.begin_object ∷ l) (first_members_in cs)
spelled_in false cs = ap (λ l. token t.begin_array ∷ l) (first_elements_in cs)

-- ---- the row of an object, and of an array

members_row : Members → List Child
members_row no_members = []
members_row (member k j ms) = (k, j) ∷ members_row ms

members_back : (ms : Members) → members_in (members_row ms) ≡ ms
unfolding members_row
members_back no_members = refl
members_back (member k j ms) = ap (member k j) (members_back ms)

elements_row : Items → List Child
elements_row no_items = []
elements_row (item j js) = ([], j) ∷ elements_row js

elements_back : (js : Items) → elements_in (elements_row js) ≡ js
unfolding elements_row
elements_back no_items = refl
elements_back (item j js) = ap (item j) (elements_back js)

pub solid_before : (t : List ℕ) (o c : ℕ) → get_or t o 0 ≡ c → is_space c ≡ false → HasEnd t (o + 1)
solid_before t o c e s =
    let here : o + 1 - 1 ≡ o = omega arith in
    inl (ap (λ i. is_space (get_or t i 0)) here ∙ ap is_space e ∙ s)

pub object_row : (text : List ℕ) (v : Json) (o : ℕ) → get_or text o 0 ≡ 123 → mode_at text (o + 1) ≡ between → IsObject text v o → HasInside text v (record { named = true; start = o + 1 })
object_row text v o b m p =
    let back = members_back p.members in
    (members_row p.members, p.is ∙ ap object (sym back), (p.inside ∙ ap first_members (sym back) ∙ first_members_in (members_row p.members), m, solid_before text o 123 b refl))

pub array_row : (text : List ℕ) (v : Json) (o : ℕ) → get_or text o 0 ≡ 91 → mode_at text (o + 1) ≡ between → IsArray text v o → HasInside text v (record { named = false; start = o + 1 })
array_row text v o b m p =
    let back = elements_back p.elements in
    (elements_row p.elements, p.is ∙ ap array (sym back), (p.inside ∙ ap first_elements (sym back) ∙ first_elements_in (elements_row p.elements), m, solid_before text o 91 b refl))

-- ---- the last of a name

pub none_named : (k : List ℕ) (cs : List Child) → last_named k cs ≡ None → named k (members_in cs) ≡ None
none_named k [] e = refl
none_named k (c ∷ cs) e = by_tail (last_named k cs) (bytes_eq c.0 k) e (none_named k cs)
  where
    by_tail : (o : Option ℕ) (b : Bool) → or_else (option_map suc o) (cond b (Some zero) None) ≡ None → (o ≡ None → named k (members_in cs) ≡ None) → or_else (named k (members_in cs)) (cond b (Some (c.1, more_members (members_in cs))) None) ≡ None
    by_tail (Some m) b e ih = absurd (none-some (suc m) (sym e))
    by_tail None true e ih = absurd (none-some zero (sym e))
    by_tail None false e ih = ap (λ x. or_else x None) (ih refl)

-- the last member of the name k is the one of number n
pub record NamedAt (k : List ℕ) (cs : List Child) (n : ℕ) : Type 0 where
  pub child : Child
  pub more : List Child
  pub is : drop n cs ≡ child ∷ more
  pub value : named k (members_in cs) ≡ Some (child.1, others true more)
  pub less : without k (members_in (take n cs ++ more)) ≡ without k (members_in cs)

pub named_at : (k : List ℕ) (cs : List Child) (n : ℕ) → last_named k cs ≡ Some n → NamedAt k cs n
named_at k [] n e = absurd (none-some n e)
named_at k (c ∷ cs) n e = by_tail (last_named k cs) (bytes_eq c.0 k) refl refl (λ m h. named_at k cs m h) e
  where
    later : (m : ℕ) (b : Bool) → bytes_eq c.0 k ≡ b → NamedAt k cs m → NamedAt k (c ∷ cs) (suc m)
    later m b f r = record {
      child = r.child;
      more = r.more;
      is = r.is;
      value = ap (λ o. or_else o (cond (bytes_eq c.0 k) (Some (c.1, more_members (members_in cs))) None)) r.value;
      less = ap (λ w. cond (bytes_eq c.0 k) w (member c.0 c.1 w)) r.less;
    }

    by_tail : (o : Option ℕ) (b : Bool) → last_named k cs ≡ o → bytes_eq c.0 k ≡ b → ((m : ℕ) → last_named k cs ≡ Some m → NamedAt k cs m) → or_else (option_map suc o) (cond b (Some zero) None) ≡ Some n → NamedAt k (c ∷ cs) n
    by_tail (Some m) b h f ih e = subst (NamedAt k (c ∷ cs)) (same_Some (suc m) n e) (later m b f (ih m h))
    by_tail None true h f ih e = subst (NamedAt k (c ∷ cs)) (same_Some zero n e) (record {
      child = c;
      more = cs;
      is = refl;
      value = ap₂ (λ o b. or_else o (cond b (Some (c.1, more_members (members_in cs))) None)) (none_named k cs h) f ∙ ap (λ l. Some (c.1, l)) (more_members_in cs);
      less = ap (λ b. cond b (without k (members_in cs)) (member c.0 c.1 (without k (members_in cs)))) (sym f);
    })
    by_tail None false h f ih e = absurd (none-some n e)

pub no_member : (k : List ℕ) (cs : List Child) → last_named k cs ≡ None → child k (object (members_in cs)) ≡ None
no_member k cs e = sym (named_is k (members_in cs)) ∙ ap (option_map (λ p. p.0)) (none_named k cs e)

-- ---- an element

pub record ElementAt (cs : List Child) (n : ℕ) (c : Child) (more : List Child) : Type 0 where
  pub value : numbered n (elements_in cs) ≡ Some (c.1, others false more)
  pub less : remove_element n (elements_in cs) ≡ elements_in (take n cs ++ more)

pub element_at : (cs : List Child) (n : ℕ) (c : Child) (more : List Child) → drop n cs ≡ c ∷ more → ElementAt cs n c more
element_at [] zero c more e = absurd (omega (arith, ap length e))
element_at [] (suc n) c more e = absurd (omega (arith, ap length e))
element_at (d ∷ cs) zero c more e =
    let same : d ≡ c = ap (λ l. get_or l 0 d) e in
    let rest : cs ≡ more = ap (drop 1) e in
    record { value = ap₂ (λ x l. Some (x.1, l)) same (more_elements_in cs ∙ ap (others false) rest); less = ap elements_in rest }
element_at (d ∷ cs) (suc n) c more e = let r = element_at cs n c more e in record { value = r.value; less = ap (item d.1) r.less }

pub no_element : (cs : List Child) (n : ℕ) → drop n cs ≡ [] → get_item n (elements_in cs) ≡ None
no_element [] n e = refl
no_element (d ∷ cs) zero e = absurd (omega (arith, ap length e))
no_element (d ∷ cs) (suc n) e = no_element cs n e

pub next_is_no_element : (cs : List Child) (t : List ℕ) → t ≡ next_token → child t (array (elements_in cs)) ≡ None
next_is_no_element cs t e = ap (option_and_then (λ k. get_item k (elements_in cs))) (ap place_of e ∙ next_is_no_place)

pub no_index_no_element : (text : List ℕ) (cs : List Child) (t : List ℕ) → Says text (array (elements_in cs)) → length text < 2 ^ 64 → IsNoIndexText t → child t (array (elements_in cs)) ≡ None
no_index_no_element text cs t says h n = by_place (place_of t) n.past
  where
    by_element : (i : ℕ) (v : Option Json) → get_item i (elements_in cs) ≡ v → 2 ^ 64 ≤ i → get_item i (elements_in cs) ≡ None
    by_element i None e b = e
    by_element i (Some v) e b = absurd (omega (arith, element_within text i (elements_in cs) v says e, h, b))

    by_place : (m : Option ℕ) → ((i : ℕ) → m ≡ Some i → 2 ^ 64 ≤ i) → option_and_then (λ k. get_item k (elements_in cs)) m ≡ None
    by_place None past = refl
    by_place (Some i) past = by_element i (get_item i (elements_in cs)) refl (past i refl)

-- In a tree: what is spelled before a child, and behind it, whatever the child is.
use Rattle.std.proofs.Common.{◌≡◌, ℕ, zero, suc, Bool, true, false, cond, List, [], ◌∷◌, ◌++◌, Option, Some, None, refl, sym, ap, ap₂, ◌∙◌, subst, append_assoc, append-nil}
use Rattle.std.proofs.lemmas.Option.{none-some, same_Some}
use Rattle.std.specs.Prelude.{option_map}
use Rattle.std.specs.Str.{bytes_eq}
use Rattle.json.specs.Json.{Json, array, object, Items, no_items, item, Members, no_members, member}
use Rattle.json.specs.Find.{get_member, get_item, later_or}
use Rattle.json.specs.Token as t
use Rattle.json.specs.Lex.{Lexeme, token, comma, colon}
use Rattle.json_lexemes.specs.Found.{Placed, or_else, named, numbered}
use Rattle.json_text.specs.Pointed.{if_some, put_element, put_member}
use Rattle.json_lexemes.specs.Spelled.{spelled, first_elements, more_elements, first_members, more_members}
use Rattle.json_lexemes.proofs.Steps.{follows}

pub record Around (v : Json) (behind whole : List Lexeme) (put : Json → List Lexeme) : Type 0 where
  pub before : List Lexeme
  pub is : whole ≡ before ++ (spelled v ++ behind)
  pub there : (w : Json) → put w ≡ before ++ (spelled w ++ behind)

pub further : {v : Json} {behind whole : List Lexeme} {put : Json → List Lexeme} (a : List Lexeme) → Around v behind whole put → Around v behind (a ++ whole) (λ w. a ++ put w)
further a r = record {
  before = a ++ r.before;
  is = ap (λ l. a ++ l) r.is ∙ sym (append_assoc a r.before _);
  there = λ w. ap (λ l. a ++ l) (r.there w) ∙ sym (append_assoc a r.before _);
}

pub alone : (v : Json) → Around v [] (spelled v) spelled
alone v = record { before = []; is = sym (append-nil (spelled v)); there = λ w. sym (append-nil (spelled w)) }

-- ---- elements

more_around : (n : ℕ) (js : Items) (v : Json) (ls : List Lexeme) → numbered n js ≡ Some (v, ls) → Around v ls (more_elements js) (λ w. more_elements (put_element n w js))
more_around n no_items v ls e = absurd (none-some _ e)
more_around zero (item j js) v ls e = let p = same_Some (j, more_elements js) (v, ls) e in record { before = comma ∷ []; is = ap (λ q. comma ∷ (spelled q.0 ++ q.1)) p; there = λ w. ap (λ q. comma ∷ (spelled w ++ q.1)) p }
more_around (suc n) (item j js) v ls e = further (comma ∷ spelled j) (more_around n js v ls e)

first_around : (n : ℕ) (js : Items) (v : Json) (ls : List Lexeme) → numbered n js ≡ Some (v, ls) → Around v ls (first_elements js) (λ w. first_elements (put_element n w js))
first_around n no_items v ls e = absurd (none-some _ e)
first_around zero (item j js) v ls e = let p = same_Some (j, more_elements js) (v, ls) e in record { before = []; is = ap (λ q. spelled q.0 ++ q.1) p; there = λ w. ap (λ q. spelled w ++ q.1) p }
first_around (suc n) (item j js) v ls e = further (spelled j) (more_around n js v ls e)

pub element_around : (n : ℕ) (js : Items) (v : Json) (ls : List Lexeme) → numbered n js ≡ Some (v, ls) → Around v ls (spelled (array js)) (λ w. spelled (array (put_element n w js)))
element_around n js v ls e = further (token t.begin_array ∷ []) (first_around n js v ls e)

pub numbered_is : (n : ℕ) (js : Items) → option_map (λ p. p.0) (numbered n js) ≡ get_item n js
numbered_is n no_items = refl
numbered_is zero (item j js) = refl
numbered_is (suc n) (item j js) = numbered_is n js

more_follows : (js : Items) → follows (more_elements js) ≡ true
more_follows no_items = refl
more_follows (item j js) = refl

pub element_follows : (n : ℕ) (js : Items) (v : Json) (ls : List Lexeme) → numbered n js ≡ Some (v, ls) → follows ls ≡ true
element_follows n no_items v ls e = absurd (none-some _ e)
element_follows zero (item j js) v ls e = let p = same_Some (j, more_elements js) (v, ls) e in ap (λ q. follows q.1) (sym p) ∙ more_follows js
element_follows (suc n) (item j js) v ls e = element_follows n js v ls e

-- ---- members

first_of : Placed → Json
first_of p = p.0

mapped_or : (a b : Option Placed) → option_map (λ p. p.0) (or_else a b) ≡ later_or (option_map (λ p. p.0) a) (option_map (λ p. p.0) b)
mapped_or None b = refl
mapped_or (Some a) b = refl

mapped_cond : (b : Bool) (p : Placed) → option_map (λ p. p.0) (cond b (Some p) None) ≡ cond b (Some p.0) None
mapped_cond true p = refl
mapped_cond false p = refl

pub named_is : (k : List ℕ) (ms : Members) → option_map (λ p. p.0) (named k ms) ≡ get_member k ms
named_is k no_members = refl
named_is k (member l j ms) =
    mapped_or (named k ms) (cond (bytes_eq l k) (Some (j, more_members ms)) None) ∙ ap₂ later_or (named_is k ms) (mapped_cond (bytes_eq l k) (j, more_members ms))

-- a member with the tail behind it: the one named is among the tail, or else is this one
abbrev Split : Option Placed → Bool → Json → Members → Placed → Type 0
Split o b j ms p = or_else o (cond b (Some (j, more_members ms)) None) ≡ Some p

module _ (k l : List ℕ) (j v : Json) (ms : Members) (ls : List Lexeme) where
  -- as put_member is, of what is known of the tail
  put_by : Option Json → Bool → Json → Members
  put_by o b w = if_some o (λ later. member l j (put_member k w ms)) (member l (cond b w j) ms)

  here : List Lexeme
  here = token (t.string l) ∷ colon ∷ []

  by_tail : (o : Option Placed) (b : Bool) → Split o b j ms (v, ls) → ((e : o ≡ Some (v, ls)) → Around v ls (more_members ms) (λ w. more_members (put_member k w ms)))
      → Around v ls (first_members (member l j ms)) (λ w. first_members (put_by (option_map (λ p. p.0) o) b w))
  unfolding put_by here
  by_tail (Some q) b e more = further (here ++ spelled j) (more e)
  by_tail None true e more = let p = same_Some (j, more_members ms) (v, ls) e in record { before = here; is = ap (λ q. here ++ (spelled q.0 ++ q.1)) p; there = λ w. ap (λ q. here ++ (spelled w ++ q.1)) p }
  by_tail None false e more = absurd (none-some _ e)

  by_tail_more : (o : Option Placed) (b : Bool) → Split o b j ms (v, ls) → ((e : o ≡ Some (v, ls)) → Around v ls (more_members ms) (λ w. more_members (put_member k w ms)))
      → Around v ls (more_members (member l j ms)) (λ w. more_members (put_by (option_map (λ p. p.0) o) b w))
  unfolding put_by here
  by_tail_more (Some q) b e more = further (comma ∷ (here ++ spelled j)) (more e)
  by_tail_more None true e more = let p = same_Some (j, more_members ms) (v, ls) e in record { before = comma ∷ here; is = ap (λ q. comma ∷ (here ++ (spelled q.0 ++ q.1))) p; there = λ w. ap (λ q. comma ∷ (here ++ (spelled w ++ q.1))) p }
  by_tail_more None false e more = absurd (none-some _ e)

more_members_around : (k : List ℕ) (ms : Members) (v : Json) (ls : List Lexeme) → named k ms ≡ Some (v, ls) → Around v ls (more_members ms) (λ w. more_members (put_member k w ms))
unfolding put_by
more_members_around k no_members v ls e = absurd (none-some _ e)
more_members_around k (member l j ms) v ls e =
    subst (λ o. Around v ls (more_members (member l j ms)) (λ w. more_members (put_by k l j v ms ls o (bytes_eq l k) w))) (named_is k ms)
    (by_tail_more k l j v ms ls (named k ms) (bytes_eq l k) e (more_members_around k ms v ls))

first_members_around : (k : List ℕ) (ms : Members) (v : Json) (ls : List Lexeme) → named k ms ≡ Some (v, ls) → Around v ls (first_members ms) (λ w. first_members (put_member k w ms))
unfolding put_by
first_members_around k no_members v ls e = absurd (none-some _ e)
first_members_around k (member l j ms) v ls e =
    subst (λ o. Around v ls (first_members (member l j ms)) (λ w. first_members (put_by k l j v ms ls o (bytes_eq l k) w))) (named_is k ms)
    (by_tail k l j v ms ls (named k ms) (bytes_eq l k) e (more_members_around k ms v ls))

pub member_around : (k : List ℕ) (ms : Members) (v : Json) (ls : List Lexeme) → named k ms ≡ Some (v, ls) → Around v ls (spelled (object ms)) (λ w. spelled (object (put_member k w ms)))
member_around k ms v ls e = further (token t.begin_object ∷ []) (first_members_around k ms v ls e)

more_members_follow : (ms : Members) → follows (more_members ms) ≡ true
more_members_follow no_members = refl
more_members_follow (member l j ms) = refl

pub member_follows : (k : List ℕ) (ms : Members) (v : Json) (ls : List Lexeme) → named k ms ≡ Some (v, ls) → follows ls ≡ true
member_follows k no_members v ls e = absurd (none-some _ e)
member_follows k (member l j ms) v ls e = by_tail (named k ms) (bytes_eq l k) e (member_follows k ms v ls)
  where
    by_tail : (o : Option Placed) (b : Bool) → Split o b j ms (v, ls) → (o ≡ Some (v, ls) → follows ls ≡ true) → follows ls ≡ true
    by_tail (Some q) b e more = more e
    by_tail None true e more = let p = same_Some (j, more_members ms) (v, ls) e in ap (λ q. follows q.1) (sym p) ∙ more_members_follow ms
    by_tail None false e more = absurd (none-some _ e)

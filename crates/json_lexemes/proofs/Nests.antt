-- The brackets of a text nest as deep as its tree, and it says one tree at most.
use Rattle.std.proofs.Common.{◌≡◌, ◌⊎◌, ℕ, suc, ◌+◌, ◌<◌, ◌≤◌, max, List, [], ◌∷◌, ◌++◌, Option, Some, None, option_and_then, refl, sym, ap, ◌∙◌, subst, inl, inr, arith, append_assoc, append-nil}
use Rattle.std.proofs.lemmas.Bool.{cases_lt, false≢true}
use Rattle.std.proofs.lemmas.Option.{none-some, same_Some}
use Rattle.std.specs.Prelude.{◌↔◌, IsSome}
use Rattle.json.specs.Json.{Json, null, boolean, number, string, array, object, Items, no_items, item, Members, no_members, member, value, if_last, max_depth, document}
use Rattle.json.specs.Lex.{Lexeme, tokens}
use Rattle.json.specs.Token as t
use Rattle.json.specs.Tree.{depth, items_depth, members_depth}
use Rattle.json.proofs.Nesting.{value-depth}
use Rattle.json_lexemes.specs.Skipped.{nesting, most_open}
use Rattle.json_lexemes.specs.Spelled.{spelled, first_elements, more_elements, first_members, more_members, IsShallowText, Says}
use Rattle.json_lexemes.proofs.Parsed.{Says-document}
use Rattle.json_lexemes.proofs.Read.{document-Says, value-Says}
use Rattle.json_lexemes.proofs.Steps.{most_least}

-- a value and what follows it in the same bracket
joined : (n : ℕ) (a b ls : List Lexeme) (j m r : ℕ) → most_open n (a ++ (b ++ ls)) ≡ max (n + j) (most_open n (b ++ ls)) → most_open n (b ++ ls) ≡ max (n + m) r
    → most_open n ((a ++ b) ++ ls) ≡ max (n + max j m) r
joined n a b ls j m r e f = let g = ap (most_open n) (append_assoc a b ls) in omega (arith, g, e, f)

mutual
  unfolding most_open

  most_spelled : (j : Json) (n : ℕ) (ls : List Lexeme) → most_open n (spelled j ++ ls) ≡ max (n + depth j) (most_open n ls)
  most_spelled null n ls = omega (arith, most_least n ls)
  most_spelled (boolean b) n ls = omega (arith, most_least n ls)
  most_spelled (number s) n ls = omega (arith, most_least n ls)
  most_spelled (string s) n ls = omega (arith, most_least n ls)
  most_spelled (array js) n ls = omega (arith, most_first_elements js n ls)
  most_spelled (object ms) n ls = omega (arith, most_first_members ms n ls)

  most_first_elements : (js : Items) (n : ℕ) (ls : List Lexeme) → most_open (suc n) (first_elements js ++ ls) ≡ max (suc n + items_depth js) (most_open n ls)
  most_first_elements no_items n ls = omega arith
  most_first_elements (item j js) n ls = joined (suc n) (spelled j) (more_elements js) ls (depth j) (items_depth js) (most_open n ls) (most_spelled j (suc n) (more_elements js ++ ls)) (most_more_elements js n ls)

  most_more_elements : (js : Items) (n : ℕ) (ls : List Lexeme) → most_open (suc n) (more_elements js ++ ls) ≡ max (suc n + items_depth js) (most_open n ls)
  most_more_elements no_items n ls = omega arith
  most_more_elements (item j js) n ls =
      let e = joined (suc n) (spelled j) (more_elements js) ls (depth j) (items_depth js) (most_open n ls) (most_spelled j (suc n) (more_elements js ++ ls)) (most_more_elements js n ls) in
      omega (arith, e)

  most_first_members : (ms : Members) (n : ℕ) (ls : List Lexeme) → most_open (suc n) (first_members ms ++ ls) ≡ max (suc n + members_depth ms) (most_open n ls)
  most_first_members no_members n ls = omega arith
  most_first_members (member k j ms) n ls =
      let e = joined (suc n) (spelled j) (more_members ms) ls (depth j) (members_depth ms) (most_open n ls) (most_spelled j (suc n) (more_members ms ++ ls)) (most_more_members ms n ls) in
      omega (arith, e)

  most_more_members : (ms : Members) (n : ℕ) (ls : List Lexeme) → most_open (suc n) (more_members ms ++ ls) ≡ max (suc n + members_depth ms) (most_open n ls)
  most_more_members no_members n ls = omega arith
  most_more_members (member k j ms) n ls =
      let e = joined (suc n) (spelled j) (more_members ms) ls (depth j) (members_depth ms) (most_open n ls) (most_spelled j (suc n) (more_members ms ++ ls)) (most_more_members ms n ls) in
      omega (arith, e)

pub nests : (text : List ℕ) (j : Json) → Says text j → nesting text ≡ depth j
unfolding most_open
nests text j says =
    let e : nesting text ≡ most_open 0 (spelled j ++ []) = ap (most_open 0) (says ∙ sym (append-nil (spelled j))) in
    omega (arith, e, most_spelled j 0 [])

-- ---- one tree

first_of : Option (Json × List t.Token) → Json
first_of None = null
first_of (Some p) = p.0

pub one_tree : (text : List ℕ) (i j : Json) → Says text i → Says text j → i ≡ j
unfolding first_of
one_tree text i j a b =
    let d = max (depth i) (depth j) in
    ap first_of (sym (value-Says text i d a (omega arith)) ∙ value-Says text j d b (omega arith))

-- ---- what the kit's reader accepts

whole : (o : Option (Json × List t.Token)) (j : Json) → option_and_then (λ p. if_last p.0 p.1) o ≡ Some j → o ≡ Some (j, [])
whole None j e = absurd (none-some _ e)
whole (Some (i, [])) j e = ap (λ k. Some (k, [])) (same_Some i j e)
whole (Some (i, u ∷ us)) j e = absurd (none-some _ e)

pub read_is : (text : List ℕ) (j : Json) → (document text ≡ Some j) ↔ IsShallowText text j
read_is text j = (
  λ e. (Says-document text j e, value-depth max_depth (tokens text) [] j (whole (value max_depth (tokens text)) j e)),
  λ s. document-Says text j s.0 s.1,
)

some_read : (text : List ℕ) (o : Option Json) → document text ≡ o → IsSome o → (j : Json) × IsShallowText text j
some_read text None e h = absurd (false≢true h)
some_read text (Some j) e h = (j, (read_is text j).0 e)

pub accepted : (text : List ℕ) → IsSome (document text) → (j : Json) × IsShallowText text j
accepted text h = some_read text (document text) refl h

pub refused : (text : List ℕ) → (IsSome (document text) → ⊥) → (max_depth < nesting text → ⊥) → (j : Json) → Says text j → ⊥
refused text unread shallow j says = by_depth (cases_lt max_depth (depth j))
  where
    by_depth : (max_depth < depth j) ⊎ (depth j ≤ max_depth) → ⊥
    by_depth (inl h) = shallow (subst (λ d. max_depth < d) (sym (nests text j says)) h)
    by_depth (inr h) = unread (subst IsSome (sym (document-Says text j says h)) refl)

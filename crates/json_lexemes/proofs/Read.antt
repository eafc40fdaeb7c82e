-- What a text says by its lexemes, it says by the kit's grammar.
use Rattle.std.proofs.Common.{◌≡◌, ℕ, ◌≤◌, true, false, List, [], ◌∷◌, ◌++◌, Some, option_and_then, refl, sym, ap, ◌∙◌, append_assoc, append-nil}
use Rattle.std.proofs.lemmas.Bool.{false≢true}
use Rattle.json.specs.Json.{Json, null, boolean, number, string, array, object, Items, no_items, item, Members, no_members, member, value, if_last, max_depth, document}
use Rattle.json.specs.Token as t
use Rattle.json.specs.Lex.{Lexeme, Place, fresh, after_value, after_comma, after_key, begins_colon, may_begin, punctuate, tokens}
use Rattle.json.specs.Tree.{json_tokens, items_tokens, members_tokens, depth}
use Rattle.json.proofs.Printed.Trees.{value-json_tokens}
use Rattle.json_lexemes.specs.Spelled.{spelled, first_elements, more_elements, first_members, more_members, Says}

no_colon_elements : (js : Items) (ls : List Lexeme) → begins_colon (more_elements js ++ ls) ≡ false
no_colon_elements no_items ls = refl
no_colon_elements (item j js) ls = refl

no_colon_members : (ms : Members) (ls : List Lexeme) → begins_colon (more_members ms ++ ls) ≡ false
no_colon_members no_members ls = refl
no_colon_members (member k j ms) ls = refl

-- a value, and then what follows it
joined : (a b ls : List Lexeme) (x y : List t.Token) (p : Place) → punctuate p (a ++ (b ++ ls)) ≡ x ++ punctuate after_value (b ++ ls) → punctuate after_value (b ++ ls) ≡ y ++ punctuate after_value ls
    → punctuate p ((a ++ b) ++ ls) ≡ (x ++ y) ++ punctuate after_value ls
joined a b ls x y p d e = ap (punctuate p) (append_assoc a b ls) ∙ d ∙ ap (λ l. x ++ l) e ∙ sym (append_assoc x y _)

mutual
  unfolding punctuate

  punctuate-spelled : (j : Json) (p : Place) (ls : List Lexeme) → may_begin p ≡ true → begins_colon ls ≡ false → punctuate p (spelled j ++ ls) ≡ json_tokens j ++ punctuate after_value ls
  punctuate-spelled null fresh ls b c = refl
  punctuate-spelled null after_comma ls b c = refl
  punctuate-spelled (boolean x) fresh ls b c = refl
  punctuate-spelled (boolean x) after_comma ls b c = refl
  punctuate-spelled (number s) fresh ls b c = refl
  punctuate-spelled (number s) after_comma ls b c = refl
  punctuate-spelled (string s) fresh ls b c = rw c refl
  punctuate-spelled (string s) after_comma ls b c = rw c refl
  punctuate-spelled (array js) fresh ls b c = ap (λ l. t.begin_array ∷ l) (punctuate-first_elements js ls c)
  punctuate-spelled (array js) after_comma ls b c = ap (λ l. t.begin_array ∷ l) (punctuate-first_elements js ls c)
  punctuate-spelled (object ms) fresh ls b c = ap (λ l. t.begin_object ∷ l) (punctuate-first_members ms ls c)
  punctuate-spelled (object ms) after_comma ls b c = ap (λ l. t.begin_object ∷ l) (punctuate-first_members ms ls c)
  punctuate-spelled null after_value ls b c = absurd (false≢true b)
  punctuate-spelled null after_key ls b c = absurd (false≢true b)
  punctuate-spelled (boolean x) after_value ls b c = absurd (false≢true b)
  punctuate-spelled (boolean x) after_key ls b c = absurd (false≢true b)
  punctuate-spelled (number s) after_value ls b c = absurd (false≢true b)
  punctuate-spelled (number s) after_key ls b c = absurd (false≢true b)
  punctuate-spelled (string s) after_value ls b c = absurd (false≢true b)
  punctuate-spelled (string s) after_key ls b c = absurd (false≢true b)
  punctuate-spelled (array js) after_value ls b c = absurd (false≢true b)
  punctuate-spelled (array js) after_key ls b c = absurd (false≢true b)
  punctuate-spelled (object ms) after_value ls b c = absurd (false≢true b)
  punctuate-spelled (object ms) after_key ls b c = absurd (false≢true b)

  punctuate-first_elements : (js : Items) (ls : List Lexeme) → begins_colon ls ≡ false → punctuate fresh (first_elements js ++ ls) ≡ items_tokens js ++ punctuate after_value ls
  punctuate-first_elements no_items ls c = refl
  punctuate-first_elements (item j js) ls c = joined (spelled j) (more_elements js) ls (json_tokens j) (items_tokens js) fresh (punctuate-spelled j fresh (more_elements js ++ ls) refl (no_colon_elements js ls)) (punctuate-more_elements js ls c)

  punctuate-more_elements : (js : Items) (ls : List Lexeme) → begins_colon ls ≡ false → punctuate after_value (more_elements js ++ ls) ≡ items_tokens js ++ punctuate after_value ls
  punctuate-more_elements no_items ls c = refl
  punctuate-more_elements (item j js) ls c = joined (spelled j) (more_elements js) ls (json_tokens j) (items_tokens js) after_comma (punctuate-spelled j after_comma (more_elements js ++ ls) refl (no_colon_elements js ls)) (punctuate-more_elements js ls c)

  punctuate-first_members : (ms : Members) (ls : List Lexeme) → begins_colon ls ≡ false → punctuate fresh (first_members ms ++ ls) ≡ members_tokens ms ++ punctuate after_value ls
  punctuate-first_members no_members ls c = refl
  punctuate-first_members (member k j ms) ls c = ap (λ l. t.key k ∷ l) (joined (spelled j) (more_members ms) ls (json_tokens j) (members_tokens ms) fresh (punctuate-spelled j fresh (more_members ms ++ ls) refl (no_colon_members ms ls)) (punctuate-more_members ms ls c))

  punctuate-more_members : (ms : Members) (ls : List Lexeme) → begins_colon ls ≡ false → punctuate after_value (more_members ms ++ ls) ≡ members_tokens ms ++ punctuate after_value ls
  punctuate-more_members no_members ls c = refl
  punctuate-more_members (member k j ms) ls c = ap (λ l. t.key k ∷ l) (joined (spelled j) (more_members ms) ls (json_tokens j) (members_tokens ms) fresh (punctuate-spelled j fresh (more_members ms ++ ls) refl (no_colon_members ms ls)) (punctuate-more_members ms ls c))

tokens-Says : (text : List ℕ) (j : Json) → Says text j → tokens text ≡ json_tokens j
unfolding punctuate
tokens-Says text j h =
    ap (punctuate fresh) (h ∙ sym (append-nil (spelled j))) ∙ punctuate-spelled j fresh [] refl refl ∙ append-nil (json_tokens j)

pub value-Says : (text : List ℕ) (j : Json) (d : ℕ) → Says text j → depth j ≤ d → value d (tokens text) ≡ Some (j, [])
value-Says text j d h le =
    ap (value d) (tokens-Says text j h ∙ sym (append-nil (json_tokens j))) ∙ value-json_tokens j d [] le

-- what the kit's reader gives
pub document-Says : (text : List ℕ) (j : Json) → Says text j → depth j ≤ max_depth → document text ≡ Some j
document-Says text j h le = ap (option_and_then (λ p. if_last p.0 p.1)) (value-Says text j max_depth h le)

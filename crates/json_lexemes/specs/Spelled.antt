-- What a text says (RFC 8259): a tree, spelled by lexemes. Whitespace may stand around each, and no rule speaks of it. A text with
-- an unpaired surrogate, such as "\ud800", says none: the grammar takes it, but what it says is left open (section 8.2).
use Rattle.std.specs.Prelude.{◌≡◌, ◌≤◌, ℕ, List, [], ◌∷◌, ◌++◌}
use Rattle.json.specs.Json.{Json, null, boolean, number, string, array, object, Items, no_items, item, Members, no_members, member, max_depth}
use Rattle.json.specs.Token as t
use Rattle.json.specs.Lex.{Lexeme, token, comma, colon, between, lex}
use Rattle.json.specs.Tree.{depth}

-- A number is its text, a string and a name are what their escapes stand for, and members stand in their order, with names that come twice.
abbrev mutual
  pub spelled : Json → List Lexeme
  spelled null = token t.null ∷ []
  spelled (boolean b) = token (t.boolean b) ∷ []
  spelled (number s) = token (t.number s) ∷ []
  spelled (string s) = token (t.string s) ∷ []
  spelled (array js) = token t.begin_array ∷ first_elements js
  spelled (object ms) = token t.begin_object ∷ first_members ms

  -- with the closing bracket
  pub first_elements : Items → List Lexeme
  first_elements no_items = token t.end_array ∷ []
  first_elements (item j js) = spelled j ++ more_elements js

  pub more_elements : Items → List Lexeme
  more_elements no_items = token t.end_array ∷ []
  more_elements (item j js) = comma ∷ (spelled j ++ more_elements js)

  pub first_members : Members → List Lexeme
  first_members no_members = token t.end_object ∷ []
  first_members (member k j ms) = token (t.string k) ∷ colon ∷ (spelled j ++ more_members ms)

  pub more_members : Members → List Lexeme
  more_members no_members = token t.end_object ∷ []
  more_members (member k j ms) = comma ∷ token (t.string k) ∷ colon ∷ (spelled j ++ more_members ms)

-- the text is JSON, and its tree is j
abbrev pub Says : List ℕ → Json → Type 0
Says text j = lex between text ≡ spelled j

-- the text says j, which nests no deeper than 128 levels
abbrev pub IsShallowText : List ℕ → Json → Type 0
IsShallowText text j = Says text j × (depth j ≤ max_depth)

-- The members of an object, or the elements of an array, in a row.
use Rattle.std.specs.Prelude.{◌≡◌, ◌⊎◌, ◌<◌, ◌≤◌, ◌+◌, ℕ, zero, suc, List, [], ◌∷◌, ◌++◌, length, take, ◌-◌, drop, get_or, Bool, true, false, cond, Option, Some, None, MatchOption, IfSome, IfNone, option_map}
use Rattle.std.specs.Str.{bytes_eq, IsUtf8, IsCharBoundary}
use Rattle.json.specs.Json.{Json, array, object, Items, no_items, item, Members, no_members, member}
use Rattle.json.specs.Token as t
use Rattle.json.specs.Text.{content, plain}
use Rattle.json.specs.Print.{quoted}
use Rattle.json.specs.Lex.{Lexeme, token, comma, colon, between}
use Rattle.json.specs.Word.{is_space}
use Rattle.json_lexemes.specs.Spelled.{spelled, Says}
use Rattle.json_lexemes.specs.Places.{mode_at, left_at, HasEnd, IsEnd}
use Rattle.json_lexemes.specs.Found.{IsCut, IsWithin, or_else}
use Rattle.json_text.specs.Styled.{colons_like, whitespace_like}
use Rattle.json_text.specs.declared.parts.Ahead.{Ahead}
use Rattle.json_text.specs.declared.parts.Numbered.{Numbered}
use Rattle.json_text.specs.declared.parts.Part.{Part}
use Rattle.json_lexemes.specs.declared.span.Span.{Span}

-- a member's name, empty for an element, and its value
abbrev pub Child : Type 0
Child = List ℕ × Json

-- ---- b says that these are members

abbrev pub opening : Bool → Lexeme
opening true = token t.begin_object
opening false = token t.begin_array

abbrev pub closing : Bool → Lexeme
closing true = token t.end_object
closing false = token t.end_array

-- what is spelled before the value
abbrev pub naming : Bool → List ℕ → List Lexeme
naming true k = token (t.string k) ∷ colon ∷ []
naming false k = []

-- behind a child, with the closing bracket
abbrev pub others : Bool → List Child → List Lexeme
others b [] = closing b ∷ []
others b (c ∷ cs) = comma ∷ (naming b c.0 ++ (spelled c.1 ++ others b cs))

-- behind the opening bracket
abbrev pub inside : Bool → List Child → List Lexeme
inside b [] = closing b ∷ []
inside b (c ∷ cs) = naming b c.0 ++ (spelled c.1 ++ others b cs)

abbrev pub members_in : List Child → Members
members_in [] = no_members
members_in (c ∷ cs) = member c.0 c.1 (members_in cs)

abbrev pub elements_in : List Child → Items
elements_in [] = no_items
elements_in (c ∷ cs) = item c.1 (elements_in cs)

abbrev pub tree_in : Bool → List Child → Json
tree_in true cs = object (members_in cs)
tree_in false cs = array (elements_in cs)

-- the number of the last of this name
abbrev pub last_named : List ℕ → List Child → Option ℕ
last_named k [] = None
last_named k (c ∷ cs) = or_else (option_map suc (last_named k cs)) (cond (bytes_eq c.0 k) (Some zero) None)

-- ---- in a text

abbrev pub slice : List ℕ → ℕ → ℕ → List ℕ
slice t i k = take (k - i) (drop i t)

-- no whitespace stands at this place
abbrev pub IsSolid : List ℕ → ℕ → Type 0
IsSolid t i = i < length t → is_space (get_or t i 0) ≡ false

-- of these children the value of the first begins at v, and its name, if it has one, at start
pub record Begins (t : List ℕ) (b : Bool) (cs : List Child) (start v : ℕ) : Type 0 where
  pub child : Child
  pub more : List Child
  pub is : cs ≡ child ∷ more
  pub value : left_at t v ≡ spelled child.1 ++ others b more
  pub name : b ≡ true → (start < length t) × (content plain (drop (start + 1) t) ≡ Some child.0)

-- at the place found, if any, the first of these children begins, if any
abbrev pub FindsValue : List ℕ → Bool → List Child → ℕ → Option ℕ → Type 0
FindsValue t b cs start found = MatchOption found (cs ≡ []) (λ v. Begins t b cs start v)

-- the first of these children stands at p
pub record IsPart (t : List ℕ) (b : Bool) (cs : List Child) (p : Part) : Type 0 where
  pub child : Child
  pub more : List Child
  pub is : cs ≡ child ∷ more
  pub left : left_at t p.start ≡ inside b cs
  pub value : left_at t p.value.start ≡ spelled child.1 ++ others b more
  pub behind : left_at t p.value.end ≡ others b more
  pub next : MatchOption p.next (more ≡ []) (λ g. (left_at t g ≡ inside b more) × (others b more ≡ comma ∷ inside b more))
  pub name : b ≡ true → (p.start < length t) × (content plain (drop (p.start + 1) t) ≡ Some child.0)

abbrev pub FindsPart : List ℕ → Bool → List Child → Option Part → Type 0
FindsPart t b cs found = MatchOption found (cs ≡ []) (λ p. IsPart t b cs p)

-- no lexeme is cut at these places
pub record ArePlaces (t : List ℕ) (p : Part) : Type 0 where
  pub begins : mode_at t p.start ≡ between
  pub cut : IsCut t p.value
  pub next : IfSome p.next (λ g. mode_at t g ≡ between)

-- they stand in this order
pub record AreInOrder (t : List ℕ) (p : Part) : Type 0 where
  pub solid : IsSolid t p.start
  pub named : p.start ≤ p.value.start
  pub value : p.value.start ≤ p.value.end
  pub fits : p.value.end ≤ length t
  pub next : IfSome p.next (λ g. (p.value.end < g) × (g ≤ length t) × IsSolid t g)

-- and cut no character
pub record CutNone (t : List ℕ) (p : Part) : Type 0 where
  pub start : IsUtf8 t → IsCharBoundary t p.start
  pub value : IsWithin t p.value
  pub next : IfSome p.next (λ g. IsUtf8 t → IsCharBoundary t g)

-- before the child of number n, which begins at start, the one before ends, or the opening bracket
pub record IsReached (t : List ℕ) (b : Bool) (cs : List Child) (n before start : ℕ) : Type 0 where
  pub left : left_at t start ≡ inside b (drop n cs)
  pub begins : mode_at t start ≡ between
  pub ends : IsEnd t before
  pub back : HasEnd t before
  pub first : n ≡ 0 → (left_at t before ≡ inside b cs) × (mode_at t before ≡ between)
  pub later : (n ≡ 0 → ⊥) → left_at t before ≡ others b (drop n cs)

-- it is reached, and if others were before it, one stands there
pub record IsNext (t : List ℕ) (b : Bool) (cs : List Child) (n before start : ℕ) : Type 0 where
  pub reached : IsReached t b cs n before start
  pub there : (n ≡ 0 → ⊥) → others b (drop n cs) ≡ comma ∷ inside b (drop n cs)

-- r is the child of number n
pub record IsNumbered (t : List ℕ) (b : Bool) (cs : List Child) (n : ℕ) (r : Numbered) : Type 0 where
  pub reached : IsReached t b cs n r.before r.part.start
  pub part : IsPart t b (drop n cs) r.part
  pub places : ArePlaces t r.part

-- the inside of an object or an array begins at from
abbrev pub IsInside : List ℕ → Bool → List Child → ℕ → Type 0
IsInside t b cs from = (left_at t from ≡ inside b cs) × (mode_at t from ≡ between) × HasEnd t from

-- from a on children are looked for, in an object or an array whose inside begins at from
pub record IsAhead (t : List ℕ) (b : Bool) (from : ℕ) (a : Ahead) : Type 0 where
  pub low : a.start ≤ length t
  pub solid : IsSolid t a.start
  pub order : a.before ≤ a.start
  pub passed : a.number ≤ a.start
  pub boundary : (IsUtf8 t → IsCharBoundary t from) → (IsUtf8 t → IsCharBoundary t a.before) × (IsUtf8 t → IsCharBoundary t a.start)
  pub next : (cs : List Child) → IsInside t b cs from → IsNext t b cs a.number a.before a.start

-- the piece that goes with the child of number n: up to the next one, or from the one before, or all
pub record AreEdges (t : List ℕ) (n : ℕ) (r : Numbered) (p : Span) : Type 0 where
  pub next : IfSome r.part.next (λ g. (p.start ≡ r.part.start) × (p.end ≡ g))
  pub last : IfNone r.part.next (p.start ≡ r.before)
  pub end : IfNone r.part.next ((n ≡ 0 → ⊥) → p.end ≡ r.part.value.end)
  pub all : IfNone r.part.next (n ≡ 0 → (left_at t p.end ≡ left_at t r.part.value.end) × IsSolid t p.end × (IsEnd t r.part.value.end → IsEnd t p.end))
  pub behind : r.part.value.end ≤ p.end

-- r is the child of this number in the text, which is JSON
abbrev pub IsChild : List ℕ → ℕ → Numbered → Type 0
IsChild t n r = (b : Bool) × (cs : List Child) × Says t (tree_in b cs) × IsNumbered t b cs n r

-- and a member
abbrev pub IsMember : List ℕ → ℕ → Numbered → Type 0
IsMember t n r = (cs : List Child) × Says t (tree_in true cs) × IsNumbered t true cs n r

-- the text is JSON, an object or an array with this inside
abbrev pub HasRow : List ℕ → Bool → ℕ → Type 0
HasRow t b from = (cs : List Child) × Says t (tree_in b cs) × IsInside t b cs from

-- r is the last, of number n
pub record IsLast (t : List ℕ) (b : Bool) (cs : List Child) (n : ℕ) (r : Numbered) : Type 0 where
  pub numbered : IsNumbered t b cs n r
  pub last : drop (n + 1) cs ≡ []

-- only whitespace stands from i to k, behind a bracket or a comma
pub record IsGap (t : List ℕ) (i k : ℕ) : Type 0 where
  pub left : left_at t i ≡ left_at t k
  pub begins : mode_at t i ≡ between
  pub back : HasEnd t i
  pub some : 0 < i
  pub order : i ≤ k

-- the name of the member r ends at k, where the whitespace and the colon begin
pub record EndsName (t : List ℕ) (r : Numbered) (k : ℕ) : Type 0 where
  pub left : left_at t k ≡ colon ∷ left_at t r.part.value.start
  pub begins : mode_at t k ≡ between
  pub back : HasEnd t k
  pub behind : r.part.start < k
  pub order : k ≤ r.part.value.start

-- the comma, and whitespace like that before a child
abbrev pub IsComma : List ℕ → ℕ → List ℕ → Type 0
IsComma t start s = (i : ℕ) × IsGap t i start × (s ≡ 44 ∷ whitespace_like (slice t i start))

-- the comma, whitespace like that before a member, the name k, and a colon like its own
abbrev pub IsMemberAhead : List ℕ → Numbered → List ℕ → List ℕ → Type 0
IsMemberAhead t r k s = (i : ℕ) × (e : ℕ) × IsGap t i r.part.start × EndsName t r e × (s ≡ 44 ∷ (whitespace_like (slice t i r.part.start) ++ (quoted k ++ colons_like (slice t e r.part.value.start))))

-- the comma, and the whitespace behind a value before the element r of number n, like that before it: before the first like that of the second
abbrev pub IsTrail : List ℕ → ℕ → ℕ → Numbered → List ℕ → Type 0
IsTrail t from n r s = (cs : List Child) → IsInside t false cs from
    → ((n ≡ 0) × ((r2 : Numbered) × IsNumbered t false cs 1 r2 × AreInOrder t r2.part × IsComma t r2.part.start s))
    ⊎ ((n ≡ 0 → drop 1 cs ≡ []) × IsComma t r.part.start s)

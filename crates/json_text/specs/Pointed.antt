-- Where a pointer leads in a tree (RFC 6901, section 4), and the stretch of a text there.
use Rattle.std.specs.Prelude.{◌≡◌, ℕ, zero, suc, ◌-◌, List, [], ◌∷◌, ◌++◌, length, get_or, false, cond, Option, Some, None, option_and_then}
use Rattle.std.specs.Str.{bytes_eq}
use Rattle.json.specs.Json.{Json, null, boolean, number, string, array, object, Items, no_items, item, Members, no_members, member}
use Rattle.json.specs.Find.{get_member, get_item}
use Rattle.json.specs.Word.{is_space}
use Rattle.jsonptr.specs.Places.{place_of}
use Rattle.jsonptr.specs.Text.{Pointer}
use Rattle.json_lexemes.specs.Spelled.{Says}

-- ---- in the tree

-- what a token names: of an object the member of this name, of several the last; of an array the element at this place
abbrev pub child : List ℕ → Json → Option Json
child t null = None
child t (boolean b) = None
child t (number s) = None
child t (string s) = None
child t (array js) = option_and_then (λ n. get_item n js) (place_of t)
child t (object ms) = get_member t ms

-- where a pointer leads
abbrev pub tree_at : Pointer → Json → Option Json
tree_at [] j = Some j
tree_at (t ∷ P) j = option_and_then (tree_at P) (child t j)

-- ---- the tree with the value w there

-- the first where there is something, and else the second
abbrev pub if_some : {A B : Type 0} → Option A → (A → B) → B → B
if_some None f b = b
if_some (Some a) f b = f a

abbrev pub put_element : ℕ → Json → Items → Items
put_element n w no_items = no_items
put_element zero w (item j js) = item w js
put_element (suc n) w (item j js) = item j (put_element n w js)

-- a member of this name is exchanged where no later one has it
abbrev pub put_member : List ℕ → Json → Members → Members
put_member k w no_members = no_members
put_member k w (member l j ms) = if_some (get_member k ms) (λ later. member l j (put_member k w ms)) (member l (cond (bytes_eq l k) w j) ms)

abbrev pub put_child : List ℕ → Json → Json → Json
put_child t w null = null
put_child t w (boolean b) = boolean b
put_child t w (number s) = number s
put_child t w (string s) = string s
put_child t w (array js) = array (if_some (place_of t) (λ n. put_element n w js) js)
put_child t w (object ms) = object (put_member t w ms)

abbrev pub put_at : Pointer → Json → Json → Json
put_at [] w j = w
put_at (t ∷ P) w j = if_some (child t j) (λ c. put_child t (put_at P w c) j) j

-- ---- the stretch of a text

-- no whitespace stands at its front or its end
abbrev pub IsTight : List ℕ → Type 0
IsTight s = (is_space (get_or s 0 32) ≡ false) × (is_space (get_or s (length s - 1) 32) ≡ false)

-- s, which stands between what is before it and what is behind it, says v; with any other value's text in its place the whole says what put gives for that value
pub record IsStretch (before s behind : List ℕ) (v : Json) (put : Json → Json) : Type 0 where
  pub says : Says s v
  pub tight : IsTight s
  pub alone : (new : List ℕ) (w : Json) → Says new w → Says (before ++ (new ++ behind)) (put w)

-- P leads in j to a tree, whose stretch is s, between what is before it and what is behind it
abbrev pub StandsBetween : List ℕ → List ℕ → List ℕ → Json → Pointer → Type 0
StandsBetween before s behind j P = (v : Json) × (tree_at P j ≡ Some v) × IsStretch before s behind v (λ w. put_at P w j)

-- s is the stretch of the text, which says j, where P leads
abbrev pub IsWrittenAt : List ℕ → Json → Pointer → List ℕ → Type 0
IsWrittenAt text j P s = (before : List ℕ) × (behind : List ℕ) × (text ≡ before ++ (s ++ behind)) × StandsBetween before s behind j P

-- the object or array that all tokens of P but the last lead to in j, and where it stands in the text
pub record ParentStands (text : List ℕ) (j : Json) (P : Pointer) : Type 0 where
  pub front : Pointer
  pub last : List ℕ
  pub split : P ≡ front ++ (last ∷ [])
  pub parent : Json
  pub leads : tree_at front j ≡ Some parent
  pub before : List ℕ
  pub own : List ℕ
  pub behind : List ℕ
  pub whole : text ≡ before ++ (own ++ behind)
  pub stood : IsStretch before own behind parent (λ w. put_at front w j)

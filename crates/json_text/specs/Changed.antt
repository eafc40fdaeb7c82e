-- The tree without what stands where a pointer leads, or with a value added there (RFC 6902, sections 4.2 and 4.1).
use Rattle.std.specs.Prelude.{ℕ, zero, suc, List, [], ◌∷◌, cond, nat_le, if◌then◌else◌, Option, Some, None, option_map, option_and_then}
use Rattle.std.specs.Str.{bytes_eq}
use Rattle.json.specs.Find.{get_member}
use Rattle.json.specs.Json.{Json, null, boolean, number, string, array, object, Items, no_items, item, Members, no_members, member}
use Rattle.jsonptr.specs.Places.{place_of, next_token}
use Rattle.jsonptr.specs.Text.{Pointer}
use Rattle.json_text.specs.Pointed.{if_some, tree_at, put_at, put_member}

-- the tokens t ∷ P but the last; the last
abbrev pub front_of : List ℕ → Pointer → Pointer
front_of t [] = []
front_of t (u ∷ P) = t ∷ front_of u P

abbrev pub last_of : List ℕ → Pointer → List ℕ
last_of t [] = t
last_of t (u ∷ P) = last_of u P

-- ---- removed

abbrev pub remove_element : ℕ → Items → Items
remove_element n no_items = no_items
remove_element zero (item j js) = js
remove_element (suc n) (item j js) = item j (remove_element n js)

-- the members with none of this name
abbrev pub without : List ℕ → Members → Members
without k no_members = no_members
without k (member l j ms) = cond (bytes_eq l k) (without k ms) (member l j (without k ms))

-- an object with no member of this name, an array without the element at this place
abbrev pub remove_child : List ℕ → Json → Json
remove_child t null = null
remove_child t (boolean b) = boolean b
remove_child t (number s) = number s
remove_child t (string s) = string s
remove_child t (array js) = array (if_some (place_of t) (λ n. remove_element n js) js)
remove_child t (object ms) = object (without t ms)

-- the tree without what P leads to; the whole isn't removed
abbrev pub remove_at : Pointer → Json → Json
remove_at [] j = j
remove_at (t ∷ P) j = if_some (tree_at (front_of t P) j) (λ c. put_at (front_of t P) (remove_child (last_of t P) c) j) j

-- ---- added

-- the elements with w before the one at n, or last
abbrev pub insert_element : ℕ → Json → Items → Items
insert_element n w no_items = item w no_items
insert_element zero w (item j js) = item w (item j js)
insert_element (suc n) w (item j js) = item j (insert_element n w js)

abbrev pub elements_len : Items → ℕ
elements_len no_items = zero
elements_len (item j js) = suc (elements_len js)

-- the place at which a token puts a new element among n: its index, or the end for `-`
abbrev pub slot_in : List ℕ → ℕ → Option ℕ
slot_in t n = if bytes_eq t next_token then Some n else option_and_then (λ i. if nat_le i n then Some i else None) (place_of t)

-- the members with one more behind the last
abbrev pub push_member : List ℕ → Json → Members → Members
push_member k w no_members = member k w no_members
push_member k w (member l j ms) = member l j (push_member k w ms)

-- an object whose last member of this name has the value w, or which has a new one, an array with w as an element more
abbrev pub add_child : List ℕ → Json → Json → Option Json
add_child t w null = None
add_child t w (boolean b) = None
add_child t w (number s) = None
add_child t w (string s) = None
add_child t w (array js) = option_map (λ n. array (insert_element n w js)) (slot_in t (elements_len js))
add_child t w (object ms) = Some (object (if_some (get_member t ms) (λ v. put_member t w ms) (push_member t w ms)))

-- the tree with w added at P
abbrev pub add_at : Pointer → Json → Json → Option Json
add_at [] w j = Some w
add_at (t ∷ P) w j = option_and_then (λ c. option_map (λ d. put_at (front_of t P) d j) (add_child (last_of t P) w c)) (tree_at (front_of t P) j)

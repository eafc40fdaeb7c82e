-- The tree that an operation leaves, computed (RFC 6902, sections 4.1 to 4.3).
use Rattle.std.specs.Prelude.{ℕ, zero, suc, List, [], ◌∷◌, cond, bytes_eq, Option, Some, None, option_map, option_and_then}
use Rattle.json.specs.Json.{Json, null, boolean, number, string, array, object, Items, no_items, item, Members, no_members, member}
use Rattle.json.specs.Find.{get_member}
use Rattle.jsonptr.specs.Places.{place_of}
use Rattle.jsonptr.specs.Text.{Pointer}
use Rattle.json_patch_document.specs.ChangeComputed.{slot_in, front_of, last_of}
use Rattle.json_text.specs.Pointed.{child, tree_at, if_some, put_member, put_at}

-- ---- arrays

abbrev pub count : Items → ℕ
count no_items = 0
count (item j js) = suc (count js)

-- the elements with w before the one at n, or last
abbrev pub insert_element : ℕ → Json → Items → Items
insert_element n w no_items = item w no_items
insert_element zero w (item j js) = item w (item j js)
insert_element (suc n) w (item j js) = item j (insert_element n w js)

abbrev pub remove_element : ℕ → Items → Items
remove_element n no_items = no_items
remove_element zero (item j js) = js
remove_element (suc n) (item j js) = item j (remove_element n js)

-- ---- objects

abbrev pub append_member : List ℕ → Json → Members → Members
append_member k w no_members = member k w no_members
append_member k w (member l j ms) = member l j (append_member k w ms)

-- the last member of this name is exchanged, or there is one more
abbrev pub add_member : List ℕ → Json → Members → Members
add_member k w ms = if_some (get_member k ms) (λ old. put_member k w ms) (append_member k w ms)

-- the members with none of this name
abbrev pub without : List ℕ → Members → Members
without k no_members = no_members
without k (member l j ms) = cond (bytes_eq l k) (without k ms) (member l j (without k ms))

-- ---- at a token

abbrev pub add_child : Json → List ℕ → Json → Option Json
add_child w t null = None
add_child w t (boolean b) = None
add_child w t (number s) = None
add_child w t (string s) = None
add_child w t (array js) = option_map (λ i. array (insert_element i w js)) (slot_in t (count js))
add_child w t (object ms) = Some (object (add_member t w ms))

abbrev pub remove_child : List ℕ → Json → Json
remove_child t null = null
remove_child t (boolean b) = boolean b
remove_child t (number s) = number s
remove_child t (string s) = string s
remove_child t (array js) = array (if_some (place_of t) (λ n. remove_element n js) js)
remove_child t (object ms) = object (without t ms)

abbrev pub take_child : List ℕ → Json → Option Json
take_child t j = option_map (λ old. remove_child t j) (child t j)

-- ---- at a pointer

-- the tree with f of what stands there
abbrev pub changed : (Json → Option Json) → Pointer → Json → Option Json
changed f P j = option_and_then (λ c. option_map (λ e. put_at P e j) (f c)) (tree_at P j)

abbrev pub replaced : Pointer → Json → Json → Option Json
replaced P w j = option_map (λ old. put_at P w j) (tree_at P j)

abbrev pub added : Pointer → Json → Json → Option Json
added [] w j = Some w
added (t ∷ P) w j = changed (add_child w (last_of t P)) (front_of t P) j

abbrev pub removed : Pointer → Json → Option Json
removed [] j = None
removed (t ∷ P) j = changed (take_child (last_of t P)) (front_of t P) j

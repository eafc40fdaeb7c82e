-- Equality of JSON values, as a test.
use Rattle.std.specs.Prelude.{◌==◌, ◌&&◌, Bool, true, false, not, bytes_eq}
use Rattle.std.specs.Ordering.{int_eq}
use Rattle.serde_json.specs.Data.{Num, unsigned, negative, float, Data, null, boolean, number, string, array, object, Items, no_items, item, Members, no_members, member}

abbrev pub same_bool : Bool → Bool → Bool
same_bool true b = b
same_bool false b = not b

abbrev pub same_num : Num → Num → Bool
same_num (unsigned m) (unsigned n) = m == n
same_num (negative y) (negative z) = int_eq y z
same_num (float x) (float y) = true
same_num _ _ = false

abbrev mutual
  pub same : Data → Data → Bool
  same null null = true
  same (boolean b) (boolean c) = same_bool b c
  same (number m) (number n) = same_num m n
  same (string s) (string t) = bytes_eq s t
  same (array ds) (array es) = same_items ds es
  same (object ms) (object ns) = same_members ms ns
  same _ _ = false

  pub same_items : Items → Items → Bool
  same_items no_items no_items = true
  same_items (item d ds) (item e es) = same d e && same_items ds es
  same_items _ _ = false

  pub same_members : Members → Members → Bool
  same_members no_members no_members = true
  same_members (member k d ms) (member l e ns) = bytes_eq k l && (same d e && same_members ms ns)
  same_members _ _ = false

-- Equality of JSON values (RFC 6902, section 4.6).
use Rattle.std.specs.Prelude.{◌≡◌, Option, Some, None}
use Rattle.serde_json.specs.Data.{Num, unsigned, negative, float, Data, null, boolean, number, string, array, object, Items, no_items, item, Members, no_members, member}
use Rattle.json_patch_document.specs.Document.{IsBelowMembers}

-- numbers that aren't whole count as one value
abbrev pub AreSameNumbers : Num → Num → Type 0
AreSameNumbers (unsigned m) (unsigned n) = m ≡ n
AreSameNumbers (negative y) (negative z) = y ≡ z
AreSameNumbers (float x) (float y) = Unit {0}
AreSameNumbers m n = ⊥

-- atoms of one kind and value, arrays element by element, objects member by member. A `Value` holds its
-- members in the order of their names, and so these are the members of each name (law `same_by_name`)
abbrev mutual
  pub AreSame : Data → Data → Type 0
  AreSame null null = Unit {0}
  AreSame (boolean b) (boolean c) = b ≡ c
  AreSame (number m) (number n) = AreSameNumbers m n
  AreSame (string s) (string t) = s ≡ t
  AreSame (array ds) (array es) = AreSameItems ds es
  AreSame (object ms) (object ns) = AreSameMembers ms ns
  AreSame d e = ⊥

  pub AreSameItems : Items → Items → Type 0
  AreSameItems no_items no_items = Unit {0}
  AreSameItems (item d ds) (item e es) = AreSame d e × AreSameItems ds es
  AreSameItems ds es = ⊥

  pub AreSameMembers : Members → Members → Type 0
  AreSameMembers no_members no_members = Unit {0}
  AreSameMembers (member k d ms) (member l e ns) = (k ≡ l) × AreSame d e × AreSameMembers ms ns
  AreSameMembers ms ns = ⊥

-- where there may be a value: the same in both, or none in both
abbrev pub AreSameAt : Option Data → Option Data → Type 0
AreSameAt None None = Unit {0}
AreSameAt (Some d) (Some e) = AreSame d e
AreSameAt o p = ⊥

-- each name once, in byte order, as in each `Value`
abbrev pub AreInOrder : Members → Type 0
AreInOrder no_members = Unit {0}
AreInOrder (member k d ms) = IsBelowMembers k ms × AreInOrder ms

-- Equality of what two texts say (RFC 6902, section 4.6).
use Rattle.std.specs.Prelude.{◌≡◌, List, ℕ, Some, None, ⊤}
use Rattle.json.specs.Json.{Json, null, boolean, number, string, array, object, Items, no_items, item, Members, no_members, member}
use Rattle.json.specs.Find.{get_member}
use Rattle.json_number.specs.Numbers.{SameNumber}

-- each name of ns is one of ms
abbrev pub HasNames : Members → Members → Type 0
HasNames ms ns = (k : List ℕ) → get_member k ms ≡ None → get_member k ns ≡ None

-- atoms of one kind and value, arrays element by element, and objects member by member, in any order: of several of one name the
-- last counts
abbrev mutual
  pub SameTree : Json → Json → Type 0
  SameTree null null = ⊤
  SameTree (boolean b) (boolean c) = b ≡ c
  SameTree (number s) (number t) = SameNumber s t
  SameTree (string s) (string t) = s ≡ t
  SameTree (array js) (array ks) = SameElements js ks
  SameTree (object ms) (object ns) = EachIn ms ns × HasNames ms ns
  SameTree i j = ⊥

  pub SameElements : Items → Items → Type 0
  SameElements no_items no_items = ⊤
  SameElements (item i js) (item j ks) = SameTree i j × SameElements js ks
  SameElements js ks = ⊥

  -- each member of ms that counts is the same as the one of its name in ns
  pub EachIn : Members → Members → Type 0
  EachIn no_members ns = ⊤
  EachIn (member k i ms) ns = (get_member k ms ≡ None → (j : Json) × (get_member k ns ≡ Some j) × SameTree i j) × EachIn ms ns

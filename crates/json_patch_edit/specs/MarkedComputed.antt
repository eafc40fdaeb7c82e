-- How many marks there are.
use Rattle.std.specs.Prelude.{◌+◌, ℕ}
use Rattle.serde_json.specs.Data.{unsigned, negative, float, Data, null, boolean, number, string, array, object, Items}
use Rattle.serde_json.specs.Data.{no_items, item, Members, no_members, member}

abbrev mutual
  pub marks : Data → ℕ
  marks null = 0
  marks (boolean b) = 0
  marks (number (unsigned n)) = 0
  marks (number (negative z)) = 0
  marks (number (float x)) = 1
  marks (string s) = 0
  marks (array ds) = marks_items ds
  marks (object ms) = marks_members ms

  pub marks_items : Items → ℕ
  marks_items no_items = 0
  marks_items (item d ds) = marks d + marks_items ds

  pub marks_members : Members → ℕ
  marks_members no_members = 0
  marks_members (member k d ms) = marks d + marks_members ms

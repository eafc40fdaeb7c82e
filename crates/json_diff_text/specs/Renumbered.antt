-- A document with another number in the place of each.
use Rattle.serde_json.specs.Data.{Num, Data, null, boolean, number, string, array, object, Items, no_items, item, Members, no_members, member}
use Rattle.json_patch_operation.specs.Operation.{Operation, add, remove, replace, move, copy, test}

abbrev mutual
  pub renumbered : (Num → Num) → Data → Data
  renumbered f null = null
  renumbered f (boolean b) = boolean b
  renumbered f (number n) = number (f n)
  renumbered f (string s) = string s
  renumbered f (array ds) = array (renumbered_items f ds)
  renumbered f (object ms) = object (renumbered_members f ms)

  pub renumbered_items : (Num → Num) → Items → Items
  renumbered_items f no_items = no_items
  renumbered_items f (item d ds) = item (renumbered f d) (renumbered_items f ds)

  pub renumbered_members : (Num → Num) → Members → Members
  renumbered_members f no_members = no_members
  renumbered_members f (member k d ms) = member k (renumbered f d) (renumbered_members f ms)

abbrev pub renumbered_op : (Num → Num) → Operation → Operation
renumbered_op f (add P v) = add P (renumbered f v)
renumbered_op f (remove P) = remove P
renumbered_op f (replace P v) = replace P (renumbered f v)
renumbered_op f (move F P) = move F P
renumbered_op f (copy F P) = copy F P
renumbered_op f (test P v) = test P (renumbered f v)

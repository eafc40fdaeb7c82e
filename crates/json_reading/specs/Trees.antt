-- The document that a tree is under a reading (RFC 8259).
use Rattle.serde_json.specs.Data.{Data, null, boolean, number, string, array, object, Items, no_items, item, Members, no_members, put}
use Rattle.json.specs.Json as json
use Rattle.json_reading.specs.Reading.{Reading}

-- numbers as they are read, and of several members of one name the last
abbrev mutual
  pub data_of : Reading → json.Json → Data
  data_of r json.null = null
  data_of r (json.boolean b) = boolean b
  data_of r (json.number s) = number (r.of s)
  data_of r (json.string s) = string s
  data_of r (json.array js) = array (elements_of r js)
  data_of r (json.object ms) = object (members_of r ms no_members)

  pub elements_of : Reading → json.Items → Items
  elements_of r json.no_items = no_items
  elements_of r (json.item j js) = item (data_of r j) (elements_of r js)

  -- put into those that came before
  pub members_of : Reading → json.Members → Members → Members
  members_of r json.no_members before = before
  members_of r (json.member k j ms) before = members_of r ms (put k (data_of r j) before)

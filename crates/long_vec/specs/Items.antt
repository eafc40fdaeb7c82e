-- A list in blocks as a list, and the room that it has.
use Rattle.std.specs.Prelude.{ℕ, List}
use Rattle.long_vec.specs.Blocks.{items_in, capacity_in}
use Rattle.long_vec.specs.declared.LongVec.{LongVec}

-- the items, in order
abbrev pub items_of : {T : Type 0} → LongVec T → List T
items_of v = items_in v.blocks.items

-- for how many items there is room, those that it has counted
abbrev pub capacity_of : {T : Type 0} → LongVec T → ℕ
capacity_of v = capacity_in v.blocks.items

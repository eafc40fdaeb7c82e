-- What is left of a walk.
use Rattle.std.specs.Prelude.{◌++◌, List}
use Rattle.long_vec.specs.Blocks.{items_in}
use Rattle.long_vec.specs.declared.walk.Items.{Items}

-- the items that are still to come
abbrev pub left : {T : Type 0} → Items T → List T
left w = w.block.now ++ items_in w.behind.now

use Rattle.json_patch_uses.proofs.TextTrails.{from_same, one_end, read, same_exactly, to_same, unrefused}
use Rattle.json_patch_uses.proofs.text_editor.led_alike.Goals as goal

pub returns-clause-from_same : goal.returns-clause-from_same
returns-clause-from_same c = from_same c.texts.ensures.one_tree (same_exactly c.same_trees.ensures.same_under_each c.equality.ensures.same_as_document c.trees.ensures.is_document)

pub returns-clause-to_same : goal.returns-clause-to_same
returns-clause-to_same c = to_same c.texts.ensures.one_tree (same_exactly c.same_trees.ensures.same_under_each c.equality.ensures.same_as_document c.trees.ensures.is_document)

pub returns-clause-one_end : goal.returns-clause-one_end
returns-clause-one_end c = one_end c.texts.ensures.one_tree c.patches.ensures.one_patch c.runs.ensures.one_end

pub returns-clause-unrefused : goal.returns-clause-unrefused
returns-clause-unrefused c = unrefused c.texts.ensures.one_tree c.patches.ensures.one_patch c.runs.ensures.not_both

pub returns-clause-read : goal.returns-clause-read
returns-clause-read c = read c.texts.ensures.one_tree c.readings.ensures.exists c.patches.ensures.read_under_each c.values.ensures.read_or_refused

use Rattle.std.proofs.Common.{◌≡◌, ◌*◌, suc, drop}
use Rattle.json.specs.Tree.{depth, members_depth}
use Rattle.json.specs.Value.{value_view, members_view}
use Rattle.json_merge_text.specs.Stands.{IsUpTo}
use Rattle.json_merge_text.specs.Steps.{AreTexts}
use Rattle.json_pieces.specs.Whole.{text_of}
use Rattle.json_merge_text.proofs.merging.+pruning.Given as goal

abbrev pub invariant-prune-loop-index : goal.invariant-prune-loop-index
invariant-prune-loop-index l = record {
  texts : AreTexts l.texts;
  same : text_of l.texts.patch ≡ text_of l.fn.texts.patch;
  done : IsUpTo (text_of l.fn.texts.patch) l.path (members_view l.members.items) (members_view l.members.items) (members_view (drop l.index l.members.items)) (text_of l.fn.texts.document) (text_of l.texts.document);
}

abbrev pub decreases-prune_value : goal.decreases-prune_value
decreases-prune_value l = 2 * depth (value_view l.change.now)

abbrev pub decreases-prune : goal.decreases-prune
decreases-prune l = suc (2 * members_depth (members_view l.members.now.items))

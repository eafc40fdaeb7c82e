use Rattle.std.proofs.Common.{◌≡◌, ◌*◌, suc, drop}
use Rattle.json.specs.Json.{Members, object}
use Rattle.json.specs.Tree.{depth, members_depth}
use Rattle.json.specs.Value.{value_view, members_view}
use Rattle.json_merge_text.specs.Stands.{IsUpTo, StandsAt}
use Rattle.json_merge_text.specs.Steps.{AreTexts}
use Rattle.json_pieces.specs.Whole.{text_of}
use Rattle.json_merge_text.proofs.merging.+merging.Given as goal

abbrev pub invariant-merge_members-loop-index : goal.invariant-merge_members-loop-index
invariant-merge_members-loop-index l = record {
  texts : AreTexts l.texts;
  same : text_of l.texts.patch ≡ text_of l.fn.texts.patch;
  done : (is : Members) → StandsAt (text_of l.fn.texts.document) l.path (object is)
      → IsUpTo (text_of l.fn.texts.patch) l.path is (members_view l.changes.items) (members_view (drop l.index l.changes.items)) (text_of l.fn.texts.document) (text_of l.texts.document);
}

abbrev pub decreases-merge_into : goal.decreases-merge_into
decreases-merge_into l = 3 * depth (value_view l.change.now)

abbrev pub decreases-merge_members : goal.decreases-merge_members
decreases-merge_members l = suc (suc (3 * members_depth (members_view l.changes.now.items)))

abbrev pub decreases-merge_member : goal.decreases-merge_member
decreases-merge_member l = suc (3 * depth (value_view l.change.now))

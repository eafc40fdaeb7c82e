use Rattle.std.proofs.Common.{◌≡◌, false}
use Rattle.serde_json.specs.Find.{get_member}
use Rattle.json_patch.specs.Document.{AreMembers}
use Rattle.json_patch_diff.specs.Steps.{after, left}
use Rattle.json_patch_diff.proofs.Ascending.{how_many}
use Rattle.json_patch_diff.proofs.cursor.Cursor.find.Given as goal

abbrev pub invariant-loop-self : goal.invariant-loop-self
invariant-loop-self l = record {
  members : AreMembers (left l.self.first l.self.later);
  found : get_member l.name (left l.self.first l.self.later) ≡ get_member l.name (left l.initial.self.first l.initial.self.later);
  after : after l.name (left l.self.first l.self.later) ≡ after l.name (left l.initial.self.first l.initial.self.later);
  in_step : l.self.passed ≡ false → (l.initial.self.passed ≡ false) × (left l.self.first l.self.later ≡ left l.initial.self.first l.initial.self.later);
}

abbrev pub decreases-loop-self : goal.decreases-loop-self
decreases-loop-self l = how_many l.self.first l.self.later

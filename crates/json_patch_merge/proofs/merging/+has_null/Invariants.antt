use Rattle.json_patch_merge.proofs.Common.{view, members_view, members_of, RemoveNothing}
use Rattle.json_patch_merge.proofs.merging.+has_null.Given as goal

abbrev pub invariant-loop-change : goal.invariant-loop-change
invariant-loop-change l = RemoveNothing (members_view l.change-iterator) → RemoveNothing (members_of (view l.patch))

use Rattle.json_patch_merge.proofs.MergeFills.{other_here}
use Rattle.json_merge_diff.proofs.Changes.{replaced_at, differs}
use Rattle.json_merge_diff.proofs.difference.replacement.Goals.{in-Some+else-same, in_default}
use Rattle.json_merge_diff.proofs.difference.replacement.Goals as goal

pub returns : goal.returns
returns c ho hn =
    replaced_at _ _ _ c.requires (other_here _ _ c.is_null.ensures c.if-is_null.false) c.in_ok-clone.ensures.cases hn
    (elim c.match-old.branch [
      | in-Some+else-same w ↦ differs c.args.old w.in-Some.old _ w.same.result w.in-Some.is ho w.same.ensures.documents w.if-same.false
      | in_default w ↦ rw w.in_default.is (λ h. cc)
    ])

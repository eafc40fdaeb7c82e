use Rattle.std.proofs.Common.{rules}
use Rattle.json_patch_text.proofs.Kept.{kept_more}
use Rattle.json_patch_text.proofs.undo.count_at.Goals.{then-low-high+in_ok-has_element+then-branch, then-low-high+in_ok-has_element+else-branch, else-low-high}
use Rattle.json_patch_text.proofs.undo.count_at.Goals as goal

pub returns-in_err-has_element-clause-back : goal.returns-in_err-has_element-clause-back
returns-in_err-has_element-clause-back c = kept_more _ _ _ c.loop-halving.invariant.back c.has_element.ensures.back

pub loop-halving-preserved : goal.loop-halving-preserved
loop-halving-preserved c = elim c.if-low-high.branch [
  | then-low-high+in_ok-has_element+then-branch w ↦ let back = kept_more _ _ _ c.loop-halving.invariant.back w.has_element.ensures.back in search (rules, back)
  | then-low-high+in_ok-has_element+else-branch w ↦ let back = kept_more _ _ _ c.loop-halving.invariant.back w.has_element.ensures.back in search (rules, back)
  | else-low-high w ↦ search rules
]

pub returns-in_err-has_element-2-clause-back : goal.returns-in_err-has_element-2-clause-back
returns-in_err-has_element-2-clause-back c = kept_more _ _ _ c.loop-halving.invariant.back c.has_element-2.ensures.back

pub returns-then-branch-2-clause-back : goal.returns-then-branch-2-clause-back
returns-then-branch-2-clause-back c = kept_more _ _ _ c.loop-halving.invariant.back c.has_element-2.ensures.back

pub returns-clause-back : goal.returns-clause-back
returns-clause-back c = kept_more _ _ _ c.loop-halving.invariant.back c.has_element-2.ensures.back

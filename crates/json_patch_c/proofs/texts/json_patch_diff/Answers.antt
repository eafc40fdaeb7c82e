use Rattle.json_patch_c.proofs.Answered.{text_written, told}
use Rattle.json_patch_c.proofs.texts.json_patch_diff.Goals as goal

pub returns-then-flags-eq-DIFF_GUARDED-clause-guarded : goal.returns-then-flags-eq-DIFF_GUARDED-clause-guarded
returns-then-flags-eq-DIFF_GUARDED-clause-guarded c =
    λ asked. rw (← c.limits.ensures.limits, c.in-Ok.is) (text_written _ _ _ _ _ _ c.guarded_differing.ensures.text c.answer.ensures.put_out c.answer.ensures.reported)

pub returns-clause-written : goal.returns-clause-written
returns-clause-written c =
    λ others. rw (← c.limits.ensures.limits, c.in-Ok.is) (text_written _ _ _ _ _ _ c.differing-made.ensures.text c.answer-2.ensures.put_out c.answer-2.ensures.reported)

pub returns-clause-told : goal.returns-clause-told
returns-clause-told c =
    rw (← c.limits.ensures.limits, c.in-Ok.is) (told _ _ _ _ _ _ c.differing-made.ensures.failure c.answer-2.ensures.put_out c.answer-2.ensures.reported)

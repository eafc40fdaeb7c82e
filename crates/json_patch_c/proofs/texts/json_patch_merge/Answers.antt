use Rattle.json_patch_c.proofs.Answered.{text_written, told}
use Rattle.json_patch_c.proofs.texts.json_patch_merge.Goals as goal

pub returns-clause-written : goal.returns-clause-written
returns-clause-written c =
    rw (← c.limits.ensures.limits, c.in-Ok.is) (text_written _ _ _ _ _ _ c.merged-made.ensures.text c.answer.ensures.put_out c.answer.ensures.reported)

pub returns-clause-told : goal.returns-clause-told
returns-clause-told c =
    rw (← c.limits.ensures.limits, c.in-Ok.is) (told _ _ _ _ _ _ c.merged-made.ensures.failure c.answer.ensures.put_out c.answer.ensures.reported)

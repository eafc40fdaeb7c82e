use Rattle.json_patch_c.proofs.Answered.{holds_of_done, text_written, told}
use Rattle.json_patch_c.proofs.texts.json_patch_apply.Goals as goal

pub returns-clause-written : goal.returns-clause-written
returns-clause-written c =
    rw (← c.limits.ensures.limits, c.in-Ok.is) (text_written _ _ _ _ _ _ c.patched-made.ensures.text c.answer.ensures.put_out c.answer.ensures.reported)

pub returns-clause-few : goal.returns-clause-few
returns-clause-few c =
    rw (← c.limits.ensures.limits, c.in-Ok.is) (holds_of_done _ _ _ _ _ _ c.patched-made.ensures.few c.answer.ensures.reported)

pub returns-clause-told : goal.returns-clause-told
returns-clause-told c =
    rw (← c.limits.ensures.limits, c.in-Ok.is) (told _ _ _ _ _ _ c.patched-made.ensures.failure c.answer.ensures.put_out c.answer.ensures.reported)

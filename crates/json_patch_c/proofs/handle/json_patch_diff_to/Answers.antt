use Rattle.json_patch_c.proofs.Answered.{text_written, told}
use Rattle.json_patch_c.proofs.handle.json_patch_diff_to.Goals as goal

pub returns-clause-written : goal.returns-clause-written
returns-clause-written c =
    rw (← c.in-Some.ensures.held, ← c.deref.ensures) (text_written _ _ _ _ _ _ c.differing-made.ensures.text c.answer.ensures.put_out c.answer.ensures.reported)

pub returns-clause-told : goal.returns-clause-told
returns-clause-told c =
    rw (← c.in-Some.ensures.held, ← c.deref.ensures) (told _ _ _ _ _ _ c.differing-made.ensures.failure c.answer.ensures.put_out c.answer.ensures.reported)

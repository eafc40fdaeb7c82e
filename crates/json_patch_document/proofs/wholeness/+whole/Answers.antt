use Rattle.json_patch_document.proofs.Common.{refl}
use Rattle.json_patch_document.proofs.Floats.{one_less}
use Rattle.json_patch_document.proofs.wholeness.+whole.Goals as goal

pub loop-name-preserved : goal.loop-name-preserved
loop-name-preserved t c =
    let here = c.if-not-is_whole-2.ensures in
    one_less _ _ _ _ c.in-Some.ensures.steps (here.no_float.0 refl) (here.document.0 refl) c.loop-name.invariant

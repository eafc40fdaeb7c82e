-- A logged edit may be made of a document with marks.
use Rattle.json_patch.proofs.Common.{Data}
use Rattle.json_patch_edit.specs.declared.edits.Edit.{Edit}
use Rattle.json_patch_edit.specs.declared.edits.Edit.TheVariants.{Remove}
use Rattle.json_patch_edit.specs.Exchange.{IsUnmarkedFor}
use Rattle.json_patch.specs.Logged.{IsFor}

-- no logged edit is a `Remove`, which alone needs a document without marks
pub unmarked_logged : (edit : Edit) (v d : Data) → IsFor edit v → IsUnmarkedFor edit d
unmarked_logged Remove v d h = absurd h
unmarked_logged edit v d h = tt

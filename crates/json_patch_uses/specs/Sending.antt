-- What a message makes of a client's copy.
use Rattle.std.specs.Prelude.{◌≡◌}
use Rattle.serde_json.specs.Data.{Data}
use Rattle.serde_json.specs.View.{view}
use Rattle.json_patch.specs.Document.{IsDocument}
use Rattle.json_patch.specs.Merged.{IsMerged}
use Rattle.json_patch_uses.specs.declared.sending.Message.{Message}
use Rattle.json_patch_uses.specs.declared.sending.Message.TheVariants.{Changes, Whole}

-- a client that holds d holds e afterwards
abbrev pub Brings : Message → Data → Data → Type 0
Brings (Changes p) d e = IsMerged d (view p) e
Brings (Whole v) d e = view v ≡ e

-- what is sent is a document
abbrev pub HasDocument : Message → Type 0
HasDocument (Changes p) = IsDocument (view p)
HasDocument (Whole v) = IsDocument (view v)

-- For private clauses: the texts in pieces, and faults.
use Rattle.std.specs.Prelude.{◌≡◌, ℕ, List}
use Rattle.json_merge_text.specs.declared.fault.MergeTextFault.{MergeTextFault}
use Rattle.json_merge_text.specs.declared.fault.MergeTextFault.TheVariants as merge
use Rattle.json_merge_text.specs.declared.texts.Texts.{Texts}
use Rattle.json_pieces.specs.Whole.{ArePieces, text_of}
use Rattle.json_text.specs.declared.fault.TextFault.{TextFault}
use Rattle.json_text.specs.declared.fault.TextFault.TheVariants.{NotJson, TooDeep, Memory}

-- ---- the texts

-- both are the pieces of texts
abbrev pub AreTexts : Texts → Type 0
AreTexts t = ArePieces t.document × ArePieces t.patch

-- from the first the second comes: the patch's text is the same, and Made says of it, of the document's and of the new one how that is made
pub record Becomes (old new : Texts) (Made : List ℕ → List ℕ → List ℕ → Type 0) : Type 0 where
  pub texts : AreTexts new
  pub same : text_of new.patch ≡ text_of old.patch
  pub made : Made (text_of old.patch) (text_of old.document) (text_of new.document)

-- ---- faults

-- which fault that of the document's text becomes, or of the patch's
abbrev pub as_document : TextFault → MergeTextFault
as_document NotJson = merge.Document NotJson
as_document TooDeep = merge.Document TooDeep
as_document (Memory m) = merge.Memory m

abbrev pub as_patch : TextFault → MergeTextFault
as_patch NotJson = merge.Patch NotJson
as_patch TooDeep = merge.Patch TooDeep
as_patch (Memory m) = merge.Memory m

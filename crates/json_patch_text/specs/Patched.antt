-- A JSON text patched in place by the text of a patch (RFC 6902).
use Rattle.std.specs.Prelude.{◌<◌, ℕ, List, length, ⊤}
use Rattle.json_patch_text.specs.Made.{AreMadeIn, IsNoText, IsTooDeepAt}
use Rattle.json_patch_text.specs.Operations.{TreeOperation, SaysOperations, SaysNoOperations}
use Rattle.json_patch_text.specs.Run.{AcceptsText}
use Rattle.json_patch_text.specs.Stopped.{NamesFirstIn}
use Rattle.json_patch_text.specs.TextOperations.{AreWrittenAs, AreWrittenIn}
use Rattle.json_patch_text.specs.declared.fault.PatchTextFault.{PatchTextFault}
use Rattle.json_patch_text.specs.declared.fault.PatchTextFault.TheVariants.{Document, Patch, Unreadable, Refused, TooDeep, Memory}
use Rattle.json_patch_text.specs.declared.operation.TextOperation.{TextOperation}

-- the patch's text says operations that lead from what the text says to what the new one says
abbrev pub AcceptsPatch : List ℕ → List ℕ → List ℕ → Type 0
AcceptsPatch text patch new = (ops : List TreeOperation) × SaysOperations patch ops × AcceptsText text ops new

-- the patch's text says operations, which have these texts for values, as they are written in it
abbrev pub HasTexts : List ℕ → List TextOperation → Type 0
HasTexts patch os = (ops : List TreeOperation) × SaysOperations patch ops × AreWrittenAs os ops × AreWrittenIn patch os

-- new is the text with each of them made in turn, and every other byte kept
abbrev pub IsPatchedText : List ℕ → List ℕ → List ℕ → Type 0
IsPatchedText text patch new = (os : List TextOperation) × HasTexts patch os × AreMadeIn text os new

-- why the text isn't patched
abbrev pub IsPatchTextFault : List ℕ → List ℕ → PatchTextFault → Type 0
IsPatchTextFault text patch (Document f) = IsNoText text f
IsPatchTextFault text patch (Patch f) = IsNoText patch f
IsPatchTextFault text patch (Unreadable e) = SaysNoOperations patch e.operation e.kind
IsPatchTextFault text patch (Refused e) = (ops : List TreeOperation) × SaysOperations patch ops × NamesFirstIn text ops e
IsPatchTextFault text patch (TooDeep k) = (os : List TextOperation) × HasTexts patch os × (k < length os) × IsTooDeepAt text os k
IsPatchTextFault text patch (Memory m) = ⊤

-- Where all numbers are whole ones of 64 bits, operations on a text come to what they come to on its document.
use Rattle.std.proofs.Common.{◌≡◌, ℕ, List, Some, sym, subst}
use Rattle.json.specs.Json.{Json}
use Rattle.serde_json.specs.Data.{Data}
use Rattle.serde_json.specs.Read.{of_json}
use Rattle.json_patch_document.specs.Document.{IsDocument}
use Rattle.json_patch_laws.specs.Run.{Accepts, RefusesAt}
use Rattle.json_patch_operation.specs.Operation.{Operation}
use Rattle.json_patch_operation.specs.PatchValue.{ReadsPatch}
use Rattle.json_patch_operation.specs.declared.error.PatchErrorKind.{PatchErrorKind}
use Rattle.json_patch_operation.proofs.PatchValues.{read_is}
use Rattle.json_patch_text.specs.Operations.{TreeOperation, ReadsTreePatch, all_under}
use Rattle.json_patch_text.specs.Run.{AcceptsTree, RefusesTreeAt}
use Rattle.json_patch_text.proofs.Patches.{read_under}
use Rattle.json_patch_text.proofs.Runs.{one_document_left}
use Rattle.json_reading.specs.Reading.{Reading}
use Rattle.json_reading.specs.Trees.{data_of}
use Rattle.json_reading.proofs.AsRead.{as_read}

-- the operations of the one patch are those of the other
operations_as_read : (p : Json) (v : Data) (ops : List TreeOperation) (os : List Operation) (r : Reading) → of_json p ≡ Some v → IsDocument v → ReadsTreePatch p ops → ReadsPatch v os → all_under r ops ≡ os
operations_as_read p v ops os r h w t o = (read_is v os o).alone (all_under r ops) (subst (λ v. ReadsPatch v (all_under r ops)) (as_read r p v h w) (read_under p ops t r))

pub end_as_read : (i j p : Json) (d v e : Data) (ops : List TreeOperation) (os : List Operation) (r : Reading) → of_json i ≡ Some d → IsDocument d → of_json p ≡ Some v → IsDocument v
    → ReadsTreePatch p ops → ReadsPatch v os → AcceptsTree i ops j → Accepts d os e → data_of r j ≡ e
end_as_read i j p d v e ops os r hd wd hp wp t o a h =
    one_document_left i j ops r e a
    (subst (λ d. Accepts d (all_under r ops) e) (sym (as_read r i d hd wd)) (subst (λ os. Accepts d os e) (sym (operations_as_read p v ops os r hp wp t o)) h))

pub refused_as_read : (i p : Json) (d v : Data) (ops : List TreeOperation) (os : List Operation) (k : ℕ) (kind : PatchErrorKind) → of_json i ≡ Some d → IsDocument d → of_json p ≡ Some v → IsDocument v
    → ReadsTreePatch p ops → ReadsPatch v os → RefusesTreeAt i ops k kind → RefusesAt d os k kind
refused_as_read i p d v ops os k kind hd wd hp wp t o (before, (r, n)) =
    subst (λ d. RefusesAt d os k kind) (as_read r i d hd wd) (subst (λ os. RefusesAt (data_of r i) os k kind) (operations_as_read p v ops os r hp wp t o) n)

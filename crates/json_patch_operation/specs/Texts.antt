-- What a text says (RFC 8259), a document or a patch, and why it says none. A text is JSON where the reader of JSON
-- reads it: it nests at most 127 levels, and has no number and no escape that the reader refuses, which are a number
-- past a float's range, such as 1e400, and an unpaired surrogate.
use Rattle.std.specs.Prelude.{◌≡◌, ℕ, List, Some, None, IsUtf8}
use Rattle.serde_json.specs.Data.{Data}
use Rattle.serde_json.specs.Errors.{IsMemory}
use Rattle.serde_json.specs.Read.{read}
use Rattle.serde_json.specs.declared.error.Error.{Error}
use Rattle.json_patch_document.specs.Document.{IsDocument}
use Rattle.json_patch_operation.specs.Operation.{Operation}
use Rattle.json_patch_operation.specs.PatchValue.{ReadsPatch, RefusesPatch}
use Rattle.json_patch_operation.specs.declared.fault.Fault.{Fault}
use Rattle.json_patch_operation.specs.declared.fault.Fault.TheVariants.{Syntax, NotWhole, Unreadable, Refused, Memory}
use Rattle.json_patch_operation.specs.declared.error.PatchFault.{PatchFault}
use Rattle.json_patch_operation.specs.declared.error.PatchFault.TheVariants.{Refused as run_refused, Memory as run_memory}
use Rattle.json_patch_operation.specs.declared.read_error.ReadFault.{ReadFault}
use Rattle.json_patch_operation.specs.declared.read_error.ReadFault.TheVariants.{Refused as read_refused, Memory as read_memory}

-- the text is JSON, and its value is the document d
abbrev pub SaysDocument : List ℕ → Data → Type 0
SaysDocument text d = (read text ≡ Some d) × IsDocument d

-- the bytes are UTF-8, and say the document d
abbrev pub BytesSayDocument : List ℕ → Data → Type 0
BytesSayDocument bytes d = IsUtf8 bytes × SaysDocument bytes d

-- the text is JSON, and its value reads as the operations
abbrev pub SaysPatch : List ℕ → List Operation → Type 0
SaysPatch text ops = (v : Data) × (read text ≡ Some v) × ReadsPatch v ops

-- why the text says no document: it is no JSON, or a number of its value isn't whole; where memory ran out,
-- the text may say one
abbrev pub NoDocument : List ℕ → Fault → Type 0
NoDocument text (Syntax e) = read text ≡ None
NoDocument text NotWhole = (v : Data) × (read text ≡ Some v) × (IsDocument v → ⊥)
NoDocument text (Memory e) = Unit {0}
NoDocument text fault = ⊥

-- why the bytes say no document: they are no UTF-8, or no JSON, or a number of their value isn't whole
abbrev pub NoDocumentInBytes : List ℕ → Fault → Type 0
NoDocumentInBytes bytes (Syntax e) = IsUtf8 bytes → NoDocument bytes (Syntax e)
NoDocumentInBytes bytes NotWhole = IsUtf8 bytes × NoDocument bytes NotWhole
NoDocumentInBytes bytes fault = NoDocument bytes fault

-- why the text says no patch: it is no JSON, or its value isn't read as one; where memory ran out, the text
-- may say one
abbrev pub NoPatch : List ℕ → Fault → Type 0
NoPatch text (Syntax e) = read text ≡ None
NoPatch text (Unreadable e) = (v : Data) × (read text ≡ Some v) × RefusesPatch v e.operation e.kind
NoPatch text (Memory e) = Unit {0}
NoPatch text fault = ⊥

-- ---- which fault the error of a call becomes

-- that of a reader of JSON
abbrev pub IsOfText : Error → Fault → Type 0
IsOfText e (Syntax f) = (f ≡ e) × (IsMemory e → ⊥)
IsOfText e (Memory f) = IsMemory e
IsOfText e fault = ⊥

abbrev pub of_read : ReadFault → Fault
of_read (read_refused e) = Unreadable e
of_read (read_memory e) = Memory e

abbrev pub of_patch : PatchFault → Fault
of_patch (run_refused e) = Refused e
of_patch (run_memory e) = Memory e

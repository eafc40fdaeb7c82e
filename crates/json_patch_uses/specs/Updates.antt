-- What the text of a patch makes of a document.
use Rattle.std.specs.Prelude.{◌⊎◌, ℕ, List, Result, Ok, Err}
use Rattle.serde_json.specs.Data.{Data}
use Rattle.json_patch.specs.Operation.{Operation}
use Rattle.json_patch.specs.Refusal.{NamesFirst}
use Rattle.json_patch.specs.Run.{Accepts}
use Rattle.json_patch.specs.Texts.{NoDocument, NoPatch, SaysDocument, SaysPatch}
use Rattle.json_patch.specs.Fault.{Fault}
use Rattle.json_patch.specs.Fault.TheVariants.{Syntax, NotWhole, Unreadable, Refused, Memory}

-- the text says a patch, which is accepted on d and leaves e
abbrev pub Updates : Data → List ℕ → Data → Type 0
Updates d text e = (ops : List Operation) × SaysPatch text ops × Accepts d ops e

-- why the text makes no update of d: d refuses the patch that it says, or it says none
abbrev pub NoUpdate : Data → List ℕ → Fault → Type 0
NoUpdate d text (Refused e) = (ops : List Operation) × SaysPatch text ops × NamesFirst d ops e
NoUpdate d text fault = NoPatch text fault

-- the first text says no document, or the second makes no update of it
abbrev pub IsEitherFault : List ℕ → List ℕ → Fault → Type 0
IsEitherFault document text fault = NoDocument document fault ⊎ ((d : Data) × SaysDocument document d × NoUpdate d text fault)

-- this holds, unless memory was short
abbrev pub UnlessShort : {T : Type 0} → Result T Fault → Type 0 → Type 0
UnlessShort (Ok x) P = P
UnlessShort (Err (Syntax e)) P = P
UnlessShort (Err NotWhole) P = P
UnlessShort (Err (Unreadable e)) P = P
UnlessShort (Err (Refused e)) P = P
UnlessShort (Err (Memory e)) P = Unit {0}

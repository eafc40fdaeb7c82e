-- Changes below one pointer alone.
use Rattle.std.specs.Prelude.{◌≡◌, ℕ, List, Some, slice_get}
use Rattle.serde_json.specs.Data.{Data}
use Rattle.jsonptr.specs.Text.{Pointer}
use Rattle.json_patch.specs.Operation.{Operation}
use Rattle.json_patch.specs.Refusal.{NamesFirst}
use Rattle.json_patch.specs.Run.{Accepts}
use Rattle.json_patch.specs.Shared.{AreWithin, IsWithin}
use Rattle.json_patch.specs.Texts.{NoPatch, SaysPatch}
use Rattle.json_patch.specs.Fault.TheVariants.{Refused}
use Rattle.json_patch_uses.specs.declared.section.SectionFault.{SectionFault}
use Rattle.json_patch_uses.specs.declared.section.SectionFault.TheVariants.{Outside, NotApplied}

-- the text says a patch below S, which is accepted on d and leaves e
abbrev pub UpdatesBelow : Pointer → Data → List ℕ → Data → Type 0
UpdatesBelow S d text e = (ops : List Operation) × SaysPatch text ops × AreWithin S ops × Accepts d ops e

-- why the text makes no update of d below S: this operation reaches out, or all are below S and d refuses them, or the
-- text says no patch
abbrev pub NoUpdateBelow : Pointer → Data → List ℕ → SectionFault → Type 0
NoUpdateBelow S d text (Outside k) = (ops : List Operation) × (op : Operation) × SaysPatch text ops × (slice_get ops k ≡ Some op) × (IsWithin S op → ⊥)
NoUpdateBelow S d text (NotApplied (Refused e)) = (ops : List Operation) × SaysPatch text ops × AreWithin S ops × NamesFirst d ops e
NoUpdateBelow S d text (NotApplied fault) = NoPatch text fault

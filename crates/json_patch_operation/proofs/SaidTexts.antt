-- A text says one document and one patch at most, and where it says one it has no fault but want of memory.
use Rattle.json_patch_operation.proofs.Common.{◌≡◌, ℕ, List, Some, None, refl, sym, ◌∙◌, subst, AllocError, Data}
use Rattle.json_patch_operation.proofs.Common.{Operation, IsDocument, ReadsPatch}
use Rattle.serde_json.specs.Read.{read}
use Rattle.json_patch_operation.specs.Texts.{SaysDocument, SaysPatch, NoDocument, NoPatch}
use Rattle.json_patch_operation.specs.declared.fault.Fault.{Fault}
use Rattle.json_patch_operation.specs.declared.fault.Fault.TheVariants.{Syntax, NotWhole, Unreadable, Refused, Memory}
use Rattle.json_patch_operation.proofs.PatchValues.{read_is}

one_value : (t : List ℕ) (d e : Data) → read t ≡ Some d → read t ≡ Some e → e ≡ d
one_value t d e h g = let same : Some e ≡ Some d = sym g ∙ h in cc

no_value : (t : List ℕ) (d : Data) → read t ≡ Some d → read t ≡ None → ⊥
no_value t d h g = let same : Some d ≡ None = sym h ∙ g in cc

pub one_document : (t : List ℕ) (d e : Data) → SaysDocument t d → SaysDocument t e → e ≡ d
one_document t d e h g = one_value t d e h.0 g.0

pub document_no_fault : (t : List ℕ) (d : Data) (f : Fault) → SaysDocument t d → NoDocument t f → (a : AllocError) × (f ≡ Memory a)
document_no_fault t d (Syntax e) h g = absurd (no_value t d h.0 g)
document_no_fault t d NotWhole h g = absurd (g.2 (subst IsDocument (one_value t g.0 d g.1 h.0) h.1))
document_no_fault t d (Unreadable e) h g = absurd g
document_no_fault t d (Refused e) h g = absurd g
document_no_fault t d (Memory a) h g = (a, refl)

pub one_patch : (t : List ℕ) (ops others : List Operation) → SaysPatch t ops → SaysPatch t others → others ≡ ops
one_patch t ops others h g = (read_is h.0 ops h.2).alone others (subst (λ v. ReadsPatch v others) (one_value t h.0 g.0 h.1 g.1) g.2)

pub patch_no_fault : (t : List ℕ) (ops : List Operation) (f : Fault) → SaysPatch t ops → NoPatch t f → (a : AllocError) × (f ≡ Memory a)
patch_no_fault t ops (Syntax e) h g = absurd (no_value t h.0 h.1 g)
patch_no_fault t ops NotWhole h g = absurd g
patch_no_fault t ops (Unreadable e) h g =
    absurd ((read_is g.0 ops (subst (λ v. ReadsPatch v ops) (one_value t g.0 h.0 g.1 h.1) h.2)).nowhere e.operation e.kind g.2)
patch_no_fault t ops (Refused e) h g = absurd g
patch_no_fault t ops (Memory a) h g = (a, refl)

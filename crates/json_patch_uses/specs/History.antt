-- Changes that lead from one document to another.
use Rattle.std.specs.Prelude.{◌≡◌, ◌++◌, List, [], ◌∷◌}
use Rattle.serde_json.specs.Data.{Data}
use Rattle.json_patch.specs.Document.{IsDocument}
use Rattle.json_patch.specs.Inverse.{IsInverse}
use Rattle.json_patch.specs.Operation.{Operation, operations_of}
use Rattle.json_patch.specs.Run.{Accepts}
use Rattle.json_patch_uses.specs.declared.history.Change.{Change}

abbrev pub patch_of : Change → List Operation
patch_of c = operations_of c.patch

abbrev pub undo_of : Change → List Operation
undo_of c = operations_of c.undo

-- the operations of changes, one after another
abbrev pub joined : List Change → List Operation
joined [] = []
joined (c ∷ cs) = patch_of c ++ joined cs

-- the changes lead from d to e, each stored with its inverse
abbrev pub Lead : Data → List Change → Data → Type 0
Lead d [] e = d ≡ e
Lead d (c ∷ cs) e = (m : Data) × Accepts d (patch_of c) m × IsInverse d (patch_of c) (undo_of c) × Lead m cs e

-- there is a document from which the changes lead to e
abbrev pub LeadFromADocument : List Change → Data → Type 0
LeadFromADocument cs e = ∥ ((d : Data) × IsDocument d × Lead d cs e) ∥₁

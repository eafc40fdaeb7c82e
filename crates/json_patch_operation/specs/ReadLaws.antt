-- Each value is read or refused, in one way: for the laws of reading.
use Rattle.std.specs.Prelude.{◌≡◌, ℕ, List, Option}
use Rattle.serde_json.specs.Data.{Data}
use Rattle.json_patch_operation.specs.Operation.{Operation}
use Rattle.json_patch_operation.specs.PatchValue.{name_of, field_names, ReadsFields, ReadsOperation, ReadsPatch, RefusesFields}
use Rattle.json_patch_operation.specs.PatchValue.{RefusesOperation, RefusesPatch}
use Rattle.json_patch_operation.specs.declared.read_error.ReadKind.{ReadKind}

-- v reads as these operations and no others, and is refused for nothing
pub record IsRead (v : Data) (ops : List Operation) : Type 0 where
  pub reads : ReadsPatch v ops
  pub alone : (others : List Operation) → ReadsPatch v others → others ≡ ops
  pub nowhere : (k : Option ℕ) (kind : ReadKind) → RefusesPatch v k kind → ⊥

-- v is refused with this number and for this kind, in no other way, and reads as no operations
pub record HasReadFault (v : Data) (k : Option ℕ) (kind : ReadKind) : Type 0 where
  pub refuses : RefusesPatch v k kind
  pub alone : (j : Option ℕ) (other : ReadKind) → RefusesPatch v j other → (j ≡ k) × (other ≡ kind)
  pub never : (ops : List Operation) → ReadsPatch v ops → ⊥

-- the same, where one operation is to be read
pub record IsReadAlone (v : Data) (op : Operation) : Type 0 where
  pub reads : ReadsOperation v op
  pub alone : (other : Operation) → ReadsOperation v other → other ≡ op
  pub nowhere : (kind : ReadKind) → RefusesOperation v kind → ⊥

pub record HasReadFaultAlone (v : Data) (kind : ReadKind) : Type 0 where
  pub refuses : RefusesOperation v kind
  pub alone : (other : ReadKind) → RefusesOperation v other → other ≡ kind
  pub never : (op : Operation) → ReadsOperation v op → ⊥

-- the same, where an operation of the name of `like` is to be read, with no look at `op`
pub record IsReadLike (like : Operation) (v : Data) (op : Operation) : Type 0 where
  pub named : name_of op ≡ name_of like
  pub reads : ReadsFields v op
  pub alone : (other : Operation) → name_of other ≡ name_of like → ReadsFields v other → other ≡ op
  pub nowhere : (kind : ReadKind) → RefusesFields (field_names like) v kind → ⊥

pub record HasReadFaultLike (like : Operation) (v : Data) (kind : ReadKind) : Type 0 where
  pub refuses : RefusesFields (field_names like) v kind
  pub alone : (other : ReadKind) → RefusesFields (field_names like) v other → other ≡ kind
  pub never : (op : Operation) → name_of op ≡ name_of like → ReadsFields v op → ⊥

-- The names that most proofs of this crate speak of.
pub use Rattle.std.proofs.Common.{◌≡◌, ℕ, List, [], ◌∷◌, ◌++◌, Option, ap, suc, length, sym, ◌∙◌, subst, zero, take}
pub use Rattle.std.proofs.Common.{◌↔◌, Bool, false, drop, true}
pub use Rattle.jsonptr.specs.Pointers.{tokens_of, token_of, tokens_left}
pub use Rattle.jsonptr.specs.Text.{Pointer, IsPrefix}
pub use Rattle.json_patch_operation.specs.Operation.{Operation, operation_of, operations}
pub use Rattle.json_patch_operation.specs.declared.operation.PatchOperation.{PatchOperation}

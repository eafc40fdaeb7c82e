-- Equality of operations, as a test.
use Rattle.std.specs.Prelude.{◌&&◌, Bool, bytes_eq}
use Rattle.std.specs.Option.{option_eq}
use Rattle.jsonptr.specs.Text.{Pointer, text_of}
use Rattle.json_patch_operation.specs.Operation.{Operation, Parts, parts_of}
pub use Rattle.json_patch_document.specs.SameComputed.{same_bool, same_num, same, same_items, same_members}

abbrev pub same_pointer : Pointer → Pointer → Bool
same_pointer P Q = bytes_eq (text_of P) (text_of Q)

abbrev pub same_parts : Parts → Parts → Bool
same_parts p q = bytes_eq p.name q.name && (option_eq same_pointer p.from q.from && (same_pointer p.path q.path && option_eq same p.value q.value))

abbrev pub same_operation : Operation → Operation → Bool
same_operation op other = same_parts (parts_of op) (parts_of other)

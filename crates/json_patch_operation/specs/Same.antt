-- Equality of operations (RFC 6902, section 4.6).
use Rattle.std.specs.Prelude.{◌≡◌, List, [], ◌∷◌}
use Rattle.json_patch_operation.specs.Operation.{Operation, Parts, parts_of}
pub use Rattle.json_patch_document.specs.Same.{AreSameNumbers, AreSame, AreSameItems, AreSameMembers, AreSameAt, AreInOrder}

-- one name, equal pointers and the same value, or none in both
pub record AreSameParts (p q : Parts) : Type 0 where
  pub name : p.name ≡ q.name
  pub from : p.from ≡ q.from
  pub path : p.path ≡ q.path
  pub value : AreSameAt p.value q.value

abbrev pub AreSameOperations : Operation → Operation → Type 0
AreSameOperations op other = AreSameParts (parts_of op) (parts_of other)

-- lists of operations, one by one
abbrev pub AreSameLists : List Operation → List Operation → Type 0
AreSameLists [] [] = Unit {0}
AreSameLists (op ∷ ops) (other ∷ others) = AreSameOperations op other × AreSameLists ops others
AreSameLists ops others = ⊥

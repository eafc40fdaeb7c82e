-- On operations with whole values equality is `≡`, and what a comparison answers is what it says.
use Rattle.json_patch_operation.proofs.Common.{◌≡◌, ◌↔◌, IsTrue, List, [], ◌∷◌, Bool, subst, rules, pointwise, Operation, Parts, parts_of, operation_of, operations, IsWholeOp, AreWhole, PatchOperation, Decides, on, Decides-and, Decides-at, same_parts, same_operation}
use Rattle.json_patch_operation.specs.Same.{AreSameParts, AreSameOperations, AreSameLists}
use Rattle.json_patch_operation.specs.SameLaws.{parts-refl, parts-Decides}
use Rattle.json_patch_document.proofs.SameDocuments.{at-is}

operation-is : (op other : Operation) → IsWholeOp op → AreSameOperations op other → op ≡ other
operation-is op other w h = search (rules, at-is)

lists-is : (ops others : List Operation) → AreWhole ops → AreSameLists ops others → ops ≡ others
lists-is (op ∷ ops) (other ∷ others) hv h = rw (operation-is op other hv.0 h.0, lists-is ops others hv.1 h.1)
lists-is ops others hv h = search rules

lists-refl : (ops : List Operation) → AreSameLists ops ops
lists-refl [] = tt
lists-refl (op ∷ ops) = (parts-refl (parts_of op), lists-refl ops)

pub AreSameLists-whole : (ops others : List Operation) → AreWhole ops → AreSameLists ops others ↔ (ops ≡ others)
AreSameLists-whole ops others hv = (lists-is ops others hv, λ e. subst (AreSameLists ops) e (lists-refl ops))

-- ---- what a comparison answers

pub parts_say : (r : Bool) (p q : Parts) → r ≡ same_parts p q → IsTrue r ↔ AreSameParts p q
parts_say r p q is = Decides-at r (same_parts p q) is (parts-Decides p q)

tests-Decide : (xs ys : List PatchOperation) → Decides (pointwise (on operation_of same_operation) xs ys) (AreSameLists (operations xs) (operations ys))
tests-Decide (x ∷ xs) (y ∷ ys) = search (rules, Decides-and, parts-Decides, tests-Decide xs ys)
tests-Decide xs ys = search rules

pub operations_say : (r : Bool) (xs ys : List PatchOperation) → r ≡ pointwise (on operation_of same_operation) xs ys
    → IsTrue r ↔ AreSameLists (operations xs) (operations ys)
operations_say r xs ys is = Decides-at r (pointwise (on operation_of same_operation) xs ys) is (tests-Decide xs ys)

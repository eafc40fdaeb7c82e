-- How many operations a patch's text says.
use Rattle.std.proofs.Common.{◌≡◌, ℕ, suc, List, [], ◌∷◌, length, refl, sym, ap, ◌∙◌, subst}
use Rattle.json_patch_text.specs.Operations.{TreeOperation, SaysOperations}
use Rattle.json_patch_text.specs.Patched.{HasTexts}
use Rattle.json_patch_text.specs.TextOperations.{AreWrittenAs}
use Rattle.json_patch_text.specs.declared.operation.TextOperation.{TextOperation}
use Rattle.json_patch_text.proofs.Patches.{one_patch}

as_many : (os : List TextOperation) (ops : List TreeOperation) → AreWrittenAs os ops → length ops ≡ length os
as_many [] [] h = refl
as_many [] (op ∷ ops) h = absurd h
as_many (o ∷ os) [] h = absurd h
as_many (o ∷ os) (op ∷ ops) h = ap suc (as_many os ops h.1)

pub counted : (patch : List ℕ) (os : List TextOperation) (n : ℕ) → n ≡ length os → HasTexts patch os → (ops : List TreeOperation) × SaysOperations patch ops × (length ops ≡ n)
counted patch os n is (ops, says, written, in_patch) = (ops, says, as_many os ops written ∙ sym is)

-- each list that a text says has so many
pub as_many_always : (patch : List ℕ) (n : ℕ) (ops : List TreeOperation) → (some : List TreeOperation) × SaysOperations patch some × (length some ≡ n) → SaysOperations patch ops → length ops ≡ n
as_many_always patch n ops (some, says, count) said = subst (λ xs. length xs ≡ n) (sym (one_patch patch some ops says said)) count

use Rattle.std.proofs.Common.{◌↔◌, Bool, Result, Ok, Err, IfOk, IsTrue}
use Rattle.std.specs.Bool.{Decides}
use Rattle.json_reading.proofs.tests.is_unchanged.Goals as goal

carried : {E : Type 0} (r : Result Bool E) (S A : Type 0) → S ↔ A → IfOk r (λ b. Decides b S) → IfOk r (λ b. IsTrue b ↔ A)
carried (Ok b) S A e h = (λ t. e.0 (h.0 t), λ a. h.1 (e.1 a))
carried (Err x) S A e h = tt

pub returns : goal.returns
returns c = carried c.same_tree.result _ _ (c.same_trees.ensures.same_under_each _ _) c.same_tree.ensures

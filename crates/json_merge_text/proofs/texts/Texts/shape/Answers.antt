use Rattle.std.proofs.Common.{ap, ◌∙◌, option_map}
use Rattle.std.proofs.lemmas.Result.{IfOk-weaker}
use Rattle.json_text.specs.Listing.{shape_of}
use Rattle.json_text.specs.Pointed.{tree_at}
use Rattle.json_merge_text.proofs.texts.Texts.shape.Goals as goal

pub returns-clause-shape : goal.returns-clause-shape
returns-clause-shape c = IfOk-weaker c.shape.result _ _ (λ found of j said. of j said ∙ ap (λ P. option_map shape_of (tree_at P j)) c.as_pointer.ensures) c.shape.ensures.shape

use Rattle.std.proofs.Common.{List, subst}
use Rattle.std.specs.Prelude.{OnOk}
use Rattle.json_pieces.specs.Whole.{text_of}
use Rattle.json_patch_text.specs.Drafts.{draft_text}
use Rattle.json_patch_text.specs.Operations.{TreeOperation}
use Rattle.json_patch_text.specs.Run.{AcceptsText}
use Rattle.json_patch_text.specs.TextOperations.{AreWrittenAs}
use Rattle.json_patch_text.proofs.pieces.made_in.Goals as goal

pub returns-clause-accepted : goal.returns-clause-accepted
returns-clause-accepted c =
    subst (λ d. OnOk c.run_in-done.result ((ops : List TreeOperation) → AreWrittenAs c.args.operations.now ops → AcceptsText (text_of c.args.pieces.now) ops (draft_text d))) c.into_pieces.ensures
    (subst (λ p. OnOk c.run_in-done.result ((ops : List TreeOperation) → AreWrittenAs c.args.operations.now ops → AcceptsText (text_of p) ops (draft_text c.run_in-done.new.draft))) c.replace-given.ensures.value c.run_in-done.ensures.accepted)

use Rattle.std.proofs.Common.{sym, subst}
use Rattle.std.specs.Prelude.{IfOk}
use Rattle.jsonptr.specs.Pointers.{tokens_of}
use Rattle.json_patch_text.specs.Drafts.{IsCopyOf, draft_text}
use Rattle.json_patch_text.proofs.draft.Draft.value.Goals as goal

pub returns-in-Whole-clause-value : goal.returns-in-Whole-clause-value
returns-in-Whole-clause-value c = subst (λ d. IfOk c.value.result (IsCopyOf (draft_text d) (tokens_of c.args.pointer))) (sym c.in-Whole.is) c.value.ensures

pub returns-in-Pieces-clause-value : goal.returns-in-Pieces-clause-value
returns-in-Pieces-clause-value c = subst (λ d. IfOk c.value-in-Pieces.result (IsCopyOf (draft_text d) (tokens_of c.args.pointer))) (sym c.in-Pieces.is) c.value-in-Pieces.ensures.value

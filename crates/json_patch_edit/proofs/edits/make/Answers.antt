use Rattle.json_patch_edit.proofs.Common.{token_of, tokens_of}
use Rattle.json_patch_edit.proofs.Exchanges.{exchanges_where, fitting_split}
use Rattle.json_patch_edit.proofs.edits.make.Goals as goal

pub returns-in-Some-clause-makes : goal.returns-in-Some-clause-makes
returns-in-Some-clause-makes c = exchanges_where _ c.args.edit _ (tokens_of c.in-Some.parent) (token_of c.in-Some.token) _ _ _ _ c.in-Some.ensures.last (rw c.tokens.ensures.value at c.edit_at.ensures.makes)

pub returns-in-Some-clause-no_memory : goal.returns-in-Some-clause-no_memory
returns-in-Some-clause-no_memory c light fit =
    let parts = fitting_split _ _ (tokens_of c.in-Some.parent) (token_of c.in-Some.token) c.in-Some.ensures.last fit in
    c.edit_at.ensures.no_memory light (rw c.tokens.ensures.value parts.0) parts.1

use Rattle.std.proofs.Common.{◌∙◌}
use Rattle.json_patch_text.proofs.Undone.{in_array_at}
use Rattle.json_patch_text.proofs.undo.in_array.Goals as goal
use Rattle.jsonptr.specs.Pointers.{token_of, tokens_of}

pub returns-in_ok-shape-in-Some-clause-array : goal.returns-in_ok-shape-in-Some-clause-array
returns-in_ok-shape-in-Some-clause-array c i said =
    c.is_array.ensures ∙ in_array_at i (tokens_of c.args.path) (tokens_of c.in-Some.parent) (token_of c.in-Some.field-0-1) c.in_ok-shape-in-Some.field-0 c.in-Some.ensures.last (c.in_ok-shape-in-Some.ensures.shape i said)

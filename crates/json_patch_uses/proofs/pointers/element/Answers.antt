use Rattle.std.proofs.Common.{rules}
use Rattle.jsonptr.specs.Pointers.{token_of, tokens_of}
use Rattle.json_patch_uses.proofs.Elements.{next_names_none}
use Rattle.json_patch_uses.proofs.pointers.element.Goals as goal

pub returns-in-Ok-Next-clause-none : goal.returns-in-Ok-Next-clause-none
returns-in-Ok-Next-clause-none c =
    next_names_none (tokens_of c.args.pointer) (tokens_of c.in_ok-front.front) (token_of c.in_ok-front.last) c.in_ok-front.ensures.last (search rules)

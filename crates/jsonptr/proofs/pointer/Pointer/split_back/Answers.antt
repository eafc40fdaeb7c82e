use Rattle.std.proofs.Common.{◌∙◌, ap, sym, ◌∷◌, [], ◌++◌}
use Rattle.jsonptr.specs.Pointers.{tokens_of}
use Rattle.jsonptr.specs.Scanning.{tokens_of_text}
use Rattle.jsonptr.proofs.Texts.{rsplit_back, find_none, tokens_none, if_none}
use Rattle.jsonptr.proofs.pointer.Pointer.split_back.Goals as goal

pub returns-in_err-front-clause-root : goal.returns-in_err-front-clause-root
unfolding tokens_of
returns-in_err-front-clause-root c = if_none _ (tokens_none _ (find_none _ c.in_err-front.ensures.cases))

pub from_checked-requires : goal.from_checked-requires
from_checked-requires c = (rsplit_back _ _ _ c.args.self.now.valid c.in_ok-front.ensures.cases).last

pub invariant_of-result : goal.invariant_of-result
invariant_of-result c = record { valid = (rsplit_back _ _ _ c.args.self.now.valid c.in_ok-front.ensures.cases).front }

pub returns-clause-last : goal.returns-clause-last
unfolding tokens_of
returns-clause-last c =
    (rsplit_back _ _ _ c.args.self.now.valid c.in_ok-front.ensures.cases).tokens
    ∙ ap (λ t. tokens_of_text c.in_ok-front.front.now ++ t ∷ []) (sym c.from_checked.ensures)

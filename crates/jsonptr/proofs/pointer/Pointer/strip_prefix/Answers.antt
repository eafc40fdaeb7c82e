use Rattle.std.proofs.Common.{refl}
use Rattle.std.proofs.lemmas.Bool.{false≢true}
use Rattle.jsonptr.specs.Text.{IsPrefix}
use Rattle.jsonptr.specs.Pointers.{tokens_of}
use Rattle.jsonptr.proofs.Texts.{prefix_text, strips_text, rest-ReadsBack, tokens-rest, not_prefix, if_none}
use Rattle.jsonptr.proofs.pointer.Pointer.strip_prefix.Goals as goal

pub returns-in_err-text-clause-none : goal.returns-in_err-text-clause-none
unfolding tokens_of
returns-in_err-text-clause-none c =
    let apart : ¬ IsPrefix (tokens_of c.args.prefix) (tokens_of c.args.self.now) =
    λ (R, is). c.in_err-text.ensures.cases _ (prefix_text _ _ R c.args.self.now.valid c.args.prefix.valid is)
    in if_none _ apart

pub invariant_of-result : goal.invariant_of-result
invariant_of-result c = record { valid = rest-ReadsBack _ _ _ c.args.self.now.valid (strips_text _ _ _ c.in_ok-text.ensures.cases) (c.if-begins_well.ensures.0 refl) }

pub returns-then-begins_well-clause-rest : goal.returns-then-begins_well-clause-rest
unfolding tokens_of
returns-then-begins_well-clause-rest c = tokens-rest _ _ _ (strips_text _ _ _ c.in_ok-text.ensures.cases) (c.if-begins_well.ensures.0 refl)

pub returns-else-begins_well-clause-none : goal.returns-else-begins_well-clause-none
unfolding tokens_of
returns-else-begins_well-clause-none c =
    not_prefix _ _ _ c.args.self.now.valid c.args.prefix.valid (strips_text _ _ _ c.in_ok-text.ensures.cases)
    (λ s. false≢true (c.if-begins_well.ensures.1 s))

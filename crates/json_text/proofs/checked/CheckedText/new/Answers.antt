use Rattle.std.proofs.Common.{sym, ◌∙◌}
use Rattle.std.proofs.lemmas.Bool.{false≢true}
use Rattle.json_lexemes.proofs.Nests.{accepted, refused}
use Rattle.json_text.proofs.checked.CheckedText.new.Goals as goal

pub returns-clause-fault : goal.returns-clause-fault
returns-clause-fault c =
    refused c.args.text.now (λ h. false≢true (sym c.if-branch.false ∙ c.in_ok-is_valid.ensures.ok.1 h)) (λ h. false≢true (sym c.if-is_deeper.false ∙ c.is_deeper.ensures.1 h))

pub returns-then-branch-clause-shallow : goal.returns-then-branch-clause-shallow
returns-then-branch-clause-shallow c = accepted c.args.text.now (c.in_ok-is_valid.ensures.ok.0 c.if-branch.true)

pub returns-in-Some-clause-shallow : goal.returns-in-Some-clause-shallow
returns-in-Some-clause-shallow c = rw c.in-Some.ensures.text at (accepted c.in-Some.checked.text.now c.in-Some.checked.read)

pub invariant_of-result-clause-known : goal.invariant_of-result-clause-known
invariant_of-result-clause-known c = c.none-places.ensures c.args.text.now

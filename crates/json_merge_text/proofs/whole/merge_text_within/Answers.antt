-- What is promised of the text that was checked is promised of the one that was handed in.
use Rattle.std.proofs.Common.{◌≡◌, rules, subst}
use Rattle.std.specs.Prelude.{IfOk, IfSome, string_bytes}
use Rattle.json_merge_text.specs.Merged.{IsMergedAlready, IsMergedText}
use Rattle.json_merge_text.proofs.whole.merge_text_within.Goals as goal

pub returns-clause-unchanged : goal.returns-clause-unchanged
returns-clause-unchanged c =
    subst (λ t. IfOk c.merge_checked_within.result (λ found. IfSome found (λ new. IsMergedAlready t c.args.patch.now → string_bytes new ≡ t))) c.in_ok-text.ensures.text c.merge_checked_within.ensures.unchanged

pub returns-clause-kept : goal.returns-clause-kept
returns-clause-kept c =
    subst (λ t. IfOk c.merge_checked_within.result (λ found. IfSome found (λ new. IsMergedText t c.args.patch.now (string_bytes new)))) c.in_ok-text.ensures.text c.merge_checked_within.ensures.kept

pub returns-in_err-text-clause-fault : goal.returns-in_err-text-clause-fault
returns-in_err-text-clause-fault c = let fault = c.in_err-text.ensures.fault c.args.patch.now in search (rules, fault)

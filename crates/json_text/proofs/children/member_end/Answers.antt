use Rattle.std.proofs.Common.{ap, ◌∙◌, subst}
use Rattle.std.specs.Prelude.{IfSome}
use Rattle.json_lexemes.specs.Signposts.{IsPassed}
use Rattle.json_lexemes.specs.Skipped.{skip}
use Rattle.json_lexemes.proofs.Skipping.{skip-value}
use Rattle.json_text.proofs.children.member_end.Goals as goal

pub returns-in-Some-clause-left : goal.returns-in-Some-clause-left
returns-in-Some-clause-left c = λ v ls at _.
    let t = c.args.text.now in
    let known = subst (λ r. IfSome r (λ e. IsPassed t (record { start = c.args.start; end = e }))) c.in-Some.is (c.end_of.ensures c.requires.places) in
    known.left ∙ ap (skip 0) at ∙ skip-value v ls

use Rattle.std.proofs.Common.{inr, subst}
use Rattle.std.specs.Prelude.{IfSome}
use Rattle.json_lexemes.specs.Signposts.{IsPassed}
use Rattle.json_lexemes.proofs.Following.{passed_ends}
use Rattle.json_lexemes.proofs.signposts.Places.value_end.Goals as goal

pub returns-in-Some-clause-end : goal.returns-in-Some-clause-end
returns-in-Some-clause-end c = λ _.
    let t = c.args.text.now in
    let e = passed_ends t _ (subst (λ r. IfSome r (λ e. IsPassed t (record { start = c.args.from; end = e }))) c.in-Some.is (c.end_of.ensures c.requires.places)) in
    (e.0, inr e.1)

use Rattle.std.proofs.Common.{refl}
use Rattle.json_lexemes.proofs.Members.{behind_comma, last_passed}
use Rattle.json_lexemes.proofs.values.next_named.Goals as goal

pub returns-in-Some-clause-reaches : goal.returns-in-Some-clause-reaches
returns-in-Some-clause-reaches c = λ ms ls e. c.first_named.ensures.reaches ms ls (behind_comma c.args.text.now ms ls c.args.from c.in-Some.next c.in-Some.ensures.left e)

pub returns-in-None-clause-reaches : goal.returns-in-None-clause-reaches
returns-in-None-clause-reaches c = λ ms ls e.
    last_passed c.args.text.now c.args.name.now ms ls c.args.from c.behind.result (record { more = ms; left = e; is = refl }) c.in-None.ensures.none c.behind.ensures.left

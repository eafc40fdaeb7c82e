use Rattle.std.proofs.Common.{[], ◌+◌, ◌++◌, length, refl, ap, inr, arith, append-nil}
use Rattle.json_lexemes.proofs.Steps.{ends_by_end}
use Rattle.json_text.proofs.own.Own.alone.Goals as goal

pub returns-clause-own : goal.returns-clause-own
returns-clause-own c =
    let t = c.args.text.now in
    record {
      apart = record { begins = refl; ends = inr (ends_by_end (t ++ []) (0 + length t) (omega (arith, ap length (append-nil t)))) };
      places = c.none.ensures (t ++ []);
    }

pub returns-clause-whole : goal.returns-clause-whole
returns-clause-whole c = λ s. append-nil s

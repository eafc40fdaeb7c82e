use Rattle.std.proofs.Common.{arith}
use Rattle.json_lexemes.specs.Signposts.{IsStep}
use Rattle.json_lexemes.proofs.Following.{set_known}
use Rattle.json_lexemes.proofs.signposts.Signposts.keep_step.Goals as goal

pub returns-clause-signposts : goal.returns-clause-signposts
returns-clause-signposts c = λ t a s.
    let n = c.args.self.now.stepped in
    record {
      spans = a.spans;
      steps = λ k d l. set_known (IsStep t) c.args.self.now.steps n n _ (omega arith) s (λ m e le other. a.steps m e (grind (arith, le, other))) k d (omega (arith, l));
      room = (a.room.0, omega arith);
    }

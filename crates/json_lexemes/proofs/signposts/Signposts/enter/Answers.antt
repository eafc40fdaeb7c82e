use Rattle.std.proofs.Common.{refl}
use Rattle.json_lexemes.proofs.Following.{deeper, entered}
use Rattle.json_lexemes.proofs.signposts.Signposts.enter.Goals as goal

pub returns-then-depth-lt-LEVELS : goal.returns-then-depth-lt-LEVELS
returns-then-depth-lt-LEVELS c = λ _ t object i k a h le same end p.
    entered t c.args.self.now _ object c.args.start c.args.depth i k c.if-depth-self.true c.if-depth-lt-LEVELS.true refl refl (record { spans = a.signposts.spans; steps = a.signposts.steps; room = a.signposts.room }) h le same end p a

pub returns-else-depth-self : goal.returns-else-depth-self
returns-else-depth-self c = λ _ t object i k a h le same end p. deeper t c.args.self.now object c.args.depth i k le p a

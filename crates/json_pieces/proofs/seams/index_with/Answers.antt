use Rattle.std.proofs.Common.{arith, subst}
use Rattle.json_pieces.specs.Names.{Agrees}
use Rattle.json_pieces.proofs.Places.{put_behind}
use Rattle.json_pieces.proofs.seams.index_with.Goals as goal

pub returns-in_ok-learn-in-Some : goal.returns-in_ok-learn-in-Some
returns-in_ok-learn-in-Some c = λ ss count within h.
    put_behind ss c.args.seam.now c.args.number c.in-Some.index c.learn.new.index (omega (arith, count, within, c.if-number-count.false)) c.in_ok-learn-in-Some.ensures (subst (Agrees ss) c.in-Some.is h)

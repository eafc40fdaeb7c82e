use Rattle.std.proofs.Common.{◌-◌, get_or, refl, arith}
use Rattle.json_lexemes.proofs.Following.{bracket_passed, closed_here, innermost_behind, no_open}
use Rattle.json_lexemes.proofs.signposts.Signposts.leave.Goals as goal

pub returns-then-depth-self : goal.returns-then-depth-self
returns-then-depth-self c = λ _ t object i a h l b p.
    let x = c.args.self.now in
    bracket_passed t x x object c.args.depth i c.args.end (grind (arith, a.few, c.if-depth-self.true)) (omega arith) refl a.signposts (omega (arith, h)) p a

pub returns-then-end-start : goal.returns-then-end-start
returns-then-end-start c = λ _ t object i a h l b p.
    bracket_passed t c.args.self.now _ object c.args.depth i c.args.end (omega arith) (omega (arith, a.few, c.if-depth-self.false)) refl (record { spans = a.signposts.spans; steps = a.signposts.steps; room = a.signposts.room }) (omega (arith, h)) p a

pub returns : goal.returns
returns c = λ _ t object i a h l b p.
    let x = c.args.self.now in
    let d = c.args.depth in
    let top = innermost_behind t x d i c.requires.0 c.if-depth-self.false a in
    let y = c.keep_end.ensures.signposts t (record { spans = a.signposts.spans; steps = a.signposts.steps; room = a.signposts.room }) (closed_here t (get_or x.nest (d - 1) no_open) object i c.args.end h l b p top) in
    bracket_passed t x c.keep_end.new.self object d i c.args.end (omega (arith, c.keep_end.ensures.nest.1)) (omega (arith, c.keep_end.ensures.nest.1, a.few, c.if-depth-self.false)) c.keep_end.ensures.nest.0 y (omega (arith, h)) p a

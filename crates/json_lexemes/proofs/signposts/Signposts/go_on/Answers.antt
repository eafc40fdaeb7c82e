use Rattle.std.proofs.Common.{◌≡◌, ◌+◌, ◌-◌, get_or, set, subst, refl, ap, arith}
use Rattle.json_lexemes.specs.Grammar.{Continues}
use Rattle.json_lexemes.proofs.Following.{array_on, innermost_behind, no_open, named_on, step_here, unfollowed_on}
use Rattle.json_lexemes.proofs.signposts.Signposts.go_on.Goals as goal

pub returns-then-object : goal.returns-then-object
returns-then-object c = λ _ t i a h l b p.
    elim c.then-object.branch [
      | goal.then-object-via-then-object w ↦ named_on t c.args.self.now c.args.depth i c.args.place c.requires.0 (omega (arith, h)) (subst (λ o. Continues t o i c.args.place) w.if-object.true p) a
      | goal.then-object-via-else-object+then-depth-self w ↦ unfollowed_on t c.args.self.now c.args.object c.args.depth i c.args.place w.if-depth-self.true (omega (arith, h)) p a
    ]

pub returns-then-place-array : goal.returns-then-place-array
returns-then-place-array c = λ _ t i a h l b p.
    let x = c.args.self.now in
    let d = c.args.depth in
    let o = get_or x.nest (d - 1) no_open in
    let top = innermost_behind t x d i c.requires.0 c.if-depth-self.false a in
    let few = top.few in
    let kept = top.kept in
    let counted : c.saturating_add.result ≡ o.number + 1 = omega (arith, few, h, c.ranges.place.fits, c.saturating_add.ensures) in
    array_on t x _ d i c.args.place c.saturating_add.result o.kept c.requires.0 c.if-depth-self.false refl counted (omega (arith, kept, h)) refl (record { spans = a.signposts.spans; steps = a.signposts.steps; room = a.signposts.room }) h (subst (λ o. Continues t o i c.args.place) c.if-object.false p) a

pub returns : goal.returns
returns c = λ _ t i a h l b p.
    let x = c.args.self.now in
    let d = c.args.depth in
    let o = get_or x.nest (d - 1) no_open in
    let top = innermost_behind t x d i c.requires.0 c.if-depth-self.false a in
    let few = top.few in
    let counted : c.saturating_add.result ≡ o.number + 1 = omega (arith, few, h, c.ranges.place.fits, c.saturating_add.ensures) in
    let y = c.keep_step.ensures.signposts t (record { spans = a.signposts.spans; steps = a.signposts.steps; room = a.signposts.room }) (step_here t o i c.args.place c.saturating_add.result h l counted (b c.if-object.false) (subst (λ o. Continues t o i c.args.place) c.if-object.false p) top) in
    array_on t x _ d i c.args.place c.saturating_add.result c.args.place c.requires.0 c.if-depth-self.false c.keep_step.ensures.nest.1 counted (omega arith)
    (ap (λ z. set z (d - 1) (record { start = o.start; number = c.saturating_add.result; kept = c.args.place })) c.keep_step.ensures.nest.0) (record { spans = y.spans; steps = y.steps; room = y.room }) h (subst (λ o. Continues t o i c.args.place) c.if-object.false p) a

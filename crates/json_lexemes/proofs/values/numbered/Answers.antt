use Rattle.std.proofs.Common.{sym, ◌∙◌, inl, arith}
use Rattle.json_lexemes.proofs.Elements.{element_here, has_element, last_passed, next_ahead, none_ahead}
use Rattle.json_lexemes.proofs.values.numbered.Goals as goal

pub loop-start-init : goal.loop-start-init
loop-start-init c =
    let e = c.nearest-left.ensures in
    record { on = e.bounds.0; low = e.bounds.1; boundary = e.boundary; stops = e.stops; mode = e.mode; ahead = e.ahead }

pub returns-then-left-eq0-clause-reaches : goal.returns-then-left-eq0-clause-reaches
returns-then-left-eq0-clause-reaches c = λ js ls e.
    let t = c.args.text.now in
    let i = c.loop-start.i in
    element_here t c.args.number js ls i c.loop-start.left c.if-left-eq0.true (has_element t c.args.number js ls i c.loop-start.left c.loop-start.invariant.stops (λ z. c.loop-start-test.true (c.byte_at.ensures.value ∙ z)) (c.loop-start.invariant.ahead js ls e))

pub returns-in_default-clause-reaches : goal.returns-in_default-clause-reaches
returns-in_default-clause-reaches c = λ js ls e.
    let t = c.args.text.now in
    let i = c.loop-start.i in
    last_passed t c.args.number js ls i c.loop-start.left c.value_end-end.result c.behind.result c.if-left-eq0.false c.value_end-end.ensures.left c.in_default.ensures.none c.behind.ensures.left
    (has_element t c.args.number js ls i c.loop-start.left c.loop-start.invariant.stops (λ z. c.loop-start-test.true (c.byte_at.ensures.value ∙ z)) (c.loop-start.invariant.ahead js ls e))

pub loop-start-preserved : goal.loop-start-preserved
loop-start-preserved c =
    let t = c.args.text.now in
    let i = c.loop-start.i in
    record {
      on = omega (arith, c.loop-start.invariant.on, c.value_end-end.ensures.bounds, c.in-Some.ensures.bounds);
      low = c.in-Some.ensures.bounds.1;
      boundary = c.in-Some.ensures.boundary;
      stops = c.in-Some.ensures.stops;
      mode = c.in-Some.ensures.begins (c.value_end-end.ensures.end (inl c.loop-start.invariant.mode)).0;
      ahead = λ js ls e.
          next_ahead t c.args.number js ls i c.loop-start.left c.value_end-end.result c.in-Some.next c.if-left-eq0.false c.value_end-end.ensures.left c.in-Some.ensures.left
          (has_element t c.args.number js ls i c.loop-start.left c.loop-start.invariant.stops (λ z. c.loop-start-test.true (c.byte_at.ensures.value ∙ z)) (c.loop-start.invariant.ahead js ls e));
    }

pub returns-clause-reaches : goal.returns-clause-reaches
returns-clause-reaches c = λ js ls e.
    let t = c.args.text.now in
    let b = sym c.byte_at.ensures.value ∙ c.loop-start-test.false in
    none_ahead t c.args.number js ls c.loop-start.i c.loop-start.left c.behind-2.result (c.byte_at.ensures.within (λ z. absurd (omega (arith, z, c.loop-start-test.false)))) b c.behind-2.ensures.left (c.loop-start.invariant.ahead js ls e)

use Rattle.std.proofs.Common.{sym, ◌∙◌, arith}
use Rattle.json_lexemes.proofs.Ended.{here, inside_on, inside_escape, inside_closes, inside_ends, inside_to}
use Rattle.json_lexemes.proofs.leaves.escaped_string.Goals as goal

pub loop-i-preserved : goal.loop-i-preserved
loop-i-preserved c =
    let t = c.args.text.now in
    let i = c.loop-i.i in
    let h = here t i 92 (omega arith) (sym c.byte_at.ensures.value ∙ c.loop-i-test.true) in
    let k = c.plain_end-i.result in
    let e = inside_escape t _ i _ h.0 h.1 c.in-Some.ensures.passes c.in-Some.ensures.some c.in-Some.ensures.mode in
    record {
      low = omega (arith, c.in-Some.ensures.bounds, c.plain_end-i.ensures.bounds);
      high = c.plain_end-i.ensures.bounds.1;
      inside = inside_on t _ i k c.loop-i.invariant.inside (inside_on t i _ k e (inside_to t _ k c.plain_end-i.ensures.bounds c.plain_end-i.ensures.plain));
    }

pub returns-then-byte_at-eq34-clause-left : goal.returns-then-byte_at-eq34-clause-left
returns-then-byte_at-eq34-clause-left c =
    let t = c.args.text.now in
    let h = here t c.loop-i.i 34 (omega arith) (sym c.byte_at-2.ensures.value ∙ c.if-byte_at-eq34.true) in
    (inside_closes t c.args.from c.loop-i.i h.0 h.1 c.loop-i.invariant.inside).0

pub returns-then-byte_at-eq34-clause-content : goal.returns-then-byte_at-eq34-clause-content
returns-then-byte_at-eq34-clause-content c =
    let t = c.args.text.now in
    let h = here t c.loop-i.i 34 (omega arith) (sym c.byte_at-2.ensures.value ∙ c.if-byte_at-eq34.true) in
    (inside_closes t c.args.from c.loop-i.i h.0 h.1 c.loop-i.invariant.inside).1

pub returns-then-byte_at-eq34-clause-closes : goal.returns-then-byte_at-eq34-clause-closes
returns-then-byte_at-eq34-clause-closes c =
    let t = c.args.text.now in
    let h = here t c.loop-i.i 34 (omega arith) (sym c.byte_at-2.ensures.value ∙ c.if-byte_at-eq34.true) in
    inside_ends t c.args.from c.loop-i.i h.0 h.1 c.loop-i.invariant.inside

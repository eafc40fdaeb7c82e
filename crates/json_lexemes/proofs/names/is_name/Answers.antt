use Rattle.std.proofs.Common.{arith, length, [], ◌∷◌, refl, ap, ◌∙◌, get_or, drop}
use Rattle.std.specs.Char.{encode_utf8}
use Rattle.json_lexemes.proofs.Inside.{decided, not_none, at_quote, not_begun, quote_is, backslash_is, control_is, plain_is, end_is, begun_by, begun_fits, step_by, past_name, other_byte, same_byte, below}
use Rattle.json_lexemes.proofs.names.is_name.Goals as goal
use Rattle.json_lexemes.proofs.names.is_name.Goals.{then-c-lt32-via-then-c-lt32, then-c-lt32-via-else-c-lt32+then-j-name, then-c-lt32-via-else-c-lt32+else-j-name+then-name-j}

pub returns-then-c-eq34 : goal.returns-then-c-eq34
returns-then-c-eq34 c = decided _ _ _ _ _ c.loop-i.invariant.forth c.loop-i.invariant.back (at_quote _ c.args.name.now c.loop-i.j c.loop-i.invariant.high (quote_is c.args.text.now c.loop-i.i c.loop-i-test.true c.if-c-eq34.true))

pub returns-in_default : goal.returns-in_default
returns-in_default c = decided _ _ _ _ _ c.loop-i.invariant.forth c.loop-i.invariant.back (not_none _ _ (backslash_is c.args.text.now c.loop-i.i c.loop-i-test.true c.if-c-eq92.true ∙ c.in_default.ensures.none))

pub returns : goal.returns
returns c = decided _ _ _ _ _ c.loop-i.invariant.forth c.loop-i.invariant.back (not_none _ _ (end_is c.args.text.now c.loop-i.i c.loop-i-test.false))

pub returns-then-not-starts_with : goal.returns-then-not-starts_with
returns-then-not-starts_with c =
    decided _ _ _ _ _ c.loop-i.invariant.forth c.loop-i.invariant.back
    (not_begun _ _ (encode_utf8 c.in-Some.code) (drop c.loop-i.j c.args.name.now) (backslash_is c.args.text.now c.loop-i.i c.loop-i-test.true c.if-c-eq92.true ∙ c.in-Some.ensures.some)
    (begun_by c.args.name.now _ _ c.loop-i.j _ _ c.starts_with.ensures.value (c.as_bytes-bytes.ensures.value ∙ c.encode_utf8.ensures.value) c.if-not-starts_with.true))

pub loop-i-preserved-then-c-eq92 : goal.loop-i-preserved-then-c-eq92
loop-i-preserved-then-c-eq92 c =
    let n = c.args.name.now in
    let code = c.as_bytes-bytes.ensures.value ∙ c.encode_utf8.ensures.value in
    let begun = begun_by n _ _ c.loop-i.j _ _ c.starts_with.ensures.value code c.if-not-starts_with.false in
    let step = step_by _ _ (encode_utf8 c.in-Some.code) n c.loop-i.j (length c.as_bytes-bytes.result.now) (backslash_is c.args.text.now c.loop-i.i c.loop-i-test.true c.if-c-eq92.true ∙ c.in-Some.ensures.some) begun (ap length code) in
    record {
      low = c.in-Some.ensures.bounds.1;
      high = begun_fits (encode_utf8 c.in-Some.code) n c.loop-i.j _ begun c.loop-i.invariant.high (ap length code);
      forth = λ f. step.0 (c.loop-i.invariant.forth f);
      back = λ f. c.loop-i.invariant.back (step.1 f);
    }

pub returns-then-c-lt32 : goal.returns-then-c-lt32
returns-then-c-lt32 c =
    let t = c.args.text.now in
    let n = c.args.name.now in
    let i = c.loop-i.i in
    let j = c.loop-i.j in
    decided _ _ _ _ _ c.loop-i.invariant.forth c.loop-i.invariant.back (elim c.then-c-lt32.branch [
      | then-c-lt32-via-then-c-lt32 w ↦ not_none _ _ (control_is t i c.loop-i-test.true c.if-c-eq34.false c.if-c-eq92.false w.if-c-lt32.true)
      | then-c-lt32-via-else-c-lt32+then-j-name w ↦ not_begun _ _ (get_or t i 0 ∷ []) (drop j n) (plain_is t i c.loop-i-test.true c.if-c-eq34.false c.if-c-eq92.false w.if-c-lt32.false) (past_name n j _ w.if-j-name.true)
      | then-c-lt32-via-else-c-lt32+else-j-name+then-name-j w ↦ not_begun _ _ (get_or t i 0 ∷ []) (drop j n) (plain_is t i c.loop-i-test.true c.if-c-eq34.false c.if-c-eq92.false w.if-c-lt32.false) (other_byte n j _ (below j (length n) c.loop-i.invariant.high w.if-j-name.false) w.if-name-j.true)
    ])

pub loop-i-preserved : goal.loop-i-preserved
loop-i-preserved c =
    let t = c.args.text.now in
    let n = c.args.name.now in
    let i = c.loop-i.i in
    let j = c.loop-i.j in
    let low = below j (length n) c.loop-i.invariant.high c.if-j-name.false in
    let step = step_by _ _ (get_or t i 0 ∷ []) n j 1 (plain_is t i c.loop-i-test.true c.if-c-eq34.false c.if-c-eq92.false c.if-c-lt32.false) (same_byte n j _ low c.if-name-j.false) refl in
    record {
      low = omega arith;
      high = omega (arith, low);
      forth = λ f. step.0 (c.loop-i.invariant.forth f);
      back = λ f. c.loop-i.invariant.back (step.1 f);
    }

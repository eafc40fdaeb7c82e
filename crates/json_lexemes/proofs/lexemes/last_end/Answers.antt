use Rattle.std.proofs.Common.{◌≡◌, ◌+◌, ◌-◌, true, get_or, length, refl, sym, ◌∙◌, arith}
use Rattle.json.specs.Word.{is_space}
use Rattle.std.proofs.lemmas.Str.{IsCharBoundary-end}
use Rattle.json_lexemes.proofs.Trimmed.{before_boundary, before_closed, before_ended, before_left, end_ended, end_left}
use Rattle.json_lexemes.proofs.lexemes.last_end.Goals as goal

pub loop-end-init : goal.loop-end-init
loop-end-init c =
    let t = c.args.text.now in
    record {
      low = omega arith;
      high = omega arith;
      left = end_left t (length t) refl;
      ended = end_ended t (length t) refl;
      closed = λ o. o;
      boundary = IsCharBoundary-end t;
    }

pub loop-end-preserved : goal.loop-end-preserved
loop-end-preserved c =
    let t = c.args.text.now in
    let n = c.loop-end.end in
    let i = c.loop-end.end - 1 in
    let e : n ≡ i + 1 = omega arith in
    let s : is_space (get_or t i 0) ≡ true = sym c.is_whitespace.ensures ∙ c.if-is_whitespace.true in
    let h = c.loop-end.invariant.high in
    record {
      low = omega arith;
      high = omega arith;
      left = before_left t n i e h s c.loop-end.invariant.left;
      ended = before_ended t n i e h s;
      closed = λ o. before_closed t n i e h s (c.loop-end.invariant.closed o);
      boundary = before_boundary t n i e h s;
    }

use Rattle.std.proofs.Common.{◌<◌, length, ◌+◌, sym, ◌∙◌, arith}
use Rattle.json.specs.Lex.{between, in_string}
use Rattle.std.proofs.lemmas.Str.{IsCharBoundary-end, IsCharBoundary-after_ascii}
use Rattle.json_lexemes.proofs.Ascii.{ends_boundary}
use Rattle.json_lexemes.proofs.Steps.{string_closes, closes_now, open_in_string, open_in_escape, escaped, escape_mode, escape_last, string_passes, string_mode, at_end}
use Rattle.json_lexemes.proofs.lexemes.escaped_end.Goals as goal

pub returns-then-c-eq34-clause-left : goal.returns-then-c-eq34-clause-left
returns-then-c-eq34-clause-left c = sym (string_closes c.args.text.now c.loop-i.i c.loop-i-test.true c.if-c-eq34.true) ∙ c.loop-i.invariant.left

pub returns-then-c-eq34-clause-mode : goal.returns-then-c-eq34-clause-mode
returns-then-c-eq34-clause-mode c = λ m. closes_now c.args.text.now c.loop-i.i c.loop-i-test.true c.if-c-eq34.true (c.loop-i.invariant.mode m)

pub returns-then-text-i-lt2-clause-mode : goal.returns-then-text-i-lt2-clause-mode
returns-then-text-i-lt2-clause-mode c = λ m. open_in_escape c.args.text.now c.loop-i.i c.loop-i-test.true c.if-text-i-lt2.true c.if-c-eq92.true (c.loop-i.invariant.mode m)

pub returns-clause-mode : goal.returns-clause-mode
returns-clause-mode c = λ m. open_in_string c.args.text.now c.loop-i.i (omega arith) (c.loop-i.invariant.mode m)

pub returns-then-text-i-lt2-clause-left : goal.returns-then-text-i-lt2-clause-left
returns-then-text-i-lt2-clause-left c = sym (escape_last c.args.text.now c.loop-i.i c.loop-i-test.true c.if-text-i-lt2.true c.if-c-eq92.true) ∙ c.loop-i.invariant.left

pub loop-i-preserved-then-c-eq92 : goal.loop-i-preserved-then-c-eq92
loop-i-preserved-then-c-eq92 c =
    let t = c.args.text.now in
    let i = c.loop-i.i in
    let two : i + 1 < length t = omega arith in
    record {
      low = omega arith;
      high = omega arith;
      left = sym (escaped t i two c.if-c-eq92.true) ∙ c.loop-i.invariant.left;
      mode = λ m. escape_mode t i two c.if-c-eq92.true (c.loop-i.invariant.mode m);
    }

pub loop-i-preserved : goal.loop-i-preserved
loop-i-preserved c =
    let t = c.args.text.now in
    let i = c.loop-i.i in
    record {
      low = omega arith;
      high = omega arith;
      left = sym (string_passes t i c.loop-i-test.true c.if-c-eq34.false c.if-c-eq92.false) ∙ c.loop-i.invariant.left;
      mode = λ m. string_mode t i c.loop-i-test.true c.if-c-eq34.false c.if-c-eq92.false (c.loop-i.invariant.mode m);
    }

pub returns-clause-left : goal.returns-clause-left
returns-clause-left c = at_end between in_string c.args.text.now c.loop-i.i (omega arith) ∙ c.loop-i.invariant.left

pub returns-then-c-eq34-clause-boundary : goal.returns-then-c-eq34-clause-boundary
returns-then-c-eq34-clause-boundary c = λ u. IsCharBoundary-after_ascii c.args.text.now c.loop-i.i u c.loop-i-test.true (omega (arith, c.if-c-eq34.true))

pub returns-then-text-i-lt2-clause-boundary : goal.returns-then-text-i-lt2-clause-boundary
returns-then-text-i-lt2-clause-boundary c = λ u. IsCharBoundary-end c.args.text.now

pub returns-clause-boundary : goal.returns-clause-boundary
returns-clause-boundary c = λ u. ends_boundary c.args.text.now c.loop-i.i (omega arith)

use Rattle.std.proofs.Common.{◌≡◌, true, get_or, sym, ◌∙◌, arith}
use Rattle.json.specs.Word.{is_space}
use Rattle.std.proofs.lemmas.Str.{IsCharBoundary-after_ascii}
use Rattle.json_lexemes.proofs.Ascii.{space_ascii}
use Rattle.json_lexemes.proofs.Steps.{whitespace_left, whitespace_end, whitespace_between}
use Rattle.json_lexemes.proofs.lexemes.spaces_end.Goals as goal

pub loop-i-preserved : goal.loop-i-preserved
loop-i-preserved c =
    let t = c.args.text.now in
    let i = c.loop-i.i in
    let s : is_space (get_or t i 0) ≡ true = sym c.is_whitespace.ensures ∙ c.if-is_whitespace.true in
    record {
      low = omega arith;
      high = omega arith;
      boundary = λ u b. IsCharBoundary-after_ascii t i u c.loop-i-test.true (space_ascii _ s);
      left = whitespace_left t i c.loop-i-test.true s ∙ c.loop-i.invariant.left;
      end = λ e. whitespace_end t i c.loop-i-test.true s (c.loop-i.invariant.end e);
      still = λ m. whitespace_between t i c.loop-i-test.true s (c.loop-i.invariant.still m);
    }

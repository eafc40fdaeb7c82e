use Rattle.std.proofs.Common.{◌≡◌, false, get_or, sym, ◌∙◌, ◌+◌, inl, inr, refl, arith}
use Rattle.json.specs.Word.{is_operator, is_space}
use Rattle.std.proofs.lemmas.Str.{IsCharBoundary-before_ascii}
use Rattle.json_lexemes.proofs.Ascii.{space_ascii, operator_ascii, ends_boundary}
use Rattle.json_lexemes.proofs.Steps.{word_passes, word_mode, word_left, ends_by_operator, ends_by_space, ends_by_end, no_space_before}
use Rattle.json_lexemes.proofs.lexemes.word_end.Goals as goal

pub loop-i-preserved : goal.loop-i-preserved
loop-i-preserved c =
    let t = c.args.text.now in
    let i = c.loop-i.i in
    let o : is_operator (get_or t i 0) ≡ false = sym c.is_operator.ensures ∙ c.if-not-is_operator.true in
    let s : is_space (get_or t i 0) ≡ false = sym c.is_whitespace.ensures ∙ c.if-not-is_whitespace.true in
    record {
      low = omega arith;
      high = omega arith;
      left = sym (word_passes t i c.loop-i-test.true o s) ∙ c.loop-i.invariant.left;
      mode = λ m. word_mode t i c.loop-i-test.true o s (c.loop-i.invariant.mode m);
      back = inr (no_space_before t i (i + 1) (inl refl) s);
    }

pub returns-else-not-is_whitespace-clause-left : goal.returns-else-not-is_whitespace-clause-left
returns-else-not-is_whitespace-clause-left c =
    sym (word_left c.args.text.now c.loop-i.i (ends_by_space _ _ c.loop-i-test.true (sym c.is_whitespace.ensures ∙ c.if-not-is_whitespace.false))) ∙ c.loop-i.invariant.left

pub returns-else-not-is_operator-clause-left : goal.returns-else-not-is_operator-clause-left
returns-else-not-is_operator-clause-left c =
    sym (word_left c.args.text.now c.loop-i.i (ends_by_operator _ _ c.loop-i-test.true (sym c.is_operator.ensures ∙ c.if-not-is_operator.false))) ∙ c.loop-i.invariant.left

pub returns-after-loop-i-clause-left : goal.returns-after-loop-i-clause-left
returns-after-loop-i-clause-left c = sym (word_left c.args.text.now c.loop-i.i (ends_by_end c.args.text.now c.loop-i.i (omega arith))) ∙ c.loop-i.invariant.left

pub returns-else-not-is_whitespace-clause-boundary : goal.returns-else-not-is_whitespace-clause-boundary
returns-else-not-is_whitespace-clause-boundary c = λ u. IsCharBoundary-before_ascii c.args.text.now c.loop-i.i c.loop-i-test.true (space_ascii _ (sym c.is_whitespace.ensures ∙ c.if-not-is_whitespace.false))

pub returns-else-not-is_operator-clause-boundary : goal.returns-else-not-is_operator-clause-boundary
returns-else-not-is_operator-clause-boundary c = λ u. IsCharBoundary-before_ascii c.args.text.now c.loop-i.i c.loop-i-test.true (operator_ascii _ (sym c.is_operator.ensures ∙ c.if-not-is_operator.false))

pub returns-after-loop-i-clause-boundary : goal.returns-after-loop-i-clause-boundary
returns-after-loop-i-clause-boundary c = λ u. ends_boundary c.args.text.now c.loop-i.i (omega arith)

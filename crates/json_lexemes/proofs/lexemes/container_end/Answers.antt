use Rattle.std.proofs.Common.{◌≡◌, ◌<◌, ◌+◌, ◌-◌, true, length, drop, get_or, inl, inr, sym, ap, subst, ◌∙◌, arith}
use Rattle.std.proofs.lemmas.Str.{IsCharBoundary-after_ascii}
use Rattle.json.specs.Lex.{lex}
use Rattle.json.specs.Word.{is_operator, is_space}
use Rattle.json_lexemes.specs.Skipped.{if_open, skip}
use Rattle.json_lexemes.specs.Places.{left_at, HasEnd}
use Rattle.json_lexemes.specs.Blocks.{is_closing}
use Rattle.json_lexemes.proofs.Ascii.{operator_ascii}
use Rattle.json_lexemes.proofs.Steps.{skip_nothing, skip_step, operator_first, operator_has_end, operator_no_space, ends_by_end, ends_by_operator}
use Rattle.json_lexemes.proofs.Trimmed.{end_left}
use Rattle.json_lexemes.proofs.Runs.{still_open, bracket_operator, run_left, run_end}
use Rattle.json_lexemes.proofs.Passed.{closing_operator, closing_depth, carried_run, carried_here}
use Rattle.json_lexemes.proofs.lexemes.container_end.Goals as goal

pub returns-in_default-clause-left : goal.returns-in_default-clause-left
returns-in_default-clause-left c =
    let t = c.args.text.now in
    let k = length t in
    c.last_lexeme_end.ensures.left ∙ sym (end_left t k (omega arith)) ∙ skip_nothing 1 0 t k (omega arith)
    ∙ sym ((run_left t c.args.from k c.in_default.ensures.none (ends_by_end t k (omega arith))).skips 0)

pub returns-in_default-clause-end : goal.returns-in_default-clause-end
returns-in_default-clause-end c = λ e.
    let t = c.args.text.now in
    let k = c.last_lexeme_end.result in
    let f = c.last_lexeme_end.ensures.end (inl e) in
    let ended : HasEnd t k = elim f.1 [
      | inl same ↦ subst (HasEnd t) (sym same) (inl (operator_no_space (get_or t (c.args.from - 1) 0) c.requires.begins))
      | inr has ↦ has
    ] in
    (f.0, ended)

pub returns-then-is_closing-clause-left : goal.returns-then-is_closing-clause-left
returns-then-is_closing-clause-left c =
    let t = c.args.text.now in
    let k = c.in-Some.first in
    let x : is_closing (get_or t k 0) ≡ true = sym c.is_closing.ensures ∙ c.if-is_closing.true in
    let o = closing_operator (get_or t k 0) x in
    let h : k < length t = c.in-Some.ensures.bounds.1 in
    sym (ap (λ d. if_open d (left_at t (k + 1)) (skip d (left_at t (k + 1)))) (closing_depth (get_or t k 0) x)) ∙ sym (skip_step t k (k + 1) 1 (operator_first t k h o))
    ∙ sym ((run_left t c.args.from k c.in-Some.ensures.run (ends_by_operator t k h o)).skips 0)

pub returns-then-is_closing-clause-end : goal.returns-then-is_closing-clause-end
returns-then-is_closing-clause-end c = λ e.
    let t = c.args.text.now in
    let k = c.in-Some.first in
    let o : is_operator (get_or t k 0) ≡ true = closing_operator (get_or t k 0) (sym c.is_closing.ensures ∙ c.if-is_closing.true) in
    let h : k < length t = c.in-Some.ensures.bounds.1 in
    operator_has_end t k h o (run_end t c.args.from k c.in-Some.ensures.run (ends_by_operator t k h o) (inl e))

pub returns-then-is_closing-clause-boundary : goal.returns-then-is_closing-clause-boundary
returns-then-is_closing-clause-boundary c = λ u b.
    let t = c.args.text.now in
    let k = c.in-Some.first in
    IsCharBoundary-after_ascii t k u c.in-Some.ensures.bounds.1 (operator_ascii (get_or t k 0) (closing_operator (get_or t k 0) (sym c.is_closing.ensures ∙ c.if-is_closing.true)))

pub loop-depth-init : goal.loop-depth-init
loop-depth-init c =
    let t = c.args.text.now in
    let k = c.in-Some.first in
    let found = c.in-Some.ensures in
    let blocks = c.blocks_end-end.ensures in
    record {
      low = omega (arith, found.bounds, blocks.bounds);
      high = blocks.bounds.1;
      depth = omega (arith, found.bounds, blocks.depth, c.requires.order);
      left =
          blocks.left ∙ ap (λ m. skip 1 (lex m (drop k t))) (carried_run t c.args.from k found.bounds.0 c.requires.begins) ∙ sym (found.run.passes.skips 0);
      end = λ e. blocks.end (carried_here t c.args.from k found.bounds.0 c.requires.begins e (found.run.mode (inl e)));
      closed = blocks.closed;
    }

pub returns-then-i-text-clause-left : goal.returns-then-i-text-clause-left
returns-then-i-text-clause-left c =
    let t = c.args.text.now in
    let i = c.bracket_from-i.result in
    let n = c.loop-depth.depth in
    c.last_lexeme_end-then-i-text.ensures.left ∙ sym (end_left t i (omega arith)) ∙ skip_nothing n 0 t i (omega arith)
    ∙ sym (still_open n (left_at t c.loop-depth.end) (left_at t i) c.loop-depth-test.true c.bracket_from-i.ensures.passes) ∙ c.loop-depth.invariant.left

pub loop-depth-preserved : goal.loop-depth-preserved
loop-depth-preserved c =
    let t = c.args.text.now in
    let i = c.bracket_from-i.result in
    let n = c.loop-depth.depth in
    let h : i < length t = omega arith in
    let o : is_operator (get_or t i 0) ≡ true = bracket_operator (get_or t i 0) (c.bracket_from-i.ensures.stops h) in
    let b = c.bracket_from-i.ensures.bounds in
    let same : i + 1 - 1 ≡ i = omega arith in
    record {
      low = omega (arith, b, c.loop-depth.invariant.low);
      high = omega arith;
      depth = omega (arith, c.open_after_bracket-depth.ensures.bound, b, c.loop-depth.invariant.depth);
      left =
          ap (λ m. if_open m (left_at t (i + 1)) (skip m (left_at t (i + 1)))) c.open_after_bracket-depth.ensures.value ∙ sym (skip_step t i (i + 1) n (operator_first t i h o))
          ∙ sym (still_open n (left_at t c.loop-depth.end) (left_at t i) c.loop-depth-test.true c.bracket_from-i.ensures.passes) ∙ c.loop-depth.invariant.left;
      end = λ e. (operator_has_end t i h o (c.bracket_from-i.ensures.end (c.loop-depth.invariant.end e))).0;
      closed = λ z. (inl (ap (λ k. is_space (get_or t k 0)) same ∙ operator_no_space (get_or t i 0) o), λ u. IsCharBoundary-after_ascii t i u h (operator_ascii (get_or t i 0) o));
    }

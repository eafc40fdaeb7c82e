use Rattle.std.proofs.Common.{◌≡◌, ◌+◌, ◌-◌, ◌<◌, drop, get_or, inl, ap, ap₂, sym, subst, ◌∙◌, arith}
use Rattle.std.proofs.lemmas.Str.{IsCharBoundary-after_ascii}
use lib.Count.{ones, ones-le}
use Rattle.json.specs.Lex.{lex}
use Rattle.json.specs.Word.{is_space}
use Rattle.json_lexemes.specs.Skipped.{skip}
use Rattle.json_lexemes.specs.Places.{mode_at}
use Rattle.json_lexemes.specs.Blocks.{carried, open_by}
use Rattle.json_lexemes.proofs.Ascii.{operator_ascii}
use Rattle.json_lexemes.proofs.Steps.{operator_no_space}
use Rattle.json_lexemes.proofs.Blocks.{along_mode}
use Rattle.json_lexemes.proofs.Passed.{Closed, closes_block, passes_block, total, closing_operator}
use Rattle.json_lexemes.proofs.lexemes.blocks_end.Goals as goal

-- ---- where the last bracket closes

closed : (c : goal.In-Some-closing_bit) → Closed c.args.text.now c.loop-at.at (carried c.args.text.now c.loop-at.at c.loop-at.carry.inside c.loop-at.carry.escaped) c.loop-at.depth c.in-Some-closing_bit.i
closed c = closes_block c.args.text.now c.loop-at.at _ c.in-Some.found.opens c.in-Some.found.shuts c.in-Some.ensures.has (omega arith) c.loop-at.depth c.in-Some-closing_bit.i c.in-Some-closing_bit.ensures.bound c.in-Some-closing_bit.ensures.open c.in-Some-closing_bit.ensures.closes

pub returns-in-Some-closing_bit-clause-left : goal.returns-in-Some-closing_bit-clause-left
returns-in-Some-closing_bit-clause-left c = (closed c).left ∙ c.loop-at.invariant.left

pub returns-in-Some-closing_bit-clause-end : goal.returns-in-Some-closing_bit-clause-end
returns-in-Some-closing_bit-clause-end c = λ p.
    let t = c.args.text.now in
    let at = c.loop-at.at in
    let i = c.in-Some-closing_bit.i in
    let there : at + i + 1 ≡ at + (i + 1) = omega arith in
    inl (ap (mode_at t) there ∙ along_mode t at _ (i + 1) (omega (arith, c.in-Some-closing_bit.ensures.bound)) (c.loop-at.invariant.mode p) ∙ (closed c).mode)

pub returns-in-Some-closing_bit-clause-closed : goal.returns-in-Some-closing_bit-clause-closed
returns-in-Some-closing_bit-clause-closed c = λ z.
    let t = c.args.text.now in
    let k = c.loop-at.at + c.in-Some-closing_bit.i in
    let same : k + 1 - 1 ≡ k = omega arith in
    let o = closing_operator (get_or t k 0) (closed c).closing in
    (inl (ap (λ j. is_space (get_or t j 0)) same ∙ operator_no_space (get_or t k 0) o), λ u. IsCharBoundary-after_ascii t k u (omega (arith, c.in-Some-closing_bit.ensures.bound)) (operator_ascii (get_or t k 0) o))

-- ---- where none does

pub overflow_sub-depth : goal.overflow_sub-depth
overflow_sub-depth c = let e = total c.args.text.now c.loop-at.at _ c.in-Some.found.opens c.in-Some.found.shuts c.in-Some.ensures.has (omega arith) c.loop-at.depth (omega arith) (omega arith) c.in_default-closing_bit.ensures.none in omega (arith, e)

pub loop-at-preserved : goal.loop-at-preserved
loop-at-preserved c =
    let t = c.args.text.now in
    let l = c.loop-at in
    let o = c.in-Some.found.opens in
    let s = c.in-Some.found.shuts in
    let stays = c.in_default-closing_bit.ensures.none in
    let next : l.depth + ones o - ones s ≡ open_by o s l.depth 64 = let e = total t l.at _ o s c.in-Some.ensures.has (omega arith) l.depth (omega arith) (omega arith) stays in omega (arith, e) in
    let on = c.string_blocks_end-at.ensures in
    record {
      low = omega (arith, on.bounds, l.invariant.low);
      high = on.bounds.1;
      some = subst (λ n. 0 < n) (sym next) (stays 64 (omega arith));
      depth = let few = ones-le 64 o (omega arith) in omega (arith, few, l.invariant.depth, on.bounds);
      carry = c.in-Some.ensures.carry;
      left =
          ap (skip (l.depth + ones o - ones s)) on.left
          ∙ ap₂ (λ d m. skip d (lex m (drop (l.at + 64) t))) next c.in-Some.ensures.mode
          ∙ sym (passes_block t l.at _ o s c.in-Some.ensures.has (omega arith) l.depth stays) ∙ l.invariant.left;
      mode = λ p. on.mode (along_mode t l.at _ 64 (omega arith) (l.invariant.mode p) ∙ sym c.in-Some.ensures.mode);
    }

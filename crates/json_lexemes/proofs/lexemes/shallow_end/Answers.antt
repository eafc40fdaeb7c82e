use Rattle.std.proofs.Common.{◌≡◌, ◌<◌, ◌+◌, ◌-◌, max, drop, ap₂, sym, subst, ◌∙◌, arith}
use lib.Count.{ones, ones-le}
use Rattle.json.specs.Lex.{lex}
use Rattle.json_lexemes.specs.Skipped.{most_open}
use Rattle.json_lexemes.specs.Blocks.{open_by}
use Rattle.json_lexemes.proofs.Passed.{most_block, total}
use Rattle.json_lexemes.proofs.lexemes.shallow_end.Goals as goal

pub overflow_sub-open : goal.overflow_sub-open
overflow_sub-open c = let e = total c.args.text.now c.loop-at.at _ c.in-Some.found.opens c.in-Some.found.shuts c.in-Some.ensures.has (omega arith) c.loop-at.open (omega arith) (omega arith) c.in_default-closing_bit.ensures.none in omega (arith, e)

pub loop-at-preserved : goal.loop-at-preserved
loop-at-preserved c =
    let t = c.args.text.now in
    let l = c.loop-at in
    let o = c.in-Some.found.opens in
    let s = c.in-Some.found.shuts in
    let stays = c.in_default-closing_bit.ensures.none in
    let next : l.open + ones o - ones s ≡ open_by o s l.open 64 = let e = total t l.at _ o s c.in-Some.ensures.has (omega arith) l.open (omega arith) (omega arith) stays in omega (arith, e) in
    record {
      low = omega (arith, l.invariant.low);
      high = omega arith;
      some = subst (λ n. 0 < n) (sym next) (stays 64 (omega arith));
      under = omega arith;
      bound = let few = ones-le 64 o (omega arith) in omega (arith, few, l.invariant.bound);
      carry = c.in-Some.ensures.carry;
      most =
          ap₂ (λ d m. max c.args.most (most_open d (lex m (drop (l.at + 64) t)))) next c.in-Some.ensures.mode
          ∙ sym (most_block t l.at _ o s c.in-Some.ensures.has (omega arith) l.open c.args.most (omega arith) (omega arith)) ∙ l.invariant.most;
    }

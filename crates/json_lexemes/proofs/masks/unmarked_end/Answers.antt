use Rattle.std.proofs.Common.{arith}
use Rattle.json_lexemes.specs.Blocks.{is_string_mark}
use Rattle.json_lexemes.proofs.Wide.{free_on}
use Rattle.json_lexemes.proofs.Passed.{unmarked_load}
use Rattle.json_lexemes.proofs.masks.unmarked_end.Goals as goal

pub loop-i-preserved : goal.loop-i-preserved
loop-i-preserved c =
    let t = c.args.text.now in
    let i = c.loop-i.i in
    record {
      low = omega arith;
      high = omega arith;
      free = free_on is_string_mark t c.args.from i _ c.loop-i.invariant.free
          (unmarked_load t i c.equal_to-quotes.result c.equal_to-backslashes.result c.equal_to-quotes.ensures c.equal_to-backslashes.ensures (omega arith));
    }

use Rattle.json_patch.proofs.Common.{◌++◌, ◌∙◌, arith, sym, ap, append_assoc, view, operations}
use Rattle.json_patch.proofs.LoggedEdits.{blocks_pushed}
use Rattle.json_patch.specs.Logged.{kept_block, kept_blocks}
use Rattle.json_patch.proofs.inverse.inverse_of.Goals as goal

pub loop-change-preserved : goal.loop-change-preserved
loop-change-preserved c =
    let o = c.in-Some.change in let before = operations c.loop-change.undo.items in let rest = kept_blocks c.pop.new.self.items in
    record {
      says = ap (λ x. x ++ rest) c.push_block.ensures.says ∙ append_assoc before (kept_block o.kept o.found (view o.value)) rest
          ∙ ap (λ x. before ++ x) (sym (ap kept_blocks c.in-Some.ensures.items ∙ blocks_pushed c.pop.new.self.items o)) ∙ c.loop-change.invariant.says;
      room = omega (arith, c.loop-change.invariant.room, c.push_block.ensures.len, c.push_block.ensures.capacity, c.in-Some.ensures.len);
    }

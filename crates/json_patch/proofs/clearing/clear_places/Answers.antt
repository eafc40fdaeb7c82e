use Rattle.json_patch.proofs.Common.{arith, rules}
use Rattle.json_patch.proofs.Logged.{roomy_more, roomy_next}
use Rattle.json_patch.proofs.LoggedRuns.{seen_through}
use Rattle.json_patch.proofs.clearing.clear_places.Goals as goal

pub clear_mark-requires-clause-fits : goal.clear_mark-requires-clause-fits
clear_mark-requires-clause-fits c =
    let next = roomy_next _ c.args.changes.now c.loop-change.change-index c.change-item.result c.loop-change-test.true c.change-item.is c.loop-change.invariant.roomy in
    rw c.in-Some.is at (c.taken_at.ensures.fits _ next.0)

pub loop-change-preserved : goal.loop-change-preserved
loop-change-preserved c =
    let next = roomy_next _ c.args.changes.now c.loop-change.change-index c.change-item.result c.loop-change-test.true c.change-item.is c.loop-change.invariant.roomy in
    record {
      cleared = seen_through _ _ _ c.clear_mark.ensures.cleared c.loop-change.invariant.cleared;
      roomy = roomy_more _ _ _ c.clear_mark.ensures.grows next.1;
      counts = search (rules, arith, c.clear_mark.ensures.fewer, c.loop-change.invariant.counts);
    }

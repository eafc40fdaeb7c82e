use Rattle.std.proofs.Common.{arith, get_or}
use Rattle.json_patch_text.proofs.Outlines.{latest_is, member_seen}
use Rattle.json_patch_text.proofs.reading.fields_of.Goals as goal

pub loop-member-preserved : goal.loop-member-preserved
loop-member-preserved c = λ j h.
    let es = c.deref-member-items.result.now in
    let i = c.loop-member.member-index in
    member_seen c.args.text.now j es i _ c.loop-member.fields _ (c.loop-member.invariant j h) (omega (arith, c.loop-member-test.true))
    (latest_is (get_or es i _) c.loop-member.fields (record { op = c.latest.result; from = c.latest-in-loop-member.result; path = c.latest-in-loop-member-2.result; value = c.latest-in-loop-member-3.result }) c.latest.ensures c.latest-in-loop-member.ensures c.latest-in-loop-member-2.ensures c.latest-in-loop-member-3.ensures)

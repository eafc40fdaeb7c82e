use Rattle.std.proofs.Common.{◌∙◌, arith}
use Rattle.json_merge_text.specs.Lasts.{place_in}
use Rattle.json_merge_text.proofs.Last.{next_last, put_last}
use Rattle.json_merge_text.proofs.merging.last_places.Goals as goal

pub loop-index-preserved : goal.loop-index-preserved
loop-index-preserved c = λ k.
    let e = c.index.result.now in
    next_last k c.args.members.now.items c.loop-index.index e (place_in c.loop-index.lasts k) (place_in c.insert.new.self k) (omega (arith, c.loop-index-test.true)) c.index.ensures
    (put_last c.loop-index.lasts c.insert.new.self e.0.now c.loop-index.index c.in_ok-insert.ensures.updates k)
    ∙ c.loop-index.invariant k

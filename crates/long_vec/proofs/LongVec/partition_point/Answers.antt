use Rattle.std.proofs.Common.{◌≡◌, ◌≢◌, ◌∙◌, ◌<◌, ◌≤◌, ◌+◌, ◌-◌, ap, arith, length, of_calls, slice_index_or, subst, sym, take, true}
use Rattle.std.specs.List.Sorted.{IsPartitionedBy}
use Rattle.std.proofs.lemmas.List.{length-append, take_all}
use Rattle.long_vec.specs.Blocks.{items_in}
use Rattle.long_vec.proofs.Handing.{items_before}
use Rattle.long_vec.proofs.Points.{IsPoint, answers_next, block_parts, block_point, count_with, found_in_block, last_is, point_at}
use Rattle.long_vec.proofs.LongVec.partition_point.Goals as goal

pub returns-then-not-pred-clause-bound : goal.returns-then-not-pred-clause-bound
returns-then-not-pred-clause-bound g c =
    let b = c.index-block.result.now in
    let fits = count_with (λ x. true) c.args.self.now.blocks.items c.loop-i.i b (omega arith) c.index-block.ensures in
    omega (arith, fits, c.loop-i.invariant.bound, c.saturating_add.ensures, c.partition_point.ensures.bound, c.as_slice.ensures.len, b.ok.0)

pub returns-then-not-pred-clause-partitioned : goal.returns-then-not-pred-clause-partitioned
returns-then-not-pred-clause-partitioned g c = λ small f key parts.
    let bs = c.args.self.now.blocks.items in
    let b = c.index-block.result.now in
    let block : c.loop-i.i < length bs = omega arith in
    let known = c.loop-i.invariant.answers f key in
    let next = answers_next g.P.FnMut (λ a r. r ≡ f a.0.now) c.loop-i.pred _ c.pred.result c.pred.new.self c.pred.ensures known.0 in
    let fits = count_with f bs c.loop-i.i b block c.index-block.ensures in
    let within : c.partition_point.result ≤ length b.items = omega (arith, c.partition_point.ensures.bound, c.as_slice.ensures.len, b.ok.0) in
    let some : c.len-count.result ≢ 0 = c.if-count-eq0.false in
    let last = last_is f b.items c.len-count.result c.index.result.now c.pred.result c.index.ensures (c.len-count.ensures ∙ b.ok.0) some next.0 in
    let point = subst (λ l. IsPoint f l c.partition_point.result) c.as_slice.ensures.value
    (c.partition_point.ensures.partitioned f next.1 (subst (IsPartitionedBy f) (sym c.as_slice.ensures.value) (block_parts f bs c.loop-i.i b block c.index-block.ensures parts))) in
    let at : c.saturating_add.result ≡ length (items_in (take c.loop-i.i bs)) + c.partition_point.result = omega (arith, fits, within, small, c.saturating_add.ensures, c.loop-i.invariant.counted small) in
    subst (IsPoint f (items_in bs)) (sym at)
    (block_point f bs c.loop-i.i b block c.index-block.ensures c.partition_point.result parts within (λ d. last d ∙ c.if-not-pred.true) (omega arith) point known.1)

pub loop-i-preserved : goal.loop-i-preserved
loop-i-preserved g c =
    let bs = c.args.self.now.blocks.items in
    let b = c.index-block.result.now in
    let block : c.loop-i.i < length bs = omega arith in
    let more : length (items_in (take (c.loop-i.i + 1) bs)) ≡ length (items_in (take c.loop-i.i bs)) + length b.items = ap length (items_before bs c.loop-i.i b block c.index-block.ensures) ∙ length-append (items_in (take c.loop-i.i bs)) b.items in
    let fits = count_with (λ x. true) bs c.loop-i.i b block c.index-block.ensures in
    let some : c.len-count.result ≢ 0 = c.if-count-eq0.false in
    record {
      callable = search of_calls;
      bound = omega (arith, more, c.loop-i.invariant.bound, c.saturating_add-before.ensures, c.len-count.ensures, b.ok.0);
      counted = λ small. omega (arith, more, fits, small, c.loop-i.invariant.counted small, c.saturating_add-before.ensures, c.len-count.ensures, b.ok.0);
      answers = λ f key.
          let known = c.loop-i.invariant.answers f key in
          let next = answers_next g.P.FnMut (λ a r. r ≡ f a.0.now) c.loop-i.pred _ c.pred.result c.pred.new.self c.pred.ensures known.0 in
          let last = last_is f b.items c.len-count.result c.index.result.now c.pred.result c.index.ensures (c.len-count.ensures ∙ b.ok.0) some next.0 in (
            next.1,
            λ k d e.
                let at : k ≡ length (items_in (take c.loop-i.i bs)) + (length b.items - 1) = omega (arith, more, e, some, c.len-count.ensures, b.ok.0) in
                ap (λ n. f (slice_index_or (items_in bs) n d)) at ∙ ap f (found_in_block f bs c.loop-i.i b block c.index-block.ensures (length b.items - 1) d (omega (arith, some, c.len-count.ensures, b.ok.0))) ∙ last d ∙ c.if-not-pred.false,
          );
    }

pub returns-clause-partitioned : goal.returns-clause-partitioned
returns-clause-partitioned g c = λ small f key parts.
    let bs = c.args.self.now.blocks.items in
    let all : take c.loop-i.i bs ≡ bs = take_all c.loop-i.i bs (omega arith) in
    let whole : c.loop-i.before ≡ length (items_in bs) = c.loop-i.invariant.counted small ∙ ap (λ l. length (items_in l)) all in
    point_at f (items_in bs) c.loop-i.before parts (omega arith) (λ k d e. (c.loop-i.invariant.answers f key).1 k d (e ∙ c.loop-i.invariant.counted small)) (λ d l. absurd (omega arith))

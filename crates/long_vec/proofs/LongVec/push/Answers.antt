use Rattle.std.proofs.Common.{◌≡◌, ◌∙◌, ◌<◌, ◌+◌, ◌-◌, ◌∷◌, ◌++◌, [], ap, arith, if◌then◌else◌, is_ok, length}
use Rattle.long_vec.proofs.Room.{capacity_grows}
use Rattle.long_vec.proofs.Splits.{pushed}
use Rattle.long_vec.proofs.LongVec.push.Goals as goal

pub returns-then-len-lt-BLOCK-clause-items : goal.returns-then-len-lt-BLOCK-clause-items
returns-then-len-lt-BLOCK-clause-items g c =
    let bs = c.args.self.now.blocks.items in
    let i = c.len-count.result - 1 in
    let block : i < length bs = omega arith in
    pushed bs i c.index_mut.result.now block c.index_mut.ensures.value c.push.new.self c.args.item (is_ok c.push.result) (omega arith) c.push.ensures.items

pub returns-then-len-lt-BLOCK-clause-capacity : goal.returns-then-len-lt-BLOCK-clause-capacity
returns-then-len-lt-BLOCK-clause-capacity g c =
    let bs = c.args.self.now.blocks.items in
    let i = c.len-count.result - 1 in
    let block : i < length bs = omega arith in
    capacity_grows bs i c.index_mut.result.now c.push.new.self block c.index_mut.ensures.value c.push.ensures.capacity

pub returns-in-Ok-clause-items : goal.returns-in-Ok-clause-items
returns-in-Ok-clause-items g c =
    let bs = c.add_block.new.self.blocks.items in
    let last : c.len-count.result + 1 ≡ length bs = omega (arith, c.in-Ok.ensures.one) in
    let block : c.len-count.result < length bs = omega arith in
    pushed bs c.len-count.result c.index_mut-in-Ok.result.now block c.index_mut-in-Ok.ensures.value c.push-in-Ok.new.self c.args.item (is_ok c.push-in-Ok.result) last c.push-in-Ok.ensures.items
    ∙ ap (λ l. if is_ok c.push-in-Ok.result then l ++ c.args.item ∷ [] else l) c.add_block.ensures.items

pub returns-in-Ok-clause-capacity : goal.returns-in-Ok-clause-capacity
returns-in-Ok-clause-capacity g c =
    let bs = c.add_block.new.self.blocks.items in
    let block : c.len-count.result < length bs = omega (arith, c.in-Ok.ensures.one) in
    let more = capacity_grows bs c.len-count.result c.index_mut-in-Ok.result.now c.push-in-Ok.new.self block c.index_mut-in-Ok.ensures.value c.push-in-Ok.ensures.capacity in
    omega (arith, more, c.add_block.ensures.capacity)

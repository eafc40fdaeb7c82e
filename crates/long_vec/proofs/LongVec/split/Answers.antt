use Rattle.std.proofs.Common.{◌∙◌, ◌≤◌, ◌<◌, ◌++◌, ◌/◌, ap, arith, length, slice_index_or, subst, sym, take, vec_capacity, vec_len}
use Rattle.std.proofs.lemmas.List.{get_or_default, take-append-drop}
use Rattle.long_vec.specs.Blocks.{capacity_in, items_in}
use Rattle.long_vec.proofs.Room.{room_in}
use Rattle.long_vec.proofs.Splits.{split_capacity, split_items, split_room}
use Rattle.long_vec.proofs.LongVec.split.Goals as goal

pub returns-clause-items : goal.returns-clause-items
returns-clause-items g c =
    let bs = c.reserve_block.new.self.blocks.items in
    let b = c.index_mut.result.now in
    let block : c.args.i < length bs = omega (arith, ap length c.in_ok-reserve_block.ensures.items, c.requires.block) in
    let whole = ap (λ l. l ++ c.in_ok-behind.behind.items) c.in_ok-behind.ensures.items ∙ ap (λ l. take (c.len-half.result / 2) b.items ++ l) c.in_ok-behind.ensures.tail ∙ take-append-drop _ b.items in
    ap (λ l. items_in l) c.put_in.ensures.items
    ∙ split_items bs c.args.i b block c.index_mut.ensures.value c.split_off.new.self c.in_ok-behind.behind whole
    ∙ ap (λ l. items_in l) c.in_ok-reserve_block.ensures.items

pub returns-clause-capacity : goal.returns-clause-capacity
returns-clause-capacity g c =
    let bs = c.reserve_block.new.self.blocks.items in
    let block : c.args.i < length bs = omega (arith, ap length c.in_ok-reserve_block.ensures.items, c.requires.block) in
    let more = split_capacity bs c.args.i c.index_mut.result.now block c.index_mut.ensures.value c.split_off.new.self c.in_ok-behind.behind c.split_off.ensures.capacity in
    subst (λ l. capacity_in l ≤ capacity_in c.put_in.new.block.items) c.in_ok-reserve_block.ensures.items
    (subst (λ l. capacity_in bs ≤ capacity_in l) (sym c.put_in.ensures.items) more)

pub returns-clause-room : goal.returns-clause-room
returns-clause-room g c =
    let bs = c.reserve_block.new.self.blocks.items in
    let b = c.index_mut.result.now in
    let block : c.args.i < length bs = omega (arith, ap length c.in_ok-reserve_block.ensures.items, c.requires.block) in
    let some = c.requires.some b in
    let same = ap (λ l. vec_len (slice_index_or l c.args.i b)) c.in_ok-reserve_block.ensures.items in
    let here = ap (λ v. vec_len v) c.index_mut.ensures.value in
    let read = ap (λ v. vec_len v) (c.index.ensures ∙ get_or_default bs c.args.i c.index.result.now b block) in
    let less : vec_len c.split_off.new.self < vec_capacity c.split_off.new.self = omega (arith, some, same, here, read, c.len-half.ensures, c.in_ok-behind.ensures.len, c.split_off.ensures.capacity, b.ok.1) in
    subst (λ l. length (items_in l) < capacity_in l) (sym c.put_in.ensures.items)
    (room_in _ c.args.i (split_room bs c.args.i b block c.index_mut.ensures.value c.split_off.new.self c.in_ok-behind.behind less))

use Rattle.std.proofs.Common.{◌∙◌, ap, refl, sym, slice_index_or, slice_set}
use Rattle.long_vec.proofs.Blocks.{exchanged, found}
use Rattle.long_vec.proofs.Room.{capacity_same}
use Rattle.long_vec.proofs.LongVec.exchange.Goals as goal

pub returns-clause-value : goal.returns-clause-value
returns-clause-value g c =
    found c.args.self.now.blocks.items c.find-i.result.0 c.args.number c.find-i.result.1 c.find-i.ensures
    c.index_mut.result.now c.index_mut.ensures.value c.replace.result
    (c.replace.ensures.value ∙ c.index_mut-2.ensures.value ∙ ap (slice_index_or c.index_mut.result.now.items c.find-i.result.1) (sym c.replace.ensures.value))

pub returns-clause-items : goal.returns-clause-items
returns-clause-items g c =
    exchanged c.args.self.now.blocks.items c.find-i.result.0 c.args.number c.find-i.result.1 c.find-i.ensures
    c.index_mut.result.now c.index_mut.ensures.value _ c.args.item
    (ap (slice_set c.index_mut.result.now.items c.find-i.result.1) c.replace.ensures.after)

pub returns-clause-capacity : goal.returns-clause-capacity
returns-clause-capacity g c =
    capacity_same c.args.self.now.blocks.items c.find-i.result.0 c.index_mut.result.now _ c.find-i.ensures.block c.index_mut.ensures.value refl

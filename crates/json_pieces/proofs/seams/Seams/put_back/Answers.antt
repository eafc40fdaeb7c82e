use Rattle.std.proofs.Common.{subst, sym}
use Rattle.long_vec.specs.Items.{items_of}
use Rattle.json_pieces.specs.Names.{Agrees}
use Rattle.json_pieces.proofs.Places.{count_marks}
use Rattle.json_pieces.proofs.seams.Seams.put_back.Goals as goal

pub index_again-index-requires-clause-count : goal.index_again-index-requires-clause-count
index_again-index-requires-clause-count c =
    let x = c.args.self.now in
    count_marks (items_of x.all) c.replace-index.result x.count (subst (Agrees (items_of x.all)) (sym c.replace-index.ensures.value) x.agrees) x.counted

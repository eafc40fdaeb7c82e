use Rattle.std.proofs.Common.{subst}
use Rattle.long_vec.specs.Items.{items_of}
use Rattle.json_pieces.specs.Names.{Agrees}
use Rattle.json_pieces.proofs.Places.{says}
use Rattle.json_pieces.proofs.seams.Seams.last_named.Goals as goal

pub returns-in-Some : goal.returns-in-Some
returns-in-Some c =
    let x = c.args.self.now in
    says (items_of x.all) c.in-Some.index c.args.name.now c.last_named.result (subst (Agrees (items_of x.all)) c.in-Some.is x.agrees) c.last_named.ensures

use Rattle.std.proofs.Common.{◌∙◌}
use Rattle.long_vec.specs.Items.{items_of}
use Rattle.json_pieces.proofs.Lists.{seams_are}
use Rattle.json_pieces.proofs.node.Row.count.Goals as goal

pub returns : goal.returns
returns c = let r = c.args.self.now in c.count.ensures ∙ seams_are (items_of r.seams.all) (items_of r.values) c.requires.1

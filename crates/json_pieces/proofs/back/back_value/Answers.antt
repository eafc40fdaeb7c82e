use Rattle.std.proofs.Common.{refl}
use Rattle.long_vec.specs.Items.{capacity_of, items_of}
use Rattle.json_pieces.specs.Held.{held}
use Rattle.json_pieces.proofs.Backs.{value_done, value_within}
use Rattle.json_pieces.proofs.back.back_value.Goals as goal

pub exchange-requires : goal.exchange-requires
exchange-requires c = let (p, b) = c.requires in value_within c.args.row.now c.args.number (held c.args.value) c.args.length p b

pub returns : goal.returns
returns c = λ p b. value_done c.args.row.now c.args.number (held c.args.value) c.args.length p b (capacity_of c.exchange.new.self) (items_of c.exchange.new.self) c.args.value c.exchange.ensures.capacity c.exchange.ensures.items refl

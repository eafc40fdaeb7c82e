use Rattle.json_lexemes.proofs.Bits.{prefix_parity}
use Rattle.json_lexemes.proofs.masks.prefix_xor.Goals as goal

pub returns : goal.returns
returns c = prefix_parity c.args.x

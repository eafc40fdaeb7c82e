use Rattle.json_pieces.proofs.Looks.{array_shape, object_shape}
use Rattle.json_pieces.proofs.shape.row_shape.Goals as goal

pub returns-then-row : goal.returns-then-row
returns-then-row c = object_shape c.args.row.now c.requires c.if-row.true

pub returns-else-row : goal.returns-else-row
returns-else-row c = array_shape c.args.row.now c.requires c.if-row.false

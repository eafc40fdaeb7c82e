use Rattle.std.proofs.Common.{length, ap, arith}
use Rattle.json_pieces.specs.Nodes.{text_bytes}
use Rattle.json_pieces.proofs.Calls.{closed_text, closed_whole}
use Rattle.json_pieces.proofs.pieces.Pieces.new.Goals as goal

pub returns-clause-pieces : goal.returns-clause-pieces
returns-clause-pieces c =
    let (j, shallow) = c.as_str-text.ensures.shallow in
    record {
      before = rw c.kept.ensures c.split_off_whitespace.ensures.whitespace.0;
      root = closed_whole c.kept-2.result c.split_off_whitespace.result.0.now c.split_off_whitespace.result.2.now j (rw c.kept-2.ensures (c.split_off_whitespace.ensures.value j shallow.0));
      behind = rw c.kept-3.ensures c.split_off_whitespace.ensures.whitespace.1;
      fits = omega (arith, ap length (closed_text c.kept-2.result (text_bytes c.kept.result) (text_bytes c.kept-3.result) c.as_str-text.result.now (rw (c.kept.ensures, c.kept-2.ensures, c.kept-3.ensures) c.split_off_whitespace.ensures.whole)));
      back = tt;
    }

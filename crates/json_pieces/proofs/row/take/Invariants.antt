use Rattle.std.proofs.Common.{◌≡◌, ◌≤◌, ◌∷◌, [], length, true}
use Rattle.json.specs.Json.{Json}
use Rattle.json_lexemes.specs.Spelled.{Says}
use Rattle.json_text.specs.Pointed.{IsWrittenAt}
use Rattle.json_pieces.specs.Backs.{AreBack}
use Rattle.json_pieces.specs.Held.{row_held}
use Rattle.json_pieces.specs.Logged.{AreInRow}
use Rattle.json_pieces.specs.Nodes.{IsSound, row_pieces, row_view, text_bytes, tree_text, view}
use Rattle.long_vec.specs.Items.{items_of}
use Rattle.json_pieces.proofs.Rows.Takes.{IsLessOf}
use Rattle.json_pieces.proofs.row.take.Given as goal

abbrev pub invariant-loop-number : goal.invariant-loop-number
invariant-loop-number l = record {
  named : l.row.named ≡ true;
  sound : IsSound (row_view l.row);
  shorter : l.row.length ≤ l.fn.row.length;
  less : IsLessOf l.fn.row.named (text_bytes l.fn.row.hollow) (row_pieces l.fn.row) l.name l.row.named (text_bytes l.row.hollow) (row_pieces l.row);
  value : IsSound (view l.value);
  written : (j : Json) → Says (tree_text (row_view l.fn.row)) j → IsWrittenAt (tree_text (row_view l.fn.row)) j (l.name ∷ []) (tree_text (view l.value));
  logged : l.work.logged ≡ l.fn.work.logged;
  place : l.work.place ≡ l.fn.work.place;
  back : l.fn.work.logged ≡ true → AreBack l.work.steps.items (row_held l.row) (row_held l.fn.row) × AreInRow l.work.steps.items;
}

abbrev pub decreases-loop-number : goal.decreases-loop-number
decreases-loop-number l = length (items_of l.row.values)

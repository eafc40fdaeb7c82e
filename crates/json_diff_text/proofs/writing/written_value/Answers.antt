use Rattle.std.proofs.Common.{◌∙◌, ap, string_bytes, subst, sym}
use Rattle.json.specs.Json.{document}
use Rattle.json.specs.Tree.{HasNumbers}
use Rattle.json.specs.Value.{value_view}
use Rattle.serde_json.specs.View.{view}
use Rattle.json_diff_text.specs.Tables.{numerals_in}
use Rattle.json_diff_text.proofs.Between.{has_numbers, value_says}
use Rattle.json_diff_text.proofs.writing.written_value.Goals as goal

pub to_vec-requires : goal.to_vec-requires
to_vec-requires c = subst HasNumbers (sym c.in_ok-tree.ensures) (has_numbers (numerals_in c.args.texts.now.items) _ c.requires.numbers)

pub returns : goal.returns
returns c =
    value_says (numerals_in c.args.texts.now.items) (view c.args.value.now) (string_bytes c.in-Ok.text) (value_view c.in_ok-tree.tree) c.in_ok-tree.ensures (λ low. ap (λ v. document v.items) c.in-Ok.ensures.ok ∙ c.in_ok-to_vec.ensures.reads_back low)
    c.requires.shallow

use Rattle.std.proofs.Common.{◌∙◌, ap, sym, option_map, string_bytes}
use Rattle.std.proofs.lemmas.Option.{same_Some}
use Rattle.json.specs.Json.{string}
use Rattle.json_pieces.proofs.seams.name_in.Goals as goal

pub returns-in-Some : goal.returns-in-Some
returns-in-Some c = λ l t. sym (same_Some (string_bytes c.in-Some.name) l (ap (option_map string_bytes) (sym c.in-Some.is) ∙ c.in_ok-name.ensures (string l) t.0))

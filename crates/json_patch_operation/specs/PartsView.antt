-- What the parts of an operation stand for, as the program lends them: for private clauses.
use Rattle.std.specs.Prelude.{option_map}
use Rattle.serde_json.specs.View.{view}
use Rattle.json_patch_operation.specs.Operation as operation
use Rattle.json_patch_operation.specs.declared.operation.Parts.{Parts}

abbrev pub parts_view : Parts → operation.Parts
parts_view p = record { name = p.name.now; from = option_map (λ F. F.now) p.from; path = p.path.now; value = option_map (λ v. view v.now) p.value }

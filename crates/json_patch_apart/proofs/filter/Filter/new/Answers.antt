use Rattle.std.proofs.Common.{refl}
use Rattle.json_patch_apart.proofs.Filters.{holds_none}
use Rattle.json_patch_apart.proofs.filter.Filter.new.Goals as goal

pub returns : goal.returns
returns c = holds_none 16384 _ refl

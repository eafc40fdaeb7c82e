use Rattle.std.proofs.Common.{subst, sym}
use Rattle.json.specs.Json.{Json}
use Rattle.json_lexemes.proofs.Nests.{accepted}
use Rattle.json_lexemes.specs.Spelled.{IsShallowText}
use Rattle.json_patch_text.proofs.run.run.Goals as goal

pub run_in-requires-clause-shallow : goal.run_in-requires-clause-shallow
run_in-requires-clause-shallow c = subst (λ t. (j : Json) × IsShallowText t j) (sym c.new-draft.ensures.text) (accepted c.args.text.text.now c.args.text.read)

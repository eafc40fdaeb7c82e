use Rattle.std.proofs.Common.{◌≡◌, List, ℕ, subst}
use Rattle.json.specs.Json.{string}
use Rattle.json_text.specs.Listing.{IsTextOf}
use Rattle.json_pieces.specs.Names.{Agrees}
use Rattle.json_pieces.proofs.Places.{come_back}
use Rattle.json_pieces.proofs.seams.index_again.Goals as goal

pub returns-then-recall : goal.returns-then-recall
returns-then-recall c = λ ss within h. come_back ss c.args.number c.args.seam.now _ c.in_ok-index.index c.recall.new.self within (subst (λ t. (l : List ℕ) → IsTextOf t (string l) → l ≡ c.in_ok-name.name.now) c.as_str.ensures c.in_ok-name.ensures) (c.recall.ensures c.if-recall.true) (subst (Agrees ss) c.in_ok-index.was h)

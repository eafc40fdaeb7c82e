use Rattle.std.proofs.Common.{rules, refl}
use Rattle.json_lexemes.proofs.Following.{all_places}
use Rattle.json_lexemes.proofs.signposts.Signposts.places.Goals as goal

pub returns : goal.returns
returns c = λ t a. all_places t c.args.self.now _ a refl (search rules) (search rules) (search rules) (search rules)

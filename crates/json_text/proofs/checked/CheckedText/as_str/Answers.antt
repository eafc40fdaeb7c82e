use Rattle.json_lexemes.proofs.Nests.{accepted}
use Rattle.json_text.proofs.checked.CheckedText.as_str.Goals as goal

pub returns-clause-shallow : goal.returns-clause-shallow
returns-clause-shallow c = accepted c.args.self.now.text.now c.args.self.now.read

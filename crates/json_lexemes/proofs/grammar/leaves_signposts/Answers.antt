use Rattle.json_lexemes.proofs.grammar.leaves_signposts.Goals as goal

pub is_checked-requires : goal.is_checked-requires
is_checked-requires c = λ _. c.restart.ensures c.args.text.now

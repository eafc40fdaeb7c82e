use Rattle.json_lexemes.proofs.Nests.{nests, one_tree, read_is}
use Rattle.json_text.proofs.laws.texts.Goals as goal

pub returns-clause-one_tree : goal.returns-clause-one_tree
returns-clause-one_tree c = one_tree

pub returns-clause-nests : goal.returns-clause-nests
returns-clause-nests c = nests

pub returns-clause-as_read : goal.returns-clause-as_read
returns-clause-as_read c = read_is

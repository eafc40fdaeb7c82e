use Rattle.jsonptr.proofs.Texts.{find_cuts, find_none}
use Rattle.jsonptr.proofs.pointer.cut_at_slash.Goals as goal

pub returns-in-Some-clause-front : goal.returns-in-Some-clause-front
returns-in-Some-clause-front c = rw c.split_at.ensures.front (find_cuts _ _ c.in-Some.ensures.cases).0

pub returns-in-None-clause-front : goal.returns-in-None-clause-front
returns-in-None-clause-front c = find_none _ c.in-None.ensures.cases

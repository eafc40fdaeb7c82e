use Rattle.json_patch_laws.proofs.ApartExamples.{not_enough}
use Rattle.json_patch_laws.proofs.ApartRuns.{accepted_alike, both_ways, each_alone, lists_back, refused_alike}
use Rattle.json_patch_laws.proofs.ApartRuns.{refused_joined}
use Rattle.json_patch_laws.proofs.ApartUndos.{apart_joined, undo_keeps}
use Rattle.json_patch_laws.proofs.laws.apart.Goals as goal

pub returns-clause-apart_both_ways : goal.returns-clause-apart_both_ways
returns-clause-apart_both_ways c = lists_back

pub returns-clause-apart_joined : goal.returns-clause-apart_joined
returns-clause-apart_joined c = apart_joined

pub returns-clause-accepted_alike : goal.returns-clause-accepted_alike
returns-clause-accepted_alike c = accepted_alike

pub returns-clause-both_accepted : goal.returns-clause-both_accepted
returns-clause-both_accepted c = both_ways

pub returns-clause-refused_alike : goal.returns-clause-refused_alike
returns-clause-refused_alike c = refused_alike

pub returns-clause-refused_joined : goal.returns-clause-refused_joined
returns-clause-refused_joined c = refused_joined

pub returns-clause-undo_keeps : goal.returns-clause-undo_keeps
returns-clause-undo_keeps c d xs ys I m e hd hx hy a inv h g = undo_keeps d xs ys I m e hd hx hy a inv h g

pub returns-clause-each_alone : goal.returns-clause-each_alone
returns-clause-each_alone c = each_alone

pub returns-clause-diverging_is_not_enough : goal.returns-clause-diverging_is_not_enough
returns-clause-diverging_is_not_enough c = not_enough

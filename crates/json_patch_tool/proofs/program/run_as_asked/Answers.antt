use Rattle.std.proofs.Common.{◌≡◌, Ok, Some, rules, subst}
use Rattle.json_patch_tool.specs.Written.{EndsWith}
use Rattle.json_patch_tool.proofs.Runs.{mode_asked, run_ends}
use Rattle.json_patch_tool.proofs.program.run_as_asked.Goals as goal

pub returns-in-Ok-Some-clause-ended : goal.returns-in-Ok-Some-clause-ended
returns-in-Ok-Some-clause-ended g c = λ mode is.
    let asked : c.args.asked ≡ Ok (Some c.in-Ok-Some.mode) = search rules in
    let input = g.R.Read.remaining c.args.reader.now in
    let old = g.W.Write.contents c.args.writer.now in
    let new = g.W.Write.contents c.run.new.writer in
    subst (λ m. EndsWith m input old new c.status_told.result) (mode_asked c.args.asked c.in-Ok-Some.mode mode asked is)
    (run_ends c.in-Ok-Some.mode input old new c.run.result c.status_told.result
    c.run.ensures.answered c.run.ensures.refused c.run.ensures.cut c.run.ensures.silent c.status_told.ensures.done c.status_told.ensures.fault)

use Rattle.std.proofs.Common.{refl}
use Rattle.json_patch_text.proofs.Logged.{logs_one}
use Rattle.json_patch_text.proofs.log.Log.added.Goals as goal

pub returns-clause-logs : goal.returns-clause-logs
returns-clause-logs c =
    let (j, shallow) = c.requires.shallow in
    logs_one c.args.self.now c.push.new.self c.push.result c.in_ok-undo.undo _ c.push.ensures.kept c.push.ensures.logged (c.in_ok-undo.undo, refl, (j, shallow.0, c.in_ok-undo.ensures.undo j shallow.0))

use Rattle.std.proofs.Common.{◌≡◌, length, arith, rules}
use Rattle.json_patch_text.proofs.Logged.{logged}
use Rattle.json_patch_text.proofs.log.Log.push.Goals as goal

pub returns-clause-logged : goal.returns-clause-logged
returns-clause-logged c =
    let count : c.len.result ≡ length c.args.self.now.texts.items = omega arith in
    logged c.args.self.now c.args.undo.now c.in_ok-text.text c.comma-comma.result.now c.len.result _ _ count c.comma-comma.ensures c.in_ok-text.ensures (search rules) (omega arith)

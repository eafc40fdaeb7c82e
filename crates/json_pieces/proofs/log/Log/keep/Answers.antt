use Rattle.std.proofs.Common.{◌∙◌, sym}
use Rattle.json_pieces.proofs.Logs.{more_kept}
use Rattle.json_pieces.proofs.log.Log.keep.Goals as goal

pub returns-in-On : goal.returns-in-On
returns-in-On c = more_kept c.args.self.now c.in-On.changes c.push_reserved.new.self c.in-On.field-1 (record { place = c.args.work.place; steps = c.args.work.steps }) c.in-On.is (sym c.is_empty.ensures ∙ c.if-is_empty.false) c.push_reserved.ensures.items

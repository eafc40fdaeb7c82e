use Rattle.std.proofs.Common.{rules}
use Rattle.serde_json.specs.View.{view}
use Rattle.json_patch.specs.Operation.{operations}
use Rattle.json_patch_diff.specs.Guarded.{IsGuarded}
use Rattle.json_patch_diff.proofs.Guards.{guarded_whole, plain_accepted, plain_changes}
use Rattle.json_patch_diff.proofs.guarded.with_guards.Goals.{Joined-work-2}
use Rattle.json_patch_diff.proofs.guarded.with_guards.Goals as goal

-- the list is guarded on the document
made : (c : Joined-work-2) → IsGuarded (view c.args.document.now) (operations c.args.changes.0.items) (operations c.in_ok-guarded-in-Ok.guarded.items)
made c = c.in_ok-guarded-in-Ok.ensures (view c.args.document.now) (plain_changes _ _ c.requires.plain) (search rules)

pub unreachable-requires : goal.unreachable-requires
unreachable-requires c =
    let run = plain_accepted c.runs.ensures.run_ends _ _ c.requires.document c.requires.whole c.requires.plain in
    let never = run.1.nowhere in search rules

pub returns-in_ok-guarded-in-Ok-clause-guarded : goal.returns-in_ok-guarded-in-Ok-clause-guarded
returns-in_ok-guarded-in-Ok-clause-guarded c = made c

pub returns-in_ok-guarded-in-Ok-clause-whole : goal.returns-in_ok-guarded-in-Ok-clause-whole
returns-in_ok-guarded-in-Ok-clause-whole c =
    guarded_whole c.runs.ensures.run_keeps_documents _ _ _ c.requires.document c.requires.whole (made c)

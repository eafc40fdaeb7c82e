use Rattle.std.proofs.Common.{◌+◌, ◌-◌, arith, rules, subst, sym}
use Rattle.std.proofs.lemmas.Grind.{common_steps}
use Rattle.json_patch.specs.Run.{Accepts}
use Rattle.json_patch_uses.specs.SharedDocuments.{AtVersion, document_of, since}
use Rattle.json_patch_uses.proofs.SharedChanges.{newest_meets_none, none_since}
use Rattle.json_patch_uses.proofs.newest.undo_newest.Goals as goal

pub unreachable-requires-in-Conflict : goal.unreachable-requires-in-Conflict
unreachable-requires-in-Conflict c =
    newest_meets_none c.args.shared.now (c.version-newest.result - 1) c.in-Conflict.field-0 (grind (arith, common_steps)) (search rules)

-- no change was made since
pub returns-in_default-clause-back : goal.returns-in_default-clause-back
returns-in_default-clause-back c =
    let s = c.args.shared.now in let n = c.version-newest.result - 1 in
    let stays : AtVersion s n (λ d. Accepts d (since s (n + 1)) (document_of c.undo.new.self)) = c.in_default.ensures.others_stay in
    rw (← c.version-newest.ensures) (record {
      there = stays.there;
      holds = λ d v. sym (subst (λ ops. Accepts d ops (document_of c.undo.new.self)) (none_since s (n + 1) (grind (arith, common_steps))) (stays.holds d v));
    })

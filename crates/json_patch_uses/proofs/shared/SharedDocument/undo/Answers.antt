use Rattle.std.proofs.Common.{◌≡◌, ◌+◌, arith, rules, subst, sym}
use Rattle.std.proofs.lemmas.Grind.{common_steps}
use Rattle.std.proofs.lemmas.List.Elements.{at_read}
use Rattle.json_patch.specs.Operation.{operations_of}
use Rattle.json_patch.specs.Run.{Accepts}
use Rattle.json_patch_uses.specs.History.{patch_of, undo_of}
use Rattle.json_patch_uses.specs.SharedDocuments.{CollidesAt, IsMade, document_of, since}
use Rattle.json_patch_uses.proofs.SharedChanges.{each_is_there, never_refused, taken_back}
use Rattle.json_patch_uses.proofs.shared.SharedDocument.undo.Goals as goal

pub returns-in-Some-clause-fault : goal.returns-in-Some-clause-fault
returns-in-Some-clause-fault c =
    at_read c.args.self.now.changes.items (λ x. CollidesAt c.args.self.now (c.args.version + 1) (patch_of x) c.in-Some.first) c.args.version c.index-change.result.now (grind (arith, common_steps)) c.index-change.ensures (search rules)

pub returns-in-Ok-clause-others_stay : goal.returns-in-Ok-clause-others_stay
returns-in-Ok-clause-others_stay c = record {
  there = each_is_there c.runs.ensures.run_keeps_documents c.args.self.now c.args.version (grind (arith, common_steps));
  holds = λ d v.
      (let back = taken_back c.runs.ensures.joined_accepted c.apart.ensures.undo_keeps c.args.self.now c.args.version _ (grind (arith, common_steps)) c.index-change.ensures (search rules) d v in
      subst (Accepts d (since c.args.self.now (c.args.version + 1))) (sym (back.2.end (document_of c.make.new.self) (search rules))) back.1);
}

pub returns-in-Ok-clause-taken_back : goal.returns-in-Ok-clause-taken_back
returns-in-Ok-clause-taken_back c =
    let same : operations_of c.in_ok-undo.undo ≡ undo_of c.index-change.result.now = search rules in
    let made : IsMade c.args.self.now (operations_of c.in_ok-undo.undo) c.make.new.self = search rules in
    at_read c.args.self.now.changes.items (λ x. IsMade c.args.self.now (undo_of x) c.make.new.self) c.args.version c.index-change.result.now (grind (arith, common_steps)) c.index-change.ensures
    (subst (λ ops. IsMade c.args.self.now ops c.make.new.self) same made)

pub returns-in-Err-Refused-clause-fault : goal.returns-in-Err-Refused-clause-fault
returns-in-Err-Refused-clause-fault c =
    never_refused c.runs.ensures.run_keeps_documents c.runs.ensures.joined_accepted c.apart.ensures.undo_keeps c.args.self.now c.args.version c.index-change.result.now (grind (arith, common_steps)) c.index-change.ensures (search rules)
    c.in-Err-Refused.error.operation c.in-Err-Refused.error.kind (search rules)

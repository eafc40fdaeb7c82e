use Rattle.std.proofs.Common.{arith, drop, rules}
use Rattle.std.proofs.lemmas.Grind.{common_steps}
use Rattle.json_patch.specs.Operation.{operations_of}
use Rattle.json_patch_uses.specs.SharedDocuments.{document_of, since}
use Rattle.json_patch_uses.proofs.SharedChanges.{each_is_there, joined_whole, lead_accepts}
use Rattle.json_patch_uses.proofs.shared.SharedDocument.update.Goals as goal

pub returns-in-Ok-clause-as_if_first : goal.returns-in-Ok-clause-as_if_first
returns-in-Ok-clause-as_if_first c = record {
  there = each_is_there c.runs.ensures.run_keeps_documents c.args.self.now c.args.version (grind (arith, common_steps));
  holds = λ d v.
      (c.apart.ensures.accepted_alike d (operations_of c.args.patch) _ v.document c.requires (joined_whole (drop c.args.version c.args.self.now.changes.items)) (search rules) _).1
      ((c.runs.ensures.joined_accepted d _ _ _).1 (_, lead_accepts c.runs.ensures.joined_accepted _ d _ v.leads, c.in-Ok.ensures.made.3));
}

pub returns-in-Err-Refused-clause-fault : goal.returns-in-Err-Refused-clause-fault
returns-in-Err-Refused-clause-fault c = record {
  there = each_is_there c.runs.ensures.run_keeps_documents c.args.self.now c.args.version (grind (arith, common_steps));
  holds = λ d v. (
    (c.apart.ensures.refused_alike d _ (operations_of c.args.patch) v.document (joined_whole (drop c.args.version c.args.self.now.changes.items)) c.requires
        (c.apart.ensures.apart_both_ways (operations_of c.args.patch) (since c.args.self.now c.args.version) (search rules)) (document_of c.args.self.now) _ _ (lead_accepts c.runs.ensures.joined_accepted _ d _ v.leads)).1
        (search rules),
    search rules,
  );
}

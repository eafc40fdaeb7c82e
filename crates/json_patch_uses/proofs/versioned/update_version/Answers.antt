use Rattle.std.proofs.Common.{◌≡◌, [], ◌∷◌, codes, rules, arith}
use Rattle.serde_json.specs.Data.{number, unsigned}
use Rattle.serde_json.specs.View.{view}
use Rattle.json_patch.specs.Operation.{operations, operations_of, test}
use Rattle.json_patch.specs.Refusal.{NamesFirst}
use Rattle.json_patch_uses.proofs.TestedFirst.{refused_first, refused_later}
use Rattle.json_patch_uses.proofs.versioned.update_version.Goals as goal

pub returns-then-error-eq0-clause-fault : goal.returns-then-error-eq0-clause-fault
returns-then-error-eq0-clause-fault c =
    let is : operations c.as_slice.result.now ≡ test (codes "version" ∷ []) (number (unsigned c.args.version)) ∷ operations_of c.args.changes = search rules in
    let named : NamesFirst (view c.args.doc.now) (operations c.as_slice.result.now) c.in-Err-Refused.error = search rules in
    refused_first c.documents.ensures.found_is_computed _ _ _ _ _ _ is named c.if-error-eq0.true

pub returns-clause-fault : goal.returns-clause-fault
returns-clause-fault c =
    let is : operations c.as_slice.result.now ≡ test (codes "version" ∷ []) (number (unsigned c.args.version)) ∷ operations_of c.args.changes = search rules in
    let named : NamesFirst (view c.args.doc.now) (operations c.as_slice.result.now) c.in-Err-Refused.error = search rules in
    refused_later c.documents.ensures.found_is_computed _ _ _ _ _ _ is named (omega (arith, c.if-error-eq0.false))

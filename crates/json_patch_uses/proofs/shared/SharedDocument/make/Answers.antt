use Rattle.std.proofs.Common.{◌≡◌, refl, rules, subst, sym}
use Rattle.serde_json.specs.View.{view}
use Rattle.json_patch.specs.Inverse.{IsInverse}
use Rattle.json_patch.specs.Operation.{operations}
use Rattle.json_patch.specs.Run.{Accepts}
use Rattle.json_patch_uses.specs.History.{LeadFromADocument}
use Rattle.json_patch_uses.specs.SharedDocuments.{document_of}
use Rattle.json_patch_uses.proofs.SharedChanges.{leads_on, made_by}
use Rattle.json_patch_uses.proofs.shared.SharedDocument.make.Goals as goal

pub returns-clause-made : goal.returns-clause-made
returns-clause-made c =
    let accepted : Accepts (document_of c.args.self.now) (operations c.args.patch.0.items) (view c.apply_patches.new.doc) = search rules in
    let inverse : IsInverse (document_of c.args.self.now) (operations c.args.patch.0.items) (operations c.in_ok-undo.undo.0.items) = search rules in
    made_by _ _ _ _ _ _ _ c.reserve.ensures.items c.push_reserved.ensures.items refl accepted inverse

pub invariant_of-self : goal.invariant_of-self
invariant_of-self c = record {
  whole = c.args.self.now.whole;
  opened = subst (λ cs. LeadFromADocument cs (document_of c.args.self.now)) (sym c.reserve.ensures.items) c.args.self.now.opened;
}

pub invariant_of-self-in-Break-branch-2 : goal.invariant_of-self-in-Break-branch-2
invariant_of-self-in-Break-branch-2 c =
    let same : view c.apply_patches.new.doc ≡ document_of c.args.self.now = search rules in
    record {
      whole = c.apply_patches.ensures.document;
      opened = subst (LeadFromADocument c.reserve.new.self.items) (sym same) (subst (λ cs. LeadFromADocument cs (document_of c.args.self.now)) (sym c.reserve.ensures.items) c.args.self.now.opened);
    }

pub invariant_of-self-2 : goal.invariant_of-self-2
invariant_of-self-2 c =
    let accepted : Accepts (document_of c.args.self.now) (operations c.args.patch.0.items) (view c.apply_patches.new.doc) = search rules in
    let inverse : IsInverse (document_of c.args.self.now) (operations c.args.patch.0.items) (operations c.in_ok-undo.undo.0.items) = search rules in
    record {
      whole = c.apply_patches.ensures.document;
      opened = leads_on _ _ _ _ _ c.args.self.now.opened (made_by _ _ _ _ _ _ _ c.reserve.ensures.items c.push_reserved.ensures.items refl accepted inverse);
    }

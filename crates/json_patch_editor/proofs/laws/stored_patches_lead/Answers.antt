use Rattle.std.proofs.Common.{arith}
use Rattle.json_patch_editor.proofs.Histories.{documents_of, lead, length-documents_along}
use Rattle.json_patch_editor.proofs.laws.stored_patches_lead.Goals as goal

pub returns-clause-before : goal.returns-clause-before
returns-clause-before c = lead c.runs.ensures.run_accepted c.runs.ensures.run_ends c.runs.ensures.run_keeps_documents _ _ c.args.editor.now.whole c.args.editor.now.undoable

pub returns-clause-after : goal.returns-clause-after
returns-clause-after c = lead c.runs.ensures.run_accepted c.runs.ensures.run_ends c.runs.ensures.run_keeps_documents _ _ c.args.editor.now.whole c.args.editor.now.redoable

pub returns-clause-bounded : goal.returns-clause-bounded
returns-clause-bounded c = omega (arith, length-documents_along _ _ c.args.editor.now.undoable, length-documents_along _ _ c.args.editor.now.redoable, c.args.editor.now.bounded)

pub returns-clause-documents : goal.returns-clause-documents
returns-clause-documents c = record {
  before = documents_of c.runs.ensures.run_accepted c.runs.ensures.run_ends c.runs.ensures.run_keeps_documents _ _ c.args.editor.now.whole c.args.editor.now.undoable;
  here = c.args.editor.now.whole;
  after = documents_of c.runs.ensures.run_accepted c.runs.ensures.run_ends c.runs.ensures.run_keeps_documents _ _ c.args.editor.now.whole c.args.editor.now.redoable;
}

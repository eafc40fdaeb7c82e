use Rattle.std.proofs.Common.{arith}
use Rattle.json_patch_editor.proofs.Histories.{length-documents_along}
use Rattle.json_patch_editor.proofs.editor.Editor.undos.Goals as goal

pub returns : goal.returns
returns c = omega (arith, length-documents_along _ _ c.args.self.now.undoable, c.len.ensures)

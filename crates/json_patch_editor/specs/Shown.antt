-- What an editor holds.
use Rattle.std.specs.Prelude.{List}
use Rattle.serde_json.specs.View.{view}
use Rattle.json_patch.specs.Patch.{Patch}
use Rattle.json_patch_editor.specs.History.{documents_along}
use Rattle.json_patch_editor.specs.Versions.{Versions}
use Rattle.json_patch_editor.specs.declared.editor.Editor.{Editor}

-- the versions of an editor: its document, and those to which its undos and its redos lead
abbrev pub versions : Editor → Versions
versions x = record {
  before = documents_along (view x.document) x.undos.items;
  here = view x.document;
  after = documents_along (view x.document) x.redos.items;
  depth = x.depth;
}

-- the patches that an editor stores: those that lead back, and those that lead on, the nearest first
abbrev pub undo_patches : Editor → List Patch
undo_patches x = x.undos.items

abbrev pub redo_patches : Editor → List Patch
redo_patches x = x.redos.items

-- What is asked of an editor, and what it replies, by its versions.
use Rattle.std.specs.Prelude.{◌≡◌, ◌↔◌, ◌<◌, List, [], ◌∷◌, Bool, IsTrue, All, length}
use Rattle.json_patch.specs.Document.{IsDocument}
use Rattle.json_patch.specs.Operation.{Operation, AreWhole}
use Rattle.json_patch.specs.Refusal.{NamesFirst}
use Rattle.json_patch.specs.Run.{Accepts}
use Rattle.json_patch.specs.PatchError.{PatchError}
use Rattle.json_patch_editor.specs.Versions.{Versions, after_apply, after_undo, after_redo}

pub data Command : Type 0 where
  apply : List Operation → Command
  undo : Command
  redo : Command

-- the operations were accepted, or refused with an error; or whether there was a version to go to
pub data Reply : Type 0 where
  accepted : Reply
  refused : PatchError → Reply
  moved : Bool → Reply

-- in the versions vs the reply to the command is r, and ws are the versions afterwards
abbrev pub Replies : Versions → Command → Reply → Versions → Type 0
Replies vs (apply ops) accepted ws = Accepts vs.here ops ws.here × (ws ≡ after_apply ws.here vs)
Replies vs (apply ops) (refused e) ws = NamesFirst vs.here ops e × (ws ≡ vs)
Replies vs (apply ops) (moved b) ws = ⊥
Replies vs undo (moved b) ws = (IsTrue b ↔ (0 < length vs.before)) × (ws ≡ after_undo vs)
Replies vs undo r ws = ⊥
Replies vs redo (moved b) ws = (IsTrue b ↔ (0 < length vs.after)) × (ws ≡ after_redo vs)
Replies vs redo r ws = ⊥

-- the same for a list of commands, one after another, with a reply to each
abbrev pub RepliesInTurn : Versions → List Command → List Reply → Versions → Type 0
RepliesInTurn vs [] [] ws = vs ≡ ws
RepliesInTurn vs (c ∷ cs) (r ∷ rs) ws = (m : Versions) × Replies vs c r m × RepliesInTurn m cs rs ws
RepliesInTurn vs cs rs ws = ⊥

-- every version is a document
pub record AreVersions (vs : Versions) : Type 0 where
  pub before : All IsDocument vs.before
  pub here : IsDocument vs.here
  pub after : All IsDocument vs.after

-- the values of a command's operations are documents
abbrev pub IsWholeCommand : Command → Type 0
IsWholeCommand (apply ops) = AreWhole ops
IsWholeCommand undo = Unit {0}
IsWholeCommand redo = Unit {0}

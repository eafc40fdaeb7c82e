-- An array of an editor's commands, and the array of the replies to them.
use Rattle.std.specs.Prelude.{◌≡◌, ◌⊎◌, ℕ, List, [], ◌∷◌, map, Option, None, codes, true}
use Rattle.serde_json.specs.Data.{Data, string, array, object, boolean, number, unsigned, Items, no_items, item, member}
use Rattle.serde_json.specs.Data.{no_members}
use Rattle.serde_json.specs.View.{items_of}
use Rattle.json_patch.specs.PatchValue.{ReadsPatch, RefusesPatch}
use Rattle.json_patch.specs.PatchErrorKind.{PatchErrorKind}
use Rattle.json_patch.specs.PatchErrorKind.TheVariants.{TestFailed, InvalidFromPointer, InvalidPointer}
use Rattle.json_patch.specs.PatchErrorKind.TheVariants.{CannotMoveInsideItself}
use Rattle.json_patch.specs.ReadKind.{ReadKind}
use Rattle.json_patch.specs.ReadKind.TheVariants.{NotAList}
use Rattle.json_patch_editor.specs.Commands.{Command, apply, undo, redo, Reply, accepted, refused, moved}
use Rattle.json_patch_editor.specs.Versions.{Versions}

-- ---- commands

-- v is the command: one of two words, or else a patch
abbrev pub ReadsCommand : Data → Command → Type 0
ReadsCommand v (apply ops) = ReadsPatch v ops
ReadsCommand v undo = v ≡ string (codes "undo")
ReadsCommand v redo = v ≡ string (codes "redo")

-- v is none, since it isn't read as a patch, for this kind
pub record RefusesCommand (v : Data) (k : Option ℕ) (kind : ReadKind) : Type 0 where
  pub no_undo : v ≡ string (codes "undo") → ⊥
  pub no_redo : v ≡ string (codes "redo") → ⊥
  pub no_patch : RefusesPatch v k kind

-- the elements are the commands, one by one
abbrev pub ReadsItems : Items → List Command → Type 0
ReadsItems no_items [] = Unit {0}
ReadsItems (item v vs) (c ∷ cs) = ReadsCommand v c × ReadsItems vs cs
ReadsItems vs cs = ⊥

-- v is an array of the commands
abbrev pub ReadsCommands : Data → List Command → Type 0
ReadsCommands (array vs) cs = ReadsItems vs cs
ReadsCommands v cs = ⊥

-- the elements before some element are commands, and that one is none
abbrev pub RefusesItems : Items → Option ℕ → ReadKind → Type 0
RefusesItems no_items k kind = ⊥
RefusesItems (item v vs) k kind = RefusesCommand v k kind ⊎ ((c : Command) × ReadsCommand v c × RefusesItems vs k kind)

-- v is no array of commands: for its first element that is none, or since it is no array
abbrev pub RefusesCommands : Data → Option ℕ → ReadKind → Type 0
RefusesCommands (array vs) k kind = RefusesItems vs k kind
RefusesCommands v k kind = (k ≡ None) × (kind ≡ NotAList)

-- ---- replies

abbrev pub name_of_kind : PatchErrorKind → List ℕ
name_of_kind TestFailed = codes "TestFailed"
name_of_kind InvalidFromPointer = codes "InvalidFromPointer"
name_of_kind InvalidPointer = codes "InvalidPointer"
name_of_kind CannotMoveInsideItself = codes "CannotMoveInsideItself"

abbrev pub written_reply : Reply → Data
written_reply accepted = boolean true
written_reply (refused e) = object (member (codes "kind") (string (name_of_kind e.kind)) (member (codes "operation") (number (unsigned e.operation)) no_members))
written_reply (moved b) = boolean b

-- the array of the document that is left and the replies
abbrev pub written_edit : Versions → List Reply → Data
written_edit ws rs = array (item ws.here (item (array (items_of (map written_reply rs))) no_items))

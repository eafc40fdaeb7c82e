-- What the laws of json_patch say, from which the laws on answers follow.
use Rattle.std.proofs.Common.{◌≡◌, ◌⊎◌, ◌↔◌, ℕ, List, Option}
use Rattle.std.specs.Prelude.{All}
use Rattle.serde_json.specs.Data.{Data}
use Rattle.json_patch.specs.Document.{IsDocument}
use Rattle.json_patch.specs.Operation.{Operation, AreWhole}
use Rattle.json_patch.specs.PatchValue.{ReadsPatch}
use Rattle.json_patch.specs.ReadLaws.{IsRead, HasReadFault}
use Rattle.json_patch.specs.Run.{Accepts, Ends}
use Rattle.json_patch.specs.Inverse.{IsInverse}
use Rattle.json_patch.specs.InverseComputed.{inverse}
use Rattle.json_patch.specs.Merged.{IsMerged}
use Rattle.json_patch.specs.ReadKind.{ReadKind}
use Rattle.json_patch_editor.specs.Commands.{AreVersions, Command, IsWholeCommand, RepliesInTurn, Reply}
use Rattle.json_patch_editor.specs.Versions.{Versions}

pub record Below : Type 0 where
  pub read_or_refused : (v : Data) → ((ops : List Operation) × IsRead v ops) ⊎ ((k : Option ℕ) × (kind : ReadKind) × HasReadFault v k kind)
  pub read_is_whole : (v : Data) (ops : List Operation) → ReadsPatch v ops → AreWhole ops
  pub run_ends : (d : Data) (ops : List Operation) → IsDocument d → AreWhole ops → Ends d ops
  pub inverse_is_computed : (d : Data) (ops : List Operation) → IsDocument d → AreWhole ops → (e : Data) → Accepts d ops e
      → (I : List Operation) → IsInverse d ops I ↔ (inverse d ops ≡ I)
  pub merged_is_one : (d p : Data) → IsDocument d → IsDocument p
      → (e : Data) × IsDocument e × IsMerged d p e × ((f : Data) → IsDocument f → IsMerged d p f → f ≡ e)
  pub replied_once : (vs ws us : Versions) (cs : List Command) (rs ss : List Reply) → AreVersions vs → All IsWholeCommand cs
      → RepliesInTurn vs cs rs ws → RepliesInTurn vs cs ss us → (rs ≡ ss) × (ws ≡ us)
  pub always_replied : (vs : Versions) (cs : List Command) → AreVersions vs → All IsWholeCommand cs
      → (rs : List Reply) × (ws : Versions) × RepliesInTurn vs cs rs ws × AreVersions ws

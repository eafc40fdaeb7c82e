-- The array that mode Record answers.
use Rattle.std.proofs.Common.{◌≡◌, ◌∙◌, List, ap, sym, subst}
use Rattle.serde_json.specs.Data.{Data, array, item, no_items}
use Rattle.json_patch.specs.Document.{IsDocument}
use Rattle.json_patch.specs.Operation.{Operation}
use Rattle.json_patch.specs.PatchValue.{ReadsPatch, written_patch}
use Rattle.json_patch.specs.Run.{Accepts}
use Rattle.json_patch_answers.specs.Input.{pair_of}
use Rattle.json_patch_answers.specs.Recording.{LeadsTo}

module _ (e v whole : Data) (undo : List Operation) (pair : whole ≡ array (item e (item v no_items))) (written : v ≡ written_patch undo) (document : IsDocument e) (reads : ReadsPatch (written_patch undo) undo) (written_document : IsDocument (written_patch undo)) where
  pub leads_to : (d : Data) → Accepts e undo d → LeadsTo d whole
  leads_to d accepts =
      (e, v, ap pair_of pair, (document, (undo, subst (λ x. ReadsPatch x undo) (sym written) reads, accepts)))

  pub is_document : IsDocument whole
  is_document =
      subst IsDocument (sym (pair ∙ ap (λ x. array (item e (item x no_items))) written))
      (document, (written_document, tt))

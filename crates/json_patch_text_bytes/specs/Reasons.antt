-- Why a call on a JSON text makes nothing. What can't come to be in a call is ⊥.
use Rattle.std.specs.Prelude.{◌≡◌, ℕ, List, Option}
use Rattle.json_patch.specs.Limits.{Limits}
use Rattle.json_patch_text.specs.WayBack.{IsRecordLimitFault}
use Rattle.json_patch_text.specs.Within.{NamesFirstOver}
use Rattle.json_patch_text.specs.declared.fault.TextLimitFault.TheVariants.{Over}
use Rattle.json_patch_bytes.specs.Reasons.{Reasons}
use Rattle.json_patch_text_bytes.specs.Texts.{HasAtMost, IsJsonText, IsMergedOver, IsNoJsonText, IsNoTextPatch, IsOneTooMany, IsRefusedIn, IsRefusedRecorded}

-- of a document's text that is read
abbrev pub of_text : ℕ → List ℕ → Reasons
of_text levels document = record { no_document = IsNoJsonText levels document; no_patch = λ operation kind. ⊥; refused = λ e. ⊥; over = λ e. ⊥; many = λ k. ⊥ }

-- of a patch's text that is read
abbrev pub of_check : List ℕ → Reasons
of_check patch = record { no_document = λ kind. ⊥; no_patch = IsNoTextPatch patch; refused = λ e. ⊥; over = λ e. ⊥; many = λ k. ⊥ }

-- of a patch's text whose operations are counted: there may be at most so many, if that is limited
abbrev pub of_count : Option ℕ → List ℕ → Reasons
of_count most patch = record (of_check patch) { many = IsOneTooMany most patch }

-- of a document's text and a patch's: that is looked at where the document's is JSON
abbrev pub of_texts : Option ℕ → ℕ → List ℕ → List ℕ → Reasons
of_texts most levels document patch = record {
  no_document = IsNoJsonText levels document;
  no_patch = λ operation kind. IsJsonText levels document × IsNoTextPatch patch operation kind;
  refused = λ e. ⊥;
  over = λ e. ⊥;
  many = λ k. IsJsonText levels document × IsOneTooMany most patch k;
}

-- of a document's text that is patched in place
abbrev pub of_patch : Option ℕ → Limits → List ℕ → List ℕ → Reasons
of_patch most l document patch = record (of_texts most l.depth document patch) {
  refused = λ e. HasAtMost most patch × IsRefusedIn l document patch e;
  over = λ e. HasAtMost most patch × NamesFirstOver l document patch e;
}

-- the same, where the patch is recorded
abbrev pub of_record : Option ℕ → Limits → List ℕ → List ℕ → Reasons
of_record most l document patch = record (of_patch most l document patch) {
  refused = λ e. HasAtMost most patch × IsRefusedRecorded l document patch e;
  over = λ e. HasAtMost most patch × IsRecordLimitFault l document patch (Over e);
}

-- of a document's text and a second, which has to be JSON, too: what is wrong with that is told as of a patch
abbrev pub of_two : ℕ → List ℕ → List ℕ → Reasons
of_two levels document second = record {
  no_document = IsNoJsonText levels document;
  no_patch = λ operation kind. IsJsonText levels document × (operation ≡ 0) × IsNoJsonText levels second kind;
  refused = λ e. ⊥;
  over = λ e. ⊥;
  many = λ k. ⊥;
}

-- of a document's text into which a merge patch's is merged
abbrev pub of_merge : Limits → List ℕ → List ℕ → Reasons
of_merge l document patch = record {
  no_document = IsNoJsonText l.depth document;
  no_patch = (of_two l.depth document patch).no_patch;
  refused = λ e. ⊥;
  over = IsMergedOver l document patch;
  many = λ k. ⊥;
}

-- of a text that is kept, which is known to be JSON
abbrev pub of_kept : Reasons → Reasons
of_kept R = record R { no_document = λ kind. ⊥ }

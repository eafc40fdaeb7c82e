-- Each input has an answer.
use Rattle.std.proofs.Common.{◌≡◌, ◌≤◌, ◌⊎◌, ℕ, List, length, Bool, true, false, Option, Some, None, Result, Ok, Err}
use Rattle.std.proofs.Common.{inl, inr, ⊎_elim, refl}
use Rattle.std.specs.Str.{is_utf8}
use Rattle.std.proofs.lemmas.Bool.{cases_lt}
use Rattle.std.proofs.lemmas.Str.{IsUtf8-from_is_utf8, is_utf8-from_IsUtf8}
use Rattle.serde_json.specs.Data.{Data}
use Rattle.serde_json.specs.Read.{read}
use Rattle.json_patch.specs.Document.{IsDocument}
use Rattle.json_patch.specs.Operation.{Operation}
use Rattle.json_patch.specs.PatchValue.{ReadsPatch}
use Rattle.json_patch.specs.RefusalLaws.{refusal_named}
use Rattle.json_patch.specs.Run.{Accepts}
use Rattle.json_patch.specs.InverseComputed.{inverse}
use Rattle.json_patch_answers.specs.Input.{Says, SaysPair, NoPair, pair_of, line_of}
use Rattle.json_patch_answers.specs.Answer.{IsNotPatched, GivesValue, GivesFault, Answer}
use Rattle.json_patch_answers.specs.declared.input.TheConstants.{MAX_INPUT}
use Rattle.json_patch_answers.specs.declared.mode.Mode.{Mode}
use Rattle.json_patch_answers.specs.declared.mode.Mode.TheVariants.{Patch, Record, Merge, Edit}
use Rattle.json_patch_answers.specs.declared.fault.ToolFault.{ToolFault}
use Rattle.json_patch_answers.specs.declared.fault.ToolFault.TheVariants.{TooLarge, Syntax, NotAPair, NotWhole, Unreadable}
use Rattle.json_patch_answers.specs.declared.fault.ToolFault.TheVariants.{Refused}
use Rattle.json_patch_answers.proofs.Below.{Below}
use Rattle.json_patch_answers.proofs.OneEdit.{edited_given}

-- a patch that is accepted on d, with its end
abbrev Applies : Data → Data → Type 0
Applies d p = IsDocument d × ((ops : List Operation) × (e : Data) × ReadsPatch p ops × Accepts d ops e)

module _ (below : Below) (document_or_not : (d : Data) → IsDocument d ⊎ (IsDocument d → ⊥)) where
  run_of : (d p : Data) (ops : List Operation) → IsDocument d → ReadsPatch p ops → Applies d p ⊎ ((f : ToolFault) × IsNotPatched d p f)
  run_of d p ops document reads = elim (below.run_ends d ops document (below.read_is_whole p ops reads)) [
    | inl w ↦ inl (document, (ops, w.0, reads, w.1.accepts))
    | inr w ↦
        let (e, names) = refusal_named d ops w.0 w.1 w.2.refuses in
        inr (Refused e, (document, (ops, reads, names)))
  ]

  patch_or_not : (d p : Data) → Applies d p ⊎ ((f : ToolFault) × IsNotPatched d p f)
  patch_or_not d p = elim (document_or_not d) [
    | inr n ↦ inr (NotWhole, n)
    | inl document ↦ elim (below.read_or_refused p) [
      | inl w ↦ run_of d p w.0 document w.1.reads
      | inr w ↦ inr (Unreadable (record { operation = w.0; kind = w.1 }), (document, w.2.refuses))
    ]
  ]

  recorded_value : (d p : Data) → Applies d p → (e : Data) × GivesValue Record d p e
  recorded_value d p h =
      let exactly = below.inverse_is_computed d h.1.0 h.0 (below.read_is_whole p h.1.0 h.1.2) h.1.1 h.1.3 in
      let undo = inverse d h.1.0 in
      (_, (h.0, (h.1.0, undo, h.1.1, h.1.2, h.1.3, (exactly undo).1 refl, refl)))

  value_or_fault : (mode : Mode) (d p : Data) → ((e : Data) × GivesValue mode d p e) ⊎ ((f : ToolFault) × GivesFault mode d p f)
  value_or_fault Patch d p = ⊎_elim (λ h. inl (h.1.1, (h.0, (h.1.0, h.1.2, h.1.3)))) inr (patch_or_not d p)
  value_or_fault Record d p = ⊎_elim (λ h. inl (recorded_value d p h)) inr (patch_or_not d p)
  value_or_fault Merge d p = elim (document_or_not d) [
    | inr n ↦ inr (NotWhole, inl n)
    | inl document ↦ elim (document_or_not p) [
      | inr n ↦ inr (NotWhole, inr n)
      | inl patch ↦ let one = below.merged_is_one d p document patch in inl (one.0, (document, patch, one.1, one.2))
    ]
  ]
  value_or_fault Edit d p = edited_given below d p (document_or_not d)

-- ---- what the bytes say

value_of_text : (input : List ℕ) → length input ≤ MAX_INPUT → (r : Option Data) → read input ≡ r → (b : Bool) → is_utf8 input ≡ b
    → ((d : Data) × Says input d) ⊎ ((f : ToolFault) × NoPair input f)
value_of_text input fits None reads b utf8 = inr (Syntax, (fits, λ _. reads))
value_of_text input fits (Some d) reads true utf8 = inl (d, (fits, IsUtf8-from_is_utf8 input utf8, reads))
value_of_text input fits (Some d) reads false utf8 = inr (Syntax, (fits, λ h. let is = is_utf8-from_IsUtf8 input h in cc))

value_or_not : (input : List ℕ) → ((d : Data) × Says input d) ⊎ ((f : ToolFault) × NoPair input f)
value_or_not input = ⊎_elim (λ more. inr (TooLarge, more)) (λ fits. value_of_text input fits (read input) refl (is_utf8 input) refl) (cases_lt MAX_INPUT (length input))

pair_of_whole : (input : List ℕ) (whole : Data) → Says input whole → (o : Option (Data × Data)) → pair_of whole ≡ o
    → ((d p : Data) × SaysPair input d p) ⊎ ((f : ToolFault) × NoPair input f)
pair_of_whole input whole says None is = inr (NotAPair, (whole, says, is))
pair_of_whole input whole says (Some x) is = inl (x.0, x.1, (whole, says, is))

pair_or_not : (input : List ℕ) → ((d p : Data) × SaysPair input d p) ⊎ ((f : ToolFault) × NoPair input f)
pair_or_not input = ⊎_elim (λ w. pair_of_whole input w.0 w.1 (pair_of w.0) refl) inr (value_or_not input)

pub each_has_an_answer : Below → ((d : Data) → IsDocument d ⊎ (IsDocument d → ⊥)) → (mode : Mode) (input : List ℕ)
    → (answer : Result (List ℕ) ToolFault) × Answer mode input answer
each_has_an_answer below document_or_not mode input = elim (pair_or_not input) [
  | inr no_pair ↦ (Err no_pair.0, inl no_pair.1)
  | inl w ↦ elim (value_or_fault below document_or_not mode w.0 w.1) [
    | inl value ↦ (Ok (line_of value.0), (w.0, w.1, value.0, w.2, value.1, refl))
    | inr fault ↦ (Err fault.0, inr (w.0, w.1, w.2, fault.1))
  ]
]

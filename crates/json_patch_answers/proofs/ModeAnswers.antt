-- What a mode gives for a pair of values is the answer to the bytes that say them.
use Rattle.std.proofs.Common.{◌≡◌, ◌≢◌, ℕ, List, Result, Ok, Err, IfOk, IfErr, String, string_bytes, inr, refl, sym, subst}
use Rattle.std.specs.declared.alloc.Global.{Global}
use Rattle.serde_json.specs.Data.{Data}
use Rattle.json_patch_answers.specs.Input.{SaysPair, line_of}
use Rattle.json_patch_answers.specs.Answer.{Answer, GivesValue, GivesFault, LeadsBack}
use Rattle.json_patch_answers.specs.Recording.{IsRecordLine}
use Rattle.json_patch_answers.specs.declared.mode.Mode.{Mode}
use Rattle.json_patch_answers.specs.declared.mode.Mode.TheVariants.{Record}
use Rattle.json_patch_answers.specs.declared.fault.ToolFault.{ToolFault}
use Rattle.json_patch_answers.specs.declared.fault.ToolFault.TheVariants.{Memory}

module _ (mode given : Mode) (same : mode ≡ given) (input : List ℕ) (d p : Data) where
  pub line_answered : (r : Result (String Global) ToolFault) → SaysPair input d p
      → IfOk r (λ line. (e : Data) × GivesValue given d p e × (string_bytes line ≡ line_of e)) → IfOk r (λ line. Answer mode input (Ok (string_bytes line)))
  line_answered (Ok line) says gives =
      subst (λ m. Answer m input (Ok (string_bytes line))) (sym same) (d, p, gives.0, says, gives.1, gives.2)
  line_answered (Err fault) says gives = tt

  pub fault_answered : (r : Result (String Global) ToolFault) → SaysPair input d p
      → IfErr r (λ fault. fault ≢ Memory → GivesFault given d p fault) → IfErr r (λ fault. fault ≢ Memory → Answer mode input (Err fault))
  fault_answered (Ok line) says gives = tt
  fault_answered (Err fault) says gives = λ n.
      subst (λ m. Answer m input (Err fault)) (sym same) (inr (d, p, says, gives n))

-- ---- mode Record

pub record_given : (d p : Data) (r : Result (String Global) ToolFault) → IfOk r (λ line. IsRecordLine d p (string_bytes line))
    → IfOk r (λ line. (e : Data) × GivesValue Record d p e × (string_bytes line ≡ line_of e))
record_given d p (Ok line) h = (h.0, h.1, h.2)
record_given d p (Err fault) h = tt

pub record_leads_back : (mode : Mode) (input : List ℕ) (d p : Data) (r : Result (String Global) ToolFault) → SaysPair input d p
    → IfOk r (λ line. IsRecordLine d p (string_bytes line)) → IfOk r (λ line. mode ≡ Record → LeadsBack input (string_bytes line))
record_leads_back mode input d p (Ok line) says h = λ _. (
  d,
  p,
  h.0,
  says,
  h.1,
  h.2,
  λ fits nests.
      (h.4.0, h.4.1, d, (h.0, h.3 fits nests, h.4.2), h.4.3, refl),
)
record_leads_back mode input d p (Err fault) says h = tt

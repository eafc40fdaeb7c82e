-- What is told of a text that was made, and of a failure, for a call's own reasons.
use Rattle.std.proofs.Common.{◌≡◌, ◌≢◌, ◌<◌, ◌⊎◌, ⊎_elim, inl, inr, ℕ, List, Result, Ok, Err, length, refl, rules, arith, subst}
use Rattle.std.specs.Prelude.{IfErr, IfOk, OnOk, string_bytes}
use Rattle.std.specs.declared.alloc.Global.{Global}
use Rattle.std.specs.declared.string.String.{String}
use Rattle.json_patch_bytes.specs.Failures.{IsFailure}
use Rattle.json_patch_bytes.specs.Reasons.{Reasons}
use Rattle.json_patch_bytes.specs.declared.failure.Failure.{Failure}
use Rattle.json_patch_c.specs.Reports.{IsBothWritten, IsPut, IsTextWritten, IsTold, TellsBoth}
use Rattle.json_patch_c.specs.Told.{IsPutOut, IsReported}
use Rattle.json_patch_c.specs.declared.report.Report.{Report}
use Rattle.json_patch_c.specs.declared.status.TheConstants.{NO_ROOM, OK, OVER}

module _ (status : ℕ) (old new : List ℕ) (report : Report) where
  -- the failure that is told is one of the reasons
  pub told_failure : (R : Reasons) (failure : Failure) → IsFailure R failure → IsReported failure status old new report → IsTold R status old new report
  told_failure R failure why h = record {
    refused = λ is. (let r = h.refused is in (r.0, subst (IsFailure R) r.1 why, r.2));
    no_document = λ is. (let r = h.no_document is in (subst (IsFailure R) r.0 why, r.1));
    no_patch = λ is. (let r = h.no_patch is in (subst (IsFailure R) r.0 why, r.1));
    no_memory = h.no_memory;
    over = λ is. ⊎_elim (λ r. inl (r.0, subst (IsFailure R) r.1 why, r.2)) (λ r. inr (r.0, subst (IsFailure R) r.1 why, r.2)) (h.over is);
    untouched = λ n m. h.untouched m;
  }

  -- with a status past those of the reasons
  pub told_apart : (R : Reasons) → NO_ROOM < status → status ≢ OVER → new ≡ old → IsTold R status old new report
  told_apart R past over same = record {
    refused = λ is. search (rules, arith, past, is);
    no_document = λ is. search (rules, arith, past, is);
    no_patch = λ is. search (rules, arith, past, is);
    no_memory = λ is. search (rules, arith, past, is);
    over = λ is. absurd (over is);
    untouched = λ n m. same;
  }

  pub text_put : (P : List ℕ → Type 0) (text : List ℕ) → P text → IsPutOut text status old new report → IsTextWritten P status old new report
  text_put P text holds h = record {
    made = λ is. (text, holds, h.made is, h.told);
    no_room = λ is. (text, holds, h.no_room is, h.told);
    untouched = λ is. h.untouched (search (rules, arith, is));
  }

  -- with a status that tells of no text
  pub text_apart : (P : List ℕ → Type 0) → status ≢ OK → status ≢ NO_ROOM → IsTextWritten P status old new report
  text_apart P made room = record { made = λ is. absurd (made is); no_room = λ is. absurd (room is); untouched = λ is. absurd (room is) }

  pub text_written : (P : List ℕ → Type 0) (made : Result (String Global) Failure) → IfOk made (λ s. P (string_bytes s))
      → IfOk made (λ s. IsPutOut (string_bytes s) status old new report) → IfErr made (λ failure. IsReported failure status old new report) → IsTextWritten P status old new report
  text_written P (Ok s) holds put reported = text_put P (string_bytes s) holds put
  text_written P (Err failure) holds put reported = text_apart P reported.ends.0 (λ is. search (rules, arith, reported.ends, is))

  -- what holds where a text was made
  pub holds_of_done : (Q : Type 0) (made : Result (String Global) Failure) → OnOk made Q → IfErr made (λ failure. IsReported failure status old new report) → status ≡ OK → Q
  holds_of_done Q (Ok s) holds reported is = holds
  holds_of_done Q (Err failure) holds reported is = absurd (reported.ends.0 is)

  -- two texts that were made
  pub both_written : (P : List ℕ → List ℕ → Type 0) (text undo before after : List ℕ) → P text undo → (status ≡ OK → IsPut text old new × IsPut undo before after)
      → (status ≡ NO_ROOM → (length old < length text) ⊎ (length before < length undo)) → TellsBoth (length text) (length undo) report
      → (status ≢ OK → (new ≡ old) × (after ≡ before)) → IsBothWritten P status old new before after report
  both_written P text undo before after holds made room told same = record {
    made = λ is. (let p = made is in (text, undo, holds, p.0, p.1, told));
    no_room = λ is. (text, undo, holds, room is, told);
    untouched = λ is. (same is).1;
  }

  -- and neither of them
  pub both_apart : (P : List ℕ → List ℕ → Type 0) (before : List ℕ) → status ≢ OK → status ≢ NO_ROOM → IsBothWritten P status old new before before report
  both_apart P before made room = record { made = λ is. absurd (made is); no_room = λ is. absurd (room is); untouched = λ is. refl }

  pub told_both : (R : Reasons) → (status ≡ OK) ⊎ (status ≡ NO_ROOM) → (status ≢ OK → new ≡ old) → IsTold R status old new report
  told_both R ends same = record {
    refused = λ is. search (rules, arith, ends, is);
    no_document = λ is. search (rules, arith, ends, is);
    no_patch = λ is. search (rules, arith, ends, is);
    no_memory = λ is. search (rules, arith, ends, is);
    over = λ is. search (rules, arith, ends, is);
    untouched = λ n m. same n;
  }

  pub told : (R : Reasons) (made : Result (String Global) Failure) → IfErr made (IsFailure R)
      → IfOk made (λ s. IsPutOut (string_bytes s) status old new report) → IfErr made (λ failure. IsReported failure status old new report) → IsTold R status old new report
  told R (Ok s) why put reported = told_both R put.ends put.untouched
  told R (Err failure) why put reported = told_failure R failure why reported

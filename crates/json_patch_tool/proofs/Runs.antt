-- How a run ends, by the answer to the bytes that it read.
use Rattle.std.proofs.Common.{◌≡◌, ◌≢◌, ℕ, List, Option, Some, Result, Ok, Err, IfErr, inl, inr, refl, sym, ◌∙◌, subst}
use Rattle.std.specs.Prelude.{IfSome, IsErrOf, OnOk}
use Rattle.std.specs.Result.{IsErrAnd}
use Rattle.std.specs.Io.KnownBytes.{Keeps}
use Rattle.std.proofs.lemmas.Option.{IfSome_then}
use Rattle.json_patch_answers.specs.Answer.{Answer}
use Rattle.json_patch_answers.specs.Statuses.{status_of}
use Rattle.json_patch_answers.specs.declared.mode.Mode.{Mode}
use Rattle.json_patch_answers.specs.declared.fault.ToolFault.{ToolFault}
use Rattle.json_patch_answers.specs.declared.fault.ToolFault.TheVariants.{TooLarge, Syntax, NotAPair, NotWhole, Unreadable}
use Rattle.json_patch_answers.specs.declared.fault.ToolFault.TheVariants.{Refused, Memory, ReadFailed, WriteFailed}
use Rattle.json_patch_tool.specs.Written.{WritesAnswer, BeginsAnswer, EndsInFault, EndsWith}

module _ (mode : Mode) (input : Option (List ℕ)) where
  answered_at : (xs : List ℕ) (f : ToolFault) → IfSome input (λ bytes. bytes ≡ xs) → Answer mode xs (Err f)
      → IfSome input (λ bytes. Answer mode bytes (Err f))
  answered_at xs f whole answer = IfSome_then input {P = λ bytes. bytes ≡ xs} {Q = λ bytes. Answer mode bytes (Err f)} whole
      (λ bytes same. subst (λ b. Answer mode b (Err f)) (sym same) answer)

  pub refused_at : (xs ys : List ℕ) (fault : ToolFault) (r : Result (Unit {0}) ToolFault) → IfSome input (λ bytes. bytes ≡ xs) → ys ≡ xs
      → (fault ≢ Memory → Answer mode ys (Err fault)) → IsErrAnd r (λ f. f ≡ fault)
      → IfErr r (λ f. f ≢ Memory → f ≢ ReadFailed → f ≢ WriteFailed → IfSome input (λ bytes. Answer mode bytes (Err f)))
  refused_at xs ys fault (Ok u) whole same answer is = absurd is
  refused_at xs ys fault (Err f) whole same answer is = λ n _ _.
      answered_at xs f whole (subst (λ zs. Answer mode zs (Err f)) same (subst (λ g. Answer mode ys (Err g)) (sym is) (answer (λ e. n (is ∙ e)))))

  pub ends_in_fault : (old new : Option (List ℕ)) (f : ToolFault)
      → (f ≢ Memory → f ≢ ReadFailed → f ≢ WriteFailed → IfSome input (λ bytes. Answer mode bytes (Err f)))
      → (f ≡ WriteFailed → IfSome input (λ bytes. BeginsAnswer mode bytes old new)) → (f ≢ WriteFailed → Keeps old new) → EndsInFault mode input old new f
  ends_in_fault old new Memory refused cut silent = silent (λ e. cc)
  ends_in_fault old new ReadFailed refused cut silent = silent (λ e. cc)
  ends_in_fault old new WriteFailed refused cut silent = cut refl
  ends_in_fault old new TooLarge refused cut silent = (silent (λ e. cc), refused (λ e. cc) (λ e. cc) (λ e. cc))
  ends_in_fault old new Syntax refused cut silent = (silent (λ e. cc), refused (λ e. cc) (λ e. cc) (λ e. cc))
  ends_in_fault old new NotAPair refused cut silent = (silent (λ e. cc), refused (λ e. cc) (λ e. cc) (λ e. cc))
  ends_in_fault old new NotWhole refused cut silent = (silent (λ e. cc), refused (λ e. cc) (λ e. cc) (λ e. cc))
  ends_in_fault old new (Unreadable x) refused cut silent = (silent (λ e. cc), refused (λ e. cc) (λ e. cc) (λ e. cc))
  ends_in_fault old new (Refused x) refused cut silent = (silent (λ e. cc), refused (λ e. cc) (λ e. cc) (λ e. cc))

  pub run_ends : (old new : Option (List ℕ)) (r : Result (Unit {0}) ToolFault) (status : ℕ)
      → OnOk r (IfSome input (λ bytes. WritesAnswer mode bytes old new))
      → IfErr r (λ f. f ≢ Memory → f ≢ ReadFailed → f ≢ WriteFailed → IfSome input (λ bytes. Answer mode bytes (Err f)))
      → (IsErrOf r WriteFailed → IfSome input (λ bytes. BeginsAnswer mode bytes old new)) → IfErr r (λ f. f ≢ WriteFailed → Keeps old new)
      → OnOk r (status ≡ 0) → IfErr r (λ f. status ≡ status_of f) → EndsWith mode input old new status
  run_ends old new (Ok u) status answered refused cut silent done told = inl (done, answered)
  run_ends old new (Err f) status answered refused cut silent done told = inr (f, told, ends_in_fault old new f refused (λ e. cut (cc)) silent)

pub mode_asked : (asked : Result (Option Mode) ToolFault) (mode given : Mode) → asked ≡ Ok (Some mode) → asked ≡ Ok (Some given) → mode ≡ given
mode_asked asked mode given h k = cc

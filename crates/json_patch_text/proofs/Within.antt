-- Why a text isn't patched within limits, from the run of its operations; and laws of limits.
use Rattle.std.proofs.Common.{◌≡◌, ◌≤◌, ℕ, List, take, Some, true, false, Result, Ok, Err, IfOk, IfErr, refl, subst, arith}
use Rattle.std.specs.String.{string_bytes}
use Rattle.std.specs.declared.string.String.{String}
use Rattle.json_patch_text.specs.Bounded.{AreMadeUnder, IsLeftUnder, IsRecordedBefore, IsRunFaultUnder, most_of}
use Rattle.json_patch_text.specs.WayBack.{AreRecordedWithin, IsRecordLimitFault, IsRecordOverAt, RecordsBefore}
use Rattle.json_patch_text.specs.Stopped.{IsRunFault}
use Rattle.json_patch_text.specs.Operations.{TreeOperation}
use Rattle.json_patch_text.specs.Patched.{HasTexts, IsPatchTextFault, IsPatchedText}
use Rattle.json_patch_text.specs.TextOperations.{AreWrittenAs}
use Rattle.json_patch_text.specs.Within.{AreMadeWithin, IsFaultWithin, IsPatchedWithin, IsTextLimitFault, IsTextOverAt, IsTextWithin, most_bytes}
use Rattle.json_patch_text.specs.declared.bounds.Bounds.{Bounds}
use Rattle.json_patch_text.specs.declared.fault.PatchTextFault.{PatchTextFault}
use Rattle.json_patch_text.specs.declared.fault.PatchTextFault.TheVariants.{Document, Patch, Unreadable, Refused, TooDeep, Memory}
use Rattle.json_patch_text.specs.declared.fault.TextLimitFault.{TextLimitFault}
use Rattle.json_patch_text.specs.declared.fault.TextLimitFault.TheVariants as within
use Rattle.json_patch_text.specs.declared.operation.TextOperation.{TextOperation}
use Rattle.json_patch_text.proofs.Bounded.{last_within, within_made}
use Rattle.json_lexemes.specs.Skipped.{nesting}

-- its operations end early
pub run_fault : (text patch : List ℕ) (os : List TextOperation) (f : PatchTextFault) → HasTexts patch os → ((ops : List TreeOperation) → AreWrittenAs os ops → IsRunFault text os ops f) → IsPatchTextFault text patch f
run_fault text patch os (Document g) (ops, says, w, in_patch) runs = absurd (runs ops w)
run_fault text patch os (Patch g) (ops, says, w, in_patch) runs = absurd (runs ops w)
run_fault text patch os (Unreadable e) (ops, says, w, in_patch) runs = absurd (runs ops w)
run_fault text patch os (Refused e) (ops, says, w, in_patch) runs = (ops, says, runs ops w)
run_fault text patch os (TooDeep k) (ops, says, w, in_patch) runs = let (less, deep) = runs ops w in (os, (ops, says, w, in_patch), less, deep)
run_fault text patch os (Memory m) h runs = tt

patch_fault : (b : Bounds) (text patch : List ℕ) (os : List TextOperation) (f : PatchTextFault) → most_of b ≡ most_bytes b.limits text patch → HasTexts patch os → ((ops : List TreeOperation) → AreWrittenAs os ops → IsRunFault text os ops f × IsLeftUnder (Some b) text os f) → IsFaultWithin b.limits text patch f
patch_fault b text patch os (Document f) most (ops, says, w, in_patch) runs = absurd (runs ops w).0
patch_fault b text patch os (Patch f) most (ops, says, w, in_patch) runs = absurd (runs ops w).0
patch_fault b text patch os (Unreadable e) most (ops, says, w, in_patch) runs = absurd (runs ops w).0
patch_fault b text patch os (Refused e) most (ops, says, w, in_patch) runs =
    let (names, (left, n, made)) = runs ops w in
    ((ops, says, names), (os, left, n, (ops, says, w, in_patch), subst (λ x. AreMadeWithin b.limits x text (take e.operation os) left n) most made))
patch_fault b text patch os (TooDeep k) most (ops, says, w, in_patch) runs =
    let (found, (left, n, made, deep)) = runs ops w in
    let shallow : nesting left ≤ b.limits.depth = (last_within b.limits (most_of b) text (take k os) left n made.0).0 in
    (omega arith, (os, (ops, says, w, in_patch), found.0, found.1), (os, left, n, (ops, says, w, in_patch), subst (λ x. AreMadeWithin b.limits x text (take k os) left n) most made))
patch_fault b text patch os (Memory m) most h runs = tt

fault_within : (b : Bounds) (text patch : List ℕ) (os : List TextOperation) (f : TextLimitFault) → most_of b ≡ most_bytes b.limits text patch → HasTexts patch os → ((ops : List TreeOperation) → AreWrittenAs os ops → IsRunFaultUnder false (Some b) text os ops f) → IsTextLimitFault b.limits text patch f
fault_within b text patch os (within.Over e) most (ops, says, w, in_patch) runs = (os, ops, says, w, in_patch, subst (λ n. IsTextOverAt b.limits n text os ops e.operation e.kind) most (runs ops w))
fault_within b text patch os (within.Patch f) most h runs = patch_fault b text patch os f most h (λ ops w. let (fault, left, before) = runs ops w in (fault, left))

pub run_within : {A : Type 0} (b : Bounds) (text patch : List ℕ) (os : List TextOperation) (r : Result A TextLimitFault) → most_of b ≡ most_bytes b.limits text patch → HasTexts patch os
    → IfErr r (λ f. (ops : List TreeOperation) → AreWrittenAs os ops → IsRunFaultUnder false (Some b) text os ops f) → IfErr r (IsTextLimitFault b.limits text patch)
run_within b text patch os (Ok new) most h runs = tt
run_within b text patch os (Err f) most h runs = fault_within b text patch os f most h runs

-- the same of a run that keeps what takes it back
records_before : (b : Bounds) (text patch : List ℕ) (os : List TextOperation) (f : PatchTextFault) → most_of b ≡ most_bytes b.limits text patch → HasTexts patch os → IsRecordedBefore (Some b) text os f → RecordsBefore b.limits text patch f
records_before b text patch os (Document f) most h r = tt
records_before b text patch os (Patch f) most h r = tt
records_before b text patch os (Unreadable e) most h r = tt
records_before b text patch os (Refused e) most h (left, us, n, (taken, short)) = (os, left, us, n, h, subst (λ x. AreRecordedWithin b.limits x text (take e.operation os) left us n) most (taken, short.0, short.1))
records_before b text patch os (TooDeep k) most h (left, us, n, (taken, short)) = (os, left, us, n, h, subst (λ x. AreRecordedWithin b.limits x text (take k os) left us n) most (taken, short.0, short.1))
records_before b text patch os (Memory m) most h r = tt

pub record_fault : (b : Bounds) (text patch : List ℕ) (os : List TextOperation) (f : TextLimitFault) → most_of b ≡ most_bytes b.limits text patch → HasTexts patch os → ((ops : List TreeOperation) → AreWrittenAs os ops → IsRunFaultUnder true (Some b) text os ops f) → IsRecordLimitFault b.limits text patch f
record_fault b text patch os (within.Over e) most (ops, says, w, in_patch) runs = (os, ops, says, w, in_patch, subst (λ n. IsRecordOverAt b.limits n text os ops e.operation e.kind) most (runs ops w))
record_fault b text patch os (within.Patch f) most h runs =
    let (ops, says, w, in_patch) = h in
    let (fault, left, before) = runs ops w in
    (patch_fault b text patch os f most h (λ others v. let (fault, left, before) = runs others v in (fault, left)), records_before b text patch os f most h (before refl))

-- they are all made
pub kept : {A : Type 0} (b : Bounds) (text patch : List ℕ) (os : List TextOperation) (n : ℕ) (r : Result (String A) TextLimitFault) → HasTexts patch os → IfOk r (λ new. AreMadeUnder (Some b) text os (string_bytes new) n) → IfOk r (λ new. IsPatchedText text patch (string_bytes new))
kept b text patch os n (Ok new) h made = (os, h, within_made b.limits (most_of b) text os (string_bytes new) n made.0)
kept b text patch os n (Err f) h made = tt

pub all_within : {A : Type 0} (b : Bounds) (text patch : List ℕ) (os : List TextOperation) (n : ℕ) (r : Result (String A) TextLimitFault) → most_of b ≡ most_bytes b.limits text patch → HasTexts patch os → IfOk r (λ new. AreMadeUnder (Some b) text os (string_bytes new) n)
    → IfOk r (λ new. IsPatchedWithin b.limits text patch (string_bytes new))
all_within b text patch os n (Ok new) most h made = (os, n, h, subst (λ x. AreMadeWithin b.limits x text os (string_bytes new) n) most made)
all_within b text patch os n (Err f) most h made = tt

pub bounded : {A : Type 0} (b : Bounds) (text : List ℕ) (os : List TextOperation) (n : ℕ) (r : Result (String A) TextLimitFault) → IfOk r (λ new. AreMadeUnder (Some b) text os (string_bytes new) n) → IfOk r (λ new. IsTextWithin b.limits (most_of b) (string_bytes new))
bounded b text os n (Ok new) made = last_within b.limits (most_of b) text os (string_bytes new) n made.0
bounded b text os n (Err f) made = tt

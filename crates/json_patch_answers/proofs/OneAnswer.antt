-- An input has one answer at most.
use Rattle.std.proofs.Common.{◌≡◌, ◌≤◌, ◌<◌, ◌⊎◌, ℕ, List, length, Option, Some, None, Result, Ok, Err, IsUtf8}
use Rattle.std.proofs.Common.{unwrap_or, inl, inr, refl, sym, ap, subst, ◌∙◌, arith}
use Rattle.serde_json.specs.Data.{Data, array, item, no_items}
use Rattle.serde_json.specs.Read.{read}
use Rattle.json_patch.specs.Document.{IsDocument}
use Rattle.json_patch.specs.Operation.{Operation, AreWhole}
use Rattle.json_patch.specs.PatchValue.{ReadsPatch, RefusesPatch, written_patch}
use Rattle.json_patch.specs.Run.{Accepts, RefusesAt}
use Rattle.json_patch.specs.Refusal.{NamesFirst}
use Rattle.json_patch.specs.RefusalLaws.{one_refusal}
use Rattle.json_patch.specs.Inverse.{IsInverse}
use Rattle.json_patch.specs.PatchError.{PatchError}
use Rattle.json_patch.specs.ReadError.{ReadError}
use Rattle.json_patch.specs.ReadKind.{ReadKind}
use Rattle.json_patch.specs.PatchErrorKind.{PatchErrorKind}
use Rattle.json_patch_answers.specs.Input.{Says, SaysPair, NoPair, pair_of, line_of}
use Rattle.json_patch_answers.specs.Answer.{IsPatched, IsRecorded, IsNotPatched, IsMergedWhole, IsNotMerged, GivesValue}
use Rattle.json_patch_answers.specs.Answer.{GivesFault, Answer}
use Rattle.json_patch_answers.specs.declared.input.TheConstants.{MAX_INPUT}
use Rattle.json_patch_answers.specs.declared.mode.Mode.{Mode}
use Rattle.json_patch_answers.specs.declared.mode.Mode.TheVariants.{Patch, Record, Merge, Edit}
use Rattle.json_patch_answers.specs.declared.fault.ToolFault.{ToolFault}
use Rattle.json_patch_answers.specs.declared.fault.ToolFault.TheVariants.{TooLarge, Syntax, NotAPair, NotWhole, Unreadable}
use Rattle.json_patch_answers.specs.declared.fault.ToolFault.TheVariants.{Refused}
use Rattle.json_patch_answers.proofs.Below.{Below}
use Rattle.json_patch_answers.proofs.OneEdit.{edited_once, unedited_once, edited_or_not}

inside : {A : Type 0} {b : A} (a : A) → Some a ≡ Some b → a ≡ b
inside a same = ap (λ o. unwrap_or o a) same

read_error_same : (e f : ReadError) → e.operation ≡ f.operation → e.kind ≡ f.kind → e ≡ f
read_error_same e f same_number kind =
    let with_number : Option ℕ → ReadError = λ n. record { operation = n; kind = e.kind } in
    let with_kind : ReadKind → ReadError = λ k. record { operation = f.operation; kind = k } in
    ap with_number same_number ∙ ap with_kind kind

-- the three causes for which nothing is patched
abbrev Cause : Data → Data → ToolFault → Type 0
Cause d p f = ((f ≡ NotWhole) × (IsDocument d → ⊥))
    ⊎ (((e : ReadError) × (f ≡ Unreadable e) × IsDocument d × RefusesPatch p e.operation e.kind)
    ⊎ ((e : PatchError) × (f ≡ Refused e) × IsDocument d × ((ops : List Operation) × ReadsPatch p ops × NamesFirst d ops e)))

cause : (d p : Data) (f : ToolFault) → IsNotPatched d p f → Cause d p f
cause d p NotWhole h = inl (refl, h)
cause d p (Unreadable e) h = inr (inl (e, refl, h.0, h.1))
cause d p (Refused e) h = inr (inr (e, refl, h.0, h.1))
cause d p f h = absurd h

not_merged : (d p : Data) (f : ToolFault) → IsNotMerged d p f → (f ≡ NotWhole) × ((IsDocument d → ⊥) ⊎ (IsDocument p → ⊥))
not_merged d p NotWhole h = (refl, h)
not_merged d p f h = absurd h

merged_or_not : (d p e : Data) → IsMergedWhole d p e → (IsDocument d → ⊥) ⊎ (IsDocument p → ⊥) → ⊥
merged_or_not d p e h (inl n) = n h.0
merged_or_not d p e h (inr n) = n h.1

recorded_patched : (d p whole : Data) → (h : IsRecorded d p whole) → IsPatched d p h.1.2
recorded_patched d p whole h = (h.0, (h.1.0, h.1.3, h.1.4))

module _ (below : Below) where
  -- ---- what is read of a patch

  reads_once : (p : Data) (xs ys : List Operation) → ReadsPatch p xs → ReadsPatch p ys → xs ≡ ys
  reads_once p xs ys h k = elim (below.read_or_refused p) [
    | inl w ↦ w.1.alone xs h ∙ sym (w.1.alone ys k)
    | inr w ↦ absurd (w.2.never xs h)
  ]

  reads_not_refused : (p : Data) (ops : List Operation) (k : Option ℕ) (kind : ReadKind) → ReadsPatch p ops → RefusesPatch p k kind → ⊥
  reads_not_refused p ops k kind h r = elim (below.read_or_refused p) [
    | inl w ↦ w.1.nowhere k kind r
    | inr w ↦ w.2.never ops h
  ]

  unread_once : (p : Data) (e f : ReadError) → RefusesPatch p e.operation e.kind → RefusesPatch p f.operation f.kind → e ≡ f
  unread_once p e f h k = elim (below.read_or_refused p) [
    | inl w ↦ absurd (w.1.nowhere _ _ h)
    | inr w ↦
        let a = w.2.alone _ _ h in
        let b = w.2.alone _ _ k in
        read_error_same e f (a.0 ∙ sym b.0) (a.1 ∙ sym b.1)
  ]

  -- ---- how a run ends

  end_once : (d : Data) (ops : List Operation) → IsDocument d → AreWhole ops → (e f : Data) → Accepts d ops e → Accepts d ops f → e ≡ f
  end_once d ops document whole e f h k = elim (below.run_ends d ops document whole) [
    | inl w ↦ w.1.end e h ∙ sym (w.1.end f k)
    | inr w ↦ absurd (w.2.never e h)
  ]

  accepted_not_refused : (d : Data) (ops : List Operation) → IsDocument d → AreWhole ops → (e : Data) (k : ℕ) (kind : PatchErrorKind) → Accepts d ops e → RefusesAt d ops k kind → ⊥
  accepted_not_refused d ops document whole e k kind h r = elim (below.run_ends d ops document whole) [
    | inl w ↦ w.1.nowhere k kind r
    | inr w ↦ w.2.never e h
  ]

  -- ---- what a mode gives

  patched_once : (d p e f : Data) → IsPatched d p e → IsPatched d p f → e ≡ f
  patched_once d p e f h k =
      let same = reads_once p k.1.0 h.1.0 k.1.1 h.1.1 in
      end_once d h.1.0 h.0 (below.read_is_whole p h.1.0 h.1.1) e f h.1.2 (subst (λ os. Accepts d os f) same k.1.2)

  recorded_once : (d p v w : Data) → IsRecorded d p v → IsRecorded d p w → v ≡ w
  recorded_once d p v w h k =
      let ops = h.1.0 in
      let same = reads_once p k.1.0 ops k.1.3 h.1.3 in
      let end = patched_once d p h.1.2 k.1.2 (recorded_patched d p v h) (recorded_patched d p w k) in
      let exactly = below.inverse_is_computed d ops h.0 (below.read_is_whole p ops h.1.3) h.1.2 h.1.4 in
      let mine = (exactly h.1.1).0 h.1.5 in
      let other = (exactly k.1.1).0 (subst (λ os. IsInverse d os k.1.1) same k.1.5) in
      let undo = sym mine ∙ other in
      h.1.6 ∙ ap (λ e. array (item e (item (written_patch h.1.1) no_items))) end
      ∙ ap (λ os. array (item k.1.2 (item (written_patch os) no_items))) undo ∙ sym k.1.6

  merged_once : (d p e f : Data) → IsMergedWhole d p e → IsMergedWhole d p f → e ≡ f
  merged_once d p e f h k =
      let one = below.merged_is_one d p h.0 h.1 in
      one.3 e h.2 h.3 ∙ sym (one.3 f k.2 k.3)

  value_once : (mode : Mode) (d p e f : Data) → GivesValue mode d p e → GivesValue mode d p f → e ≡ f
  value_once Patch d p e f h k = patched_once d p e f h k
  value_once Record d p e f h k = recorded_once d p e f h k
  value_once Merge d p e f h k = merged_once d p e f h k
  value_once Edit d p e f h k = edited_once below d p e f h k

  cause_once : (d p : Data) (f g : ToolFault) → Cause d p f → Cause d p g → f ≡ g
  cause_once d p f g (inl a) (inl b) = a.0 ∙ sym b.0
  cause_once d p f g (inl a) (inr (inl b)) = absurd (a.1 b.2)
  cause_once d p f g (inl a) (inr (inr b)) = absurd (a.1 b.2)
  cause_once d p f g (inr (inl a)) (inl b) = absurd (b.1 a.2)
  cause_once d p f g (inr (inr a)) (inl b) = absurd (b.1 a.2)
  cause_once d p f g (inr (inl a)) (inr (inl b)) = a.1 ∙ ap Unreadable (unread_once p a.0 b.0 a.3 b.3) ∙ sym b.1
  cause_once d p f g (inr (inl a)) (inr (inr b)) = absurd (reads_not_refused p b.3.0 _ _ b.3.1 a.3)
  cause_once d p f g (inr (inr a)) (inr (inl b)) = absurd (reads_not_refused p a.3.0 _ _ a.3.1 b.3)
  cause_once d p f g (inr (inr a)) (inr (inr b)) =
      let same = reads_once p b.3.0 a.3.0 b.3.1 a.3.1 in
      let names = subst (λ os. NamesFirst d os b.0) same b.3.2 in
      a.1 ∙ ap Refused (one_refusal d a.3.0 a.0 b.0 (below.run_ends d a.3.0 a.2 (below.read_is_whole p a.3.0 a.3.1)) a.3.2 names) ∙ sym b.1

  fault_once : (mode : Mode) (d p : Data) (f g : ToolFault) → GivesFault mode d p f → GivesFault mode d p g → f ≡ g
  fault_once Patch d p f g h k = cause_once d p f g (cause d p f h) (cause d p g k)
  fault_once Record d p f g h k = cause_once d p f g (cause d p f h) (cause d p g k)
  fault_once Merge d p f g h k = (not_merged d p f h).0 ∙ sym (not_merged d p g k).0
  fault_once Edit d p f g h k = unedited_once below d p f g h k

  no_cause : (d p e : Data) (f : ToolFault) → IsPatched d p e → Cause d p f → ⊥
  no_cause d p e f h (inl a) = a.1 h.0
  no_cause d p e f h (inr (inl a)) = reads_not_refused p h.1.0 _ _ h.1.1 a.3
  no_cause d p e f h (inr (inr a)) =
      let same = reads_once p a.3.0 h.1.0 a.3.1 h.1.1 in
      let names = subst (λ os. NamesFirst d os a.0) same a.3.2 in
      accepted_not_refused d h.1.0 h.0 (below.read_is_whole p h.1.0 h.1.1) e _ _ h.1.2 names.0

  value_or_fault : (mode : Mode) (d p e : Data) (f : ToolFault) → GivesValue mode d p e → GivesFault mode d p f → ⊥
  value_or_fault Patch d p e f h k = no_cause d p e f h (cause d p f k)
  value_or_fault Record d p e f h k = no_cause d p _ f (recorded_patched d p e h) (cause d p f k)
  value_or_fault Merge d p e f h k = merged_or_not d p e h (not_merged d p f k).1
  value_or_fault Edit d p e f h k = edited_or_not below d p e f h k

-- ---- what the bytes say

says_once : (input : List ℕ) (d e : Data) → Says input d → Says input e → d ≡ e
says_once input d e h k = inside d (sym h.2 ∙ k.2)

-- the three causes for which they say no pair
abbrev NoPairCause : List ℕ → ToolFault → Type 0
NoPairCause input f = ((f ≡ TooLarge) × (MAX_INPUT < length input))
    ⊎ (((f ≡ Syntax) × (length input ≤ MAX_INPUT) × (IsUtf8 input → read input ≡ None))
    ⊎ ((f ≡ NotAPair) × ((whole : Data) × Says input whole × (pair_of whole ≡ None))))

within : (input : List ℕ) (d : Data) → Says input d → MAX_INPUT < length input → ⊥
within input d h k = omega (arith, h.0, k)

no_text : (input : List ℕ) (d : Data) → Says input d → (IsUtf8 input → read input ≡ None) → ⊥
no_text input d h k = let e = sym h.2 ∙ k h.1 in cc

no_pair_cause : (input : List ℕ) (f : ToolFault) → NoPair input f → NoPairCause input f
no_pair_cause input TooLarge h = inl (refl, h)
no_pair_cause input Syntax h = inr (inl (refl, h.0, h.1))
no_pair_cause input NotAPair h = inr (inr (refl, h))
no_pair_cause input f h = absurd h

no_pair_once : (input : List ℕ) (f g : ToolFault) → NoPairCause input f → NoPairCause input g → f ≡ g
no_pair_once input f g (inl a) (inl b) = a.0 ∙ sym b.0
no_pair_once input f g (inl a) (inr (inl b)) = absurd (omega (arith, a.1, b.1))
no_pair_once input f g (inl a) (inr (inr b)) = absurd (within input b.1.0 b.1.1 a.1)
no_pair_once input f g (inr (inl a)) (inl b) = absurd (omega (arith, a.1, b.1))
no_pair_once input f g (inr (inl a)) (inr (inl b)) = a.0 ∙ sym b.0
no_pair_once input f g (inr (inl a)) (inr (inr b)) = absurd (no_text input b.1.0 b.1.1 a.2)
no_pair_once input f g (inr (inr a)) (inl b) = absurd (within input a.1.0 a.1.1 b.1)
no_pair_once input f g (inr (inr a)) (inr (inl b)) = absurd (no_text input a.1.0 a.1.1 b.2)
no_pair_once input f g (inr (inr a)) (inr (inr b)) = a.0 ∙ sym b.0

pair_once : (input : List ℕ) (d p e q : Data) → SaysPair input d p → SaysPair input e q → (d ≡ e) × (p ≡ q)
pair_once input d p e q h k =
    let same = inside (d, p) (sym h.2 ∙ ap pair_of (says_once input h.0 k.0 h.1 k.1) ∙ k.2) in
    (ap (λ x. x.0) same, ap (λ x. x.1) same)

pair_or_not : (input : List ℕ) (d p : Data) (f : ToolFault) → SaysPair input d p → NoPairCause input f → ⊥
pair_or_not input d p f h (inl a) = within input h.0 h.1 a.1
pair_or_not input d p f h (inr (inl a)) = no_text input h.0 h.1 a.2
pair_or_not input d p f h (inr (inr a)) = let e = sym h.2 ∙ ap pair_of (says_once input h.0 a.1.0 h.1 a.1.1) ∙ a.1.2 in cc

-- ---- the answer

module _ (below : Below) (mode : Mode) (input : List ℕ) where
  line_once : (x y : List ℕ) → Answer mode input (Ok x) → Answer mode input (Ok y) → x ≡ y
  line_once x y h k =
      let same = pair_once input k.0 k.1 h.0 h.1 k.3 h.3 in
      let moved = subst (λ p. GivesValue mode h.0 p k.2) same.1 (subst (λ d. GivesValue mode d k.1 k.2) same.0 k.4) in
      h.5 ∙ ap line_of (value_once below mode h.0 h.1 h.2 k.2 h.4 moved) ∙ sym k.5

  line_or_fault : (x : List ℕ) (f : ToolFault) → Answer mode input (Ok x) → Answer mode input (Err f) → ⊥
  line_or_fault x f h (inl n) = pair_or_not input h.0 h.1 f h.3 (no_pair_cause input f n)
  line_or_fault x f h (inr k) =
      let same = pair_once input k.0 k.1 h.0 h.1 k.2 h.3 in
      let moved = subst (λ p. GivesFault mode h.0 p f) same.1 (subst (λ d. GivesFault mode d k.1 f) same.0 k.3) in
      value_or_fault below mode h.0 h.1 h.2 f h.4 moved

  refused_once : (f g : ToolFault) → Answer mode input (Err f) → Answer mode input (Err g) → f ≡ g
  refused_once f g (inl n) (inl m) = no_pair_once input f g (no_pair_cause input f n) (no_pair_cause input g m)
  refused_once f g (inl n) (inr k) = absurd (pair_or_not input k.0 k.1 f k.2 (no_pair_cause input f n))
  refused_once f g (inr h) (inl m) = absurd (pair_or_not input h.0 h.1 g h.2 (no_pair_cause input g m))
  refused_once f g (inr h) (inr k) =
      let same = pair_once input k.0 k.1 h.0 h.1 k.2 h.2 in
      let moved = subst (λ p. GivesFault mode h.0 p g) same.1 (subst (λ d. GivesFault mode d k.1 g) same.0 k.3) in
      fault_once below mode h.0 h.1 f g h.3 moved

  pub answered_once : (a b : Result (List ℕ) ToolFault) → Answer mode input a → Answer mode input b → a ≡ b
  answered_once (Ok x) (Ok y) h k = ap Ok (line_once x y h k)
  answered_once (Ok x) (Err g) h k = absurd (line_or_fault x g h k)
  answered_once (Err f) (Ok y) h k = absurd (line_or_fault y f k h)
  answered_once (Err f) (Err g) h k = ap Err (refused_once f g h k)

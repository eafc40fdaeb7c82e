-- A log of changes, undone from its end.
use Rattle.json_patch.proofs.Common.{◌≡◌, ◌++◌, ◌≤◌, ◌<◌, ℕ, suc, List, [], ◌∷◌, false, Option, Some, None, Result, Ok, Err, refl}
use Rattle.json_patch.proofs.Common.{◌+◌, add-one, get_or, length, drop, rules, arith, sym, subst, Data, StepFault, Refused, is_err}
use Rattle.json_patch_edit.specs.Exchange.{Exchanges}
use Rattle.json_patch_edit.specs.NoMemory.{NeverShort}
use Rattle.json_patch_edit.proofs.Exchanges.{fitting_more}
use Rattle.jsonptr.specs.Pointers.{tokens_of}
use Rattle.jsonptr.specs.declared.pointer.Pointer.{Pointer as PointerOf}
use Rattle.json_patch.specs.Logged.{IsRoomyFrom, AreRoomy, IsRoomy, IsUndone, LeadsBack}
use Rattle.json_patch_edit.specs.declared.edits.Found.{Found}
use Rattle.json_patch_edit.specs.declared.error.StepFault.TheVariants.{Memory}
use Rattle.json_patch.specs.declared.log.Change.{Change}

-- an exchange that was wanted, and that memory wasn't short for
pub exchanged : (r : Result Found StepFault) (wanted : Option Data) (F : Found → Data → Type 0) (d e v w p : Data) → wanted ≡ Some p → NeverShort r → Exchanges r wanted F d e v w → (e ≡ p) × ((found : Found) × F found w) × (is_err r ≡ false)
exchanged (Ok found) wanted F d e v w p is light h = let same : e ≡ p = cc in (same, (found, h.1), refl)
exchanged (Err (Refused kind)) wanted F d e v w p is light h = let none : wanted ≡ None = h.0.1 in cc
exchanged (Err (Memory error)) wanted F d e v w p is light h = absurd light

-- ---- a log

pub leads_pushed : (log : List Change) (c : Change) (q r p : Data) → IsUndone c q r → LeadsBack log r p → LeadsBack (log ++ c ∷ []) q p
leads_pushed [] c q r p undone back = (q, refl, subst (IsUndone c q) back undone)
leads_pushed (b ∷ log) c q r p undone back = (back.0, leads_pushed log c q r back.0 undone back.1, back.2)

pub leads_popped : (log : List Change) (c : Change) (q p : Data) → LeadsBack (log ++ c ∷ []) q p → (r : Data) × IsUndone c q r × LeadsBack log r p
leads_popped [] c q p back = let same : q ≡ back.0 = back.1 in (p, subst (λ x. IsUndone c x p) (sym same) back.2, refl)
leads_popped (b ∷ log) c q p back = let more = leads_popped log c q back.0 back.1 in (more.0, more.1, (back.0, more.2, back.2))

pub roomy_popped : (n : ℕ) (log : List Change) (c : Change) → AreRoomy n (log ++ c ∷ []) → AreRoomy n log × IsRoomy n c
roomy_popped n [] c h = (tt, h.0)
roomy_popped n (b ∷ log) c h = let more = roomy_popped n log c h.1 in ((h.0, more.0), more.1)

fitting_from : (n m : ℕ) (F : Option PointerOf) → n ≤ m → IsRoomyFrom n F → IsRoomyFrom m F
fitting_from n m None le h = tt
fitting_from n m (Some F) le h = fitting_more n m (tokens_of F) le h

pub roomy_more : (n m : ℕ) (log : List Change) → n ≤ m → AreRoomy n log → AreRoomy m log
roomy_more n m [] le h = tt
roomy_more n m (c ∷ log) le h = ((fitting_more n m (tokens_of c.path) le h.0.0, fitting_from n m c.from le h.0.1), roomy_more n m log le h.1)

pub roomy_pushed : (n : ℕ) (log : List Change) (c : Change) → AreRoomy n log → IsRoomy n c → AreRoomy n (log ++ c ∷ [])
roomy_pushed n [] c h r = (r, tt)
roomy_pushed n (b ∷ log) c h r = (h.0, roomy_pushed n log c h.1 r)

-- of what is left of a list, its next change, and what is left after that
roomy_split : (n : ℕ) (cs : List Change) (k : ℕ) (c : Change) → k < length cs → c ≡ get_or cs k c → AreRoomy n (drop k cs) → IsRoomy n c × AreRoomy n (drop (suc k) cs)
roomy_split n (x ∷ cs) (suc k) c less is h = roomy_split n cs k c (omega arith) is h
roomy_split n cs k c less is h = search rules

pub roomy_next : (n : ℕ) (cs : List Change) (k : ℕ) (c : Change) → k < length cs → c ≡ get_or cs k c → AreRoomy n (drop k cs) → IsRoomy n c × AreRoomy n (drop (k + 1) cs)
roomy_next n cs k c less is h = subst (λ j. IsRoomy n c × AreRoomy n (drop j cs)) (sym (add-one k)) (roomy_split n cs k c less is h)

-- An operation as a change of its container, to which all tokens but the last lead.
use Rattle.json_patch_laws.proofs.Common.{common_steps, ◌≡◌, ℕ, List, [], ◌∷◌, ◌++◌, not, true, false, Bool, IsTrue, Option}
use Rattle.json_patch_laws.proofs.Common.{Some, None, option_map, option_and_then, Err, refl, sym, ap, ◌∙◌, rules, arith}
use Rattle.json_patch_laws.proofs.Common.{append_cancel_left, Data, Pointer, IsProperPrefix, child, move, segment_of}
use Rattle.json_patch_laws.proofs.Common.{set_child, take_from, after_change, after_remove, after_replace, after_step}
use Rattle.json_patch_laws.proofs.Common.{InvalidFromPointer, CannotMoveInsideItself, undo_add, undo_in, pointee}
use Rattle.std.specs.Prelude.{◌↔◌}
use Rattle.json_patch_edit.proofs.Locations.{split_is}
use Rattle.json_patch_edit.proofs.StepOutcomes.{prefix_begins, not_begins}

-- ---- what is computed of the container

pub no_last : (F : Pointer) (t : List ℕ) → [] ≡ F ++ t ∷ [] → ⊥
no_last F t is = grind (arith, common_steps)

pub removed_in : (d : Data) (P F : Pointer) (t : List ℕ) → P ≡ F ++ t ∷ [] → after_remove d P ≡ after_change (take_from t) d F
removed_in d P F t is = search (rules, no_last, split_is)

altered-append : (g : Data → Option Data) (d : Data) (F Q : Pointer) → after_change (λ c. after_change g c Q) d F ≡ after_change g d (F ++ Q)
altered-append g d [] Q = refl
altered-append g d (s ∷ F) Q = λ i. option_and_then (λ r. option_and_then (λ c. option_map (λ e. set_child r e d) (altered-append g c F Q i)) (child r d)) (segment_of d s)

pub replaced_in : (d : Data) (P F : Pointer) (t : List ℕ) (v : Data) → P ≡ F ++ t ∷ [] → after_replace d P v ≡ after_change (λ c. after_change (λ x. Some v) c (t ∷ [])) d F
replaced_in d P F t v is = ap (after_change (λ x. Some v) d) is ∙ sym (altered-append (λ x. Some v) d F (t ∷ []))

-- ---- what undoes an add

pub undo_add_in : (d : Data) (P F : Pointer) (t : List ℕ) → P ≡ F ++ t ∷ [] → undo_add d P ≡ undo_in d F t P (pointee d F)
undo_add_in d P F t is = search (rules, no_last, split_is)

-- ---- a move

pub move_inside : (d : Data) (F P : Pointer) → IsProperPrefix F P → after_step d (move F P) ≡ Err CannotMoveInsideItself
move_inside d F P h = rw (prefix_begins F P h)

pub move_nowhere : (d : Data) (F P : Pointer) → (IsProperPrefix F P → ⊥) → after_remove d F ≡ None → after_step d (move F P) ≡ Err InvalidFromPointer
move_nowhere d F P out none = rw (not_begins F P out, none) (search rules)

pub not_inside : (F P : Pointer) → (IsTrue false ↔ IsProperPrefix F P) → IsProperPrefix F P → ⊥
not_inside F P h p = let yes : false ≡ true = h.1 p in cc

-- How deep the values are that an inverse holds, and how deep a patch is as a value.
use Rattle.json_patch_laws.proofs.Common.{◌≡◌, ◌≤◌, ◌+◌, List, [], ◌∷◌, ◌++◌, length, Option, Some, None, refl, sym, subst, arith, ℕ, suc, option_map}
use Rattle.json_patch_laws.proofs.Common.{Bool, Data, array, Pointer, IsDocument, Operation, add, remove, replace, move, copy, test, AreWhole, Accepts, IsInverse}
use Rattle.json_patch_laws.proofs.Common.{pointee, after_remove, front_of, last_of, undo_in, undo_add, undo_at, with_found, block, inverse}
use Rattle.std.specs.Prelude.{map}
use Rattle.serde_json.specs.Data.{depth, items_depth, members_depth}
use Rattle.serde_json.specs.View.{items_of}
use Rattle.json_patch_limits.proofs.Depths.{put_depth}
use Rattle.json_patch_operation.specs.PatchValue.{all_fields, field_if, part_fields, pointer_text, sorted_members, written_patch, written_value}
use Rattle.json_patch_operation.specs.Operation.{Parts}
use Rattle.json_patch_operation.specs.Operation.{parts_of}
use Rattle.json_patch_edit.proofs.StepOutcomes.{leaves_document}
use Rattle.json_patch_laws.proofs.Blocks.{inverse_accepted, inverse_only, inverse_step}
use Rattle.json_patch_laws.proofs.LimitedRuns.{never_rest, under_first}
use Rattle.json_patch_limits.proofs.Depths.{found_depth, remove_depth_at, step_depth}
use Rattle.json_patch_limits.specs.OverLimits.{AreShallow, IsUnder, NeverOver, left_of, levels_of}
use Rattle.json_patch_limits.specs.OverLimitsComputed.{over}
use Rattle.json_patch_limits.specs.declared.limits.Limits.{Limits}

-- ---- an operation that puts back what was there

found_levels : (d : Data) (P : Pointer) (o : Option Data) (b : ℕ) → pointee d P ≡ o → depth d ≤ b → levels_of o ≤ b
found_levels d P None b is h = omega arith
found_levels d P (Some v) b is h = let g : length P + depth v ≤ depth d = found_depth d v P is in omega arith

undo_at_levels : (P : Pointer) (o : Option Data) (b : ℕ) → levels_of o ≤ b → levels_of (parts_of (undo_at P o)).value ≤ b
undo_at_levels P None b h = omega arith
undo_at_levels P (Some w) b h = h

undo_in_levels : (d : Data) (front : Pointer) (last : List ℕ) (P : Pointer) (o : Option Data) (b : ℕ) → depth d ≤ b → levels_of (parts_of (undo_in d front last P o)).value ≤ b
undo_in_levels d front last P (Some (array ds)) b h = omega arith
undo_in_levels d front last P o b h = undo_at_levels P (pointee d P) b (found_levels d P (pointee d P) b refl h)

undo_add_levels : (d : Data) (P : Pointer) (b : ℕ) → depth d ≤ b → levels_of (parts_of (undo_add d P)).value ≤ b
undo_add_levels d [] b h = h
undo_add_levels d (t ∷ P) b h = undo_in_levels d (front_of t P) (last_of t P) (t ∷ P) (pointee d (front_of t P)) b h

-- ---- a block

found_shallow : (d : Data) (P : Pointer) (f : Data → List Operation) (o : Option Data) (b : ℕ) → pointee d P ≡ o → depth d ≤ b → ((w : Data) → depth w ≤ b → AreShallow b (f w)) → AreShallow b (with_found o f)
found_shallow d P f None b is h each = tt
found_shallow d P f (Some w) b is h each = each w (found_levels d P (Some w) b is h)

left_shallow : (d : Data) (F : Pointer) (f : Data → List Operation) (o : Option Data) (b : ℕ) → after_remove d F ≡ o → depth d ≤ b → ((m : Data) → depth m ≤ b → AreShallow b (f m)) → AreShallow b (with_found o f)
left_shallow d F f None b is h each = tt
left_shallow d F f (Some m) b is h each = each m (remove_depth_at d m F b is h)

block_shallow : (d : Data) (op : Operation) (b : ℕ) → depth d ≤ b → AreShallow b (block d op)
block_shallow d (add P v) b h = (undo_add_levels d P b h, tt)
block_shallow d (remove P) b h = found_shallow d P (λ w. add P w ∷ []) (pointee d P) b refl h (λ w g. (g, tt))
block_shallow d (replace P v) b h = found_shallow d P (λ w. replace P w ∷ []) (pointee d P) b refl h (λ w g. (g, tt))
block_shallow d (move F P) b h =
    found_shallow d F (λ v. with_found (after_remove d F) (λ m. undo_add m P ∷ add F v ∷ [])) (pointee d F) b refl h (λ v g.
    left_shallow d F (λ m. undo_add m P ∷ add F v ∷ []) (after_remove d F) b refl h (λ m hm. (undo_add_levels m P b hm, (g, tt))))
block_shallow d (copy F P) b h = (undo_add_levels d P b h, tt)
block_shallow d (test P v) b h = tt

-- ---- a list

joined_shallow : (b : ℕ) (xs ys : List Operation) → AreShallow b xs → AreShallow b ys → AreShallow b (xs ++ ys)
joined_shallow b [] ys h g = g
joined_shallow b (op ∷ xs) ys h g = (h.0, joined_shallow b xs ys h.1 g)

computed_shallow : (b : Bool) (l : Limits) (d : Data) (ops : List Operation) (e : Data) → IsDocument d → AreWhole ops → NeverOver b l d ops → depth d ≤ l.depth → Accepts d ops e → AreShallow l.depth (inverse d ops)
computed_shallow b l d [] e hd hv never h run = tt
computed_shallow b l d (op ∷ ops) e hd hv never h run =
    let under : IsUnder b l d op = under_first b l d op ops never (over b l d op) refl in
    let hm : IsDocument run.0 = leaves_document d op run.0 hd hv.0 run.1 in
    subst (AreShallow l.depth) (sym (inverse_step d op ops run.0 hd hv.0 run.1))
    (joined_shallow l.depth (inverse run.0 ops) (block d op)
    (computed_shallow b (left_of b l d op) run.0 ops e hm hv.1 (never_rest b l d op ops run.0 never run.1) (step_depth d op run.0 l.depth hd hv.0 run.1 h under.0) run.2)
    (block_shallow d op l.depth h))

-- no value of an inverse is deeper than the limit
pub inverse_shallow : (b : Bool) (l : Limits) (d : Data) (ops I : List Operation) → IsDocument d → AreWhole ops → NeverOver b l d ops → depth d ≤ l.depth → IsInverse d ops I → AreShallow l.depth I
inverse_shallow b l d ops I hd hv never h is =
    let run = inverse_accepted d ops I is in
    subst (AreShallow l.depth) (sym (inverse_only d ops I hd hv is)) (computed_shallow b l d ops run.0 hd hv never h run.1)

-- ---- as a value

-- the members have at most b levels
abbrev AreLow : ℕ → List (List ℕ × Data) → Type 0
AreLow b [] = Unit {0}
AreLow b (f ∷ fs) = (depth f.1 ≤ b) × AreLow b fs

sorted_depth : (b : ℕ) (fs : List (List ℕ × Data)) → AreLow b fs → members_depth (sorted_members fs) ≤ b
sorted_depth b [] h = omega arith
sorted_depth b (f ∷ fs) h = put_depth f.0 f.1 (sorted_members fs) b (sorted_depth b fs h.1) h.0

low_joined : (b : ℕ) (fs gs : List (List ℕ × Data)) → AreLow b fs → AreLow b gs → AreLow b (fs ++ gs)
low_joined b [] gs h g = g
low_joined b (f ∷ fs) gs h g = (h.0, low_joined b fs gs h.1 g)

low_if : (b : ℕ) (name : List ℕ) (o : Option Data) → levels_of o ≤ b → AreLow b (field_if name o)
low_if b name None h = tt
low_if b name (Some v) h = (h, tt)

low_pointer : (b : ℕ) (name : List ℕ) (o : Option Pointer) → AreLow b (field_if name (option_map pointer_text o))
low_pointer b name None = tt
low_pointer b name (Some P) = (omega arith, tt)

low_parts : (b : ℕ) (p : Parts) → levels_of p.value ≤ b → AreLow b (part_fields p)
low_parts b p h = low_joined b _ _ (low_pointer b _ p.from) (omega arith, low_if b _ p.value h)

written_value_depth : (b : ℕ) (op : Operation) → levels_of (parts_of op).value ≤ b → depth (written_value op) ≤ suc b
written_value_depth b op h =
    let m : members_depth (sorted_members (all_fields op)) ≤ b = sorted_depth b (all_fields op) (omega arith, low_parts b (parts_of op) h) in omega arith

written_items_depth : (b : ℕ) (ops : List Operation) → AreShallow b ops → items_depth (items_of (map written_value ops)) ≤ suc b
written_items_depth b [] h = omega arith
written_items_depth b (op ∷ ops) h =
    let here : depth (written_value op) ≤ suc b = written_value_depth b op h.0 in
    let more : items_depth (items_of (map written_value ops)) ≤ suc b = written_items_depth b ops h.1 in omega arith

pub written_depth : (b : ℕ) (ops : List Operation) → AreShallow b ops → depth (written_patch ops) ≤ b + 2
written_depth b ops h = let g : items_depth (items_of (map written_value ops)) ≤ suc b = written_items_depth b ops h in omega arith

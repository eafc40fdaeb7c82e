-- What undoes an operation on what is seen, by what its edits found in a marked document.
use Rattle.json_patch.proofs.Common.{◌≡◌, ℕ, false, Segment, segment_of, List, [], ◌∷◌, ◌++◌, Option, Some, None}
use Rattle.json_patch.proofs.Common.{option_map, option_and_then, refl, sym, ap, ◌∙◌, subst, rules, Data, array, object}
use Rattle.json_patch.proofs.Common.{child, pointee, drop_child, set_child, after_remove, front_of, last_of, Pointer}
use Rattle.json_patch.proofs.Common.{move, add, path_of, undo_in, undo_add, undo_at, block}
use Rattle.json_patch_edit.specs.declared.edits.Edit.{Edit}
use Rattle.json_patch_edit.specs.declared.edits.Edit.TheVariants.{Insert, Take, Remove, Swap}
use Rattle.json_patch_edit.specs.declared.edits.Found.{Found}
use Rattle.json_patch_edit.specs.declared.edits.Found.TheVariants.{Nothing, Former, Taken}
use Rattle.json_patch_edit.proofs.Locations.{split_whole}
use Rattle.json_patch_edit.proofs.Locations.{found_append}
use Rattle.json_patch_edit.proofs.Marked.{shown_some}
use Rattle.json_patch_edit.proofs.MarkedChanges.{found_seen, shown_there, stands_at, shown_is, corr_some}
use Rattle.json_patch_edit.proofs.MarkedRuns.{found_value}
use Rattle.json_patch.proofs.MarkedEdits.{changed_there, where_seen}
use Rattle.json_patch_edit.specs.Marked.{is_mark, shown, seen, IsValue, IsSeen, mark_child}
use Rattle.json_patch_edit.specs.Exchange.{made, made_where, Finds, FindsWhere}
use Rattle.json_patch_edit.specs.SeenEdits.{Suits, IsTaking, WantsValue, seen_where, operation_at, undo_found, IsUndoneBy}

-- ---- the value that an edit found

value_shown : (s : Segment) (t : List ℕ) (p c w : Data) → segment_of p t ≡ Some s → shown (child s p) ≡ Some c → pointee p (t ∷ []) ≡ Some w → is_mark w ≡ false
value_shown s t p c w named there finds =
    let h = shown_some (child s p) c there in
    let both : ◌≡◌ {A = Option Data} (Some c) (Some w) = sym h.0 ∙ stands_at p t s w named finds in
    let same : c ≡ w = cc in sym (ap is_mark same) ∙ h.1

-- in the container
value_in : (edit : Edit) (v : Data) (t : List ℕ) (p q : Data) (found : Found) (w : Data) → WantsValue edit → Finds edit t p found w → made edit v t p ≡ Some q → (pointee p (t ∷ []) ≡ Some w) × (is_mark w ≡ false)
value_in Take v t p q Taken w he finds is = (finds, shown_there (mark_child v) t p q _ is (λ s c named there whole. value_shown s t p c w named there finds))
value_in Remove v t p q Taken w he finds is = (finds, shown_there drop_child t p q _ is (λ s c named there whole. value_shown s t p c w named there finds))
value_in Swap v t p q Former w he finds is = (finds, shown_there (λ s d. set_child s v d) t p q _ is (λ s c named there whole. value_shown s t p c w named there finds))
value_in edit v t p q found w he finds is = search rules

found_last : (d c : Data) (P F : Pointer) (t : List ℕ) → P ≡ F ++ t ∷ [] → pointee d F ≡ Some c → pointee d P ≡ pointee c (t ∷ [])
found_last d c P F t is at = ap (pointee d) is ∙ found_append d F (t ∷ []) ∙ ap (option_and_then (λ x. pointee x (t ∷ []))) at

-- is a value, and what is seen of it is what is seen at its place
pub found_there : (edit : Edit) (v p q : Data) (P : Pointer) (found : Found) (w : Data) → WantsValue edit → IsValue p → FindsWhere edit p P found w → made_where edit v p P ≡ Some q → (pointee (seen p) P ≡ Some (seen w)) × IsValue w
found_there Take v p q [] found w he hp finds is = cc
found_there Remove v p q [] found w he hp finds is = cc
found_there Swap v p q [] Former w he hp finds is = (ap (λ x. Some (seen x)) (sym finds), subst IsValue (sym finds) hp)
found_there edit v p q (t ∷ P) found w he hp finds is =
    let there = changed_there (made edit v (last_of t P)) p q finds.0 (front_of t P) finds.1 is in
    let at = value_in edit v (last_of t P) finds.0 there.0 found w he finds.2 there.1 in
    let stands : shown (pointee p (t ∷ P)) ≡ Some w = shown_is (pointee p (t ∷ P)) w (found_last p finds.0 (t ∷ P) (front_of t P) (last_of t P) (split_whole t P) finds.1 ∙ at.0) at.1 in
    (found_seen p (t ∷ P) hp ∙ ap (option_map seen) stands, found_value p w (t ∷ P) hp.0 stands)
found_there edit v p q P found w he hp finds is = search rules

-- ---- what undoes an add

path_kept : (P : Pointer) (o : Option Data) → path_of (undo_at P o) ≡ P
path_kept P o = search rules

at_path : (P : Pointer) (o : Option Data) → undo_at P o ≡ undo_at (path_of (undo_at P o)) o
at_path P o = ap (λ Q. undo_at Q o) (sym (path_kept P o))

insert_undoes_in : (p c w : Data) (found : Found) (P F : Pointer) (t : List ℕ) → IsValue p → P ≡ F ++ t ∷ [] → pointee p F ≡ Some c → Finds Insert t c found w
    → undo_in (seen p) F t P (option_map seen (shown (Some c))) ≡ undo_found (path_of (undo_in (seen p) F t P (option_map seen (shown (Some c))))) found w
insert_undoes_in p (array ds) w Nothing P F t hp is at finds = refl
insert_undoes_in p (object ms) w Nothing P F t hp is at finds =
    let none : pointee (seen p) P ≡ None = found_seen p P hp ∙ ap (λ o. option_map seen (shown o)) (found_last p (object ms) P F t is at ∙ finds) in rw none refl
insert_undoes_in p (object ms) w Former P F t hp is at finds =
    let some : pointee (seen p) P ≡ option_map seen (shown (Some w)) = found_seen p P hp ∙ ap (λ o. option_map seen (shown o)) (found_last p (object ms) P F t is at ∙ finds) in
    rw some (at_path P (option_map seen (shown (Some w))))
insert_undoes_in p c w found P F t hp is at finds = search rules

pub insert_undoes : (p : Data) (P : Pointer) (found : Found) (w : Data) → IsValue p → FindsWhere Insert p P found w → undo_add (seen p) P ≡ undo_found (path_of (undo_add (seen p) P)) found w
insert_undoes p [] Former w hp finds = rw (finds, hp.1) refl
insert_undoes p (t ∷ P) found w hp finds =
    rw (found_seen p (front_of t P) hp, finds.1) (insert_undoes_in p finds.0 w found (t ∷ P) (front_of t P) (last_of t P) hp (split_whole t P) finds.1 finds.2)
insert_undoes p P found w hp finds = search rules

-- ---- what undoes an operation of one edit

pub edit_undoes : (edit : Edit) (v x p q : Data) (P : Pointer) (found : Found) (w : Data) → Suits edit v → IsValue p → FindsWhere edit p P found w → made_where edit v p P ≡ Some q → IsUndoneBy (seen p) (operation_at edit P x) found w
edit_undoes Insert v x p q P found w hv hp finds is = ap (λ u. u ∷ []) (insert_undoes p P found w hp finds)
edit_undoes Take v x p q [] found w hv hp finds is = cc
edit_undoes Take v x p q (t ∷ P) Taken w hv hp finds is = rw (found_there Take v p q (t ∷ P) Taken w tt hp finds is).0 refl
edit_undoes Remove v x p q [] found w hv hp finds is = cc
edit_undoes Remove v x p q (t ∷ P) Taken w hv hp finds is = rw (found_there Remove v p q (t ∷ P) Taken w tt hp finds is).0 refl
edit_undoes Swap v x p q [] Former w hv hp finds is = rw (finds, hp.1) refl
edit_undoes Swap v x p q (t ∷ P) Former w hv hp finds is = let there = found_there Swap v p q (t ∷ P) Former w tt hp finds is in rw (there.0, there.1.1) refl
edit_undoes edit v x p q P found w hv hp finds is = search rules

-- ---- a move

takes_seen : (edit : Edit) (v d : Data) (F : Pointer) → IsTaking edit → seen_where edit v d F ≡ after_remove d F
takes_seen edit v d F he = search rules

pub taken_seen : (edit : Edit) (v p q : Data) (F : Pointer) → IsTaking edit → Suits edit v → IsValue p → made_where edit v p F ≡ Some q → (after_remove (seen p) F ≡ Some (seen q)) × IsValue q
taken_seen edit v p q F he hv hp is =
    let got = corr_some IsSeen _ _ q (where_seen edit v p F hv hp) is in
    (sym (takes_seen edit (seen v) (seen p) F he) ∙ got.1 ∙ ap Some (sym got.2.is), (got.2.marked, got.2.stands))

takes_value : (edit : Edit) → IsTaking edit → WantsValue edit
takes_value edit he = search rules

-- from p the value w at F is taken, which leaves q, and u is found where it is put in
pub move_undoes : (edit : Edit) (v p q : Data) (F P : Pointer) (found f : Found) (w u : Data) → IsTaking edit → Suits edit v → IsValue p → FindsWhere edit p F found w → made_where edit v p F ≡ Some q → FindsWhere Insert q P f u
    → block (seen p) (move F P) ≡ undo_found (path_of (undo_add (seen q) P)) f u ∷ add F (seen w) ∷ []
move_undoes edit v p q F P found f w u he hv hp finds is puts =
    let there = found_there edit v p q F found w (takes_value edit he) hp finds is in
    let left = taken_seen edit v p q F he hv hp is in
    rw (there.0, left.0) (ap (λ o. o ∷ add F (seen w) ∷ []) (insert_undoes q P f u left.1 puts))

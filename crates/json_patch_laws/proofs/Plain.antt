-- An inverse holds `add`, `remove` and `replace` alone, and no `-` for an index of an array.
use Rattle.json_patch_laws.proofs.Common.{◌≡◌, ℕ, List, [], ◌∷◌, ◌++◌, append_assoc, Option, Some, None, option_and_then, Ok}
use Rattle.json_patch_laws.proofs.Common.{refl, sym, ap, ◌∙◌, subst, rules, option_and_then_some, Data, array, Items}
use Rattle.json_patch_laws.proofs.Common.{Pointer, next_token, IsDocument, child, Operation, add, remove, replace, move}
use Rattle.json_patch_laws.proofs.Common.{copy, test, IsWholeOp, AreWhole, Leaves, Accepts, segment_of, set_child, take_from}
use Rattle.json_patch_laws.proofs.Common.{pointee, after_change, after_remove, front_of, last_of, after_step, undo_at}
use Rattle.json_patch_laws.proofs.Common.{undo_in, undo_add, block, inverse, next_is_no_place, NamesNoNext, IsPlain}
use Rattle.json_patch_laws.proofs.Common.{ArePlain, IsInverse}
use Rattle.json_patch_laws.proofs.Blocks.{inverse_only, block_back, block_whole, inverse_back, inverse_step, inverse_whole}
use Rattle.json_patch_document.proofs.Members.{child_set}
use Rattle.json_patch_edit.proofs.Changes.{added_exact, removed_exact}
use Rattle.json_patch_document.proofs.Children.{step_of_set}
use Rattle.json_patch_edit.proofs.Locations.{found_append}
use Rattle.json_patch_edit.proofs.BlocksLeadBack.{undo_added}
use Rattle.json_patch_laws.proofs.Parents.{removed_in}
use Rattle.json_patch_edit.proofs.Locations.{option_map_some, split_whole}
use Rattle.json_patch_laws.proofs.Runs.{accepted, accepts_document, accepts_ran}
use Rattle.json_patch_edit.proofs.StepOutcomes.{leaves_document, leaves_stepped, removed_document, stands_document}
use Rattle.json_patch_edit.proofs.StepOutcomes.{stands_found}

-- ---- what stands at a pointer after a change

-- what the change makes stands where it was made
found_changed : (f : Data → Option Data) (d : Data) (P : Pointer) (e : Data) → after_change f d P ≡ Some e → (p q : Data) × (f p ≡ Some q) × (pointee e P ≡ Some q)
found_changed f d [] e is = (d, e, is, refl)
found_changed f d (t ∷ P) e is =
    option_and_then_some _ (segment_of d t) e is (λ s named more.
    option_and_then_some _ (child s d) e more (λ c stands rest.
    option_map_some _ (after_change f c P) e rest (λ b inner whole.
    (let i : (p q : Data) × (f p ≡ Some q) × (pointee b P ≡ Some q) = found_changed f c P b inner in
    let named_still : segment_of (set_child s b d) t ≡ Some s = step_of_set s d b t ∙ named in
    let there : pointee (set_child s b d) (t ∷ P) ≡ Some i.1 = rw (named_still, child_set s d c b stands) i.3 in
    (i.0, i.1, i.2, subst (λ x. pointee x (t ∷ P) ≡ Some i.1) whole there)))))

-- ---- `-` in an array

-- in an array nothing stands at `-`
next_nowhere : (d : Data) (F R : Pointer) (ds : Items) → pointee d F ≡ Some (array ds) → pointee d (F ++ next_token ∷ R) ≡ None
next_nowhere d F R ds at = search (rules, found_append, option_and_then, next_is_no_place)

-- and nothing is taken there
next_untaken : (p : Data) (ds : Items) → take_from next_token p ≡ Some (array ds) → ⊥
next_untaken p ds is = search (rules, next_is_no_place, option_map_some)

-- a pointer that resolves holds no such `-`
plain_found : (d : Data) (P : Pointer) (c : Data) → pointee d P ≡ Some c → NamesNoNext d P
plain_found d P c is F R ds whole stands = search (rules, next_nowhere d F R ds (stands_found d F (array ds) stands), stands_found d F (array ds) stands, next_nowhere, stands_found)

-- nor does one from which a value was removed
plain_removed : (d : Data) (P : Pointer) (m : Data) → after_remove d P ≡ Some m → NamesNoNext m P
plain_removed d P m is F [] ds whole stands =
    let i = found_changed (take_from next_token) d F m (sym (removed_in d P F next_token whole) ∙ is) in
    next_untaken i.0 ds (i.2 ∙ sym i.3 ∙ stands_found m F (array ds) stands)
plain_removed d P m is F (t ∷ R) ds whole stands =
    let G = F ++ next_token ∷ front_of t R in
    let parts : P ≡ G ++ last_of t R ∷ [] =
    whole ∙ ap (λ Q. F ++ next_token ∷ Q) (split_whole t R) ∙ sym (append_assoc F (next_token ∷ front_of t R) (last_of t R ∷ [])) in
    let i = found_changed (take_from (last_of t R)) d G m (sym (removed_in d P G (last_of t R) parts) ∙ is) in
    plain_found m G i.1 i.3 F (front_of t R) ds refl stands

-- ---- blocks

-- `remove` and `replace` are plain where they are accepted
undo_at_plain : (m : Data) (P : Pointer) (o : Option Data) (e : Data) → Leaves m (undo_at P o) e → IsPlain m (undo_at P o)
undo_at_plain m P None e h = plain_found m P h.2 (stands_found m P h.2 (h.0 ++ h.1 ∷ [], h.3))
undo_at_plain m P (Some w) e h = plain_found m P h.1 (stands_found m P h.1 (h.0, h.2))

undo_in_plain : (m d : Data) (F : Pointer) (t : List ℕ) (P : Pointer) (o : Option Data) (e : Data) → Leaves m (undo_in d F t P o) e → IsPlain m (undo_in d F t P o)
undo_in_plain m d F t P (Some (array ds)) e h = undo_at_plain m _ None e h
undo_in_plain m d F t P o e h = undo_at_plain m P (pointee d P) e h

-- what undoes an add is plain where it is accepted
undo_add_plain : (m d : Data) (P : Pointer) (e : Data) → Leaves m (undo_add d P) e → IsPlain m (undo_add d P)
undo_add_plain m d [] e h = undo_at_plain m [] (Some d) e h
undo_add_plain m d (t ∷ P) e h = undo_in_plain m d (front_of t P) (last_of t P) (t ∷ P) (pointee d (front_of t P)) e h

undo_one : (e d : Data) (P : Pointer) → Accepts e (undo_add d P ∷ []) d → ArePlain e (undo_add d P ∷ [])
undo_one e d P h = (h.0, undo_add_plain e d P h.0 h.1, h.1, tt)

-- the block of an accepted operation is plain on what that left
block_plain : (d : Data) (op : Operation) (e : Data) → IsDocument d → IsWholeOp op → Leaves d op e → ArePlain e (block d op)
block_plain d (add P v) e hd hv h = undo_one e d P (block_back d (add P v) e hd hv h)
block_plain d (remove P) e hd hv h =
    let same : block d (remove P) ≡ add P h.2 ∷ [] = rw (stands_found d P h.2 (h.0 ++ h.1 ∷ [], h.3)) refl in
    let back : Accepts e (add P h.2 ∷ []) d = subst (λ B. Accepts e B d) same (block_back d (remove P) e hd hv h) in
    subst (ArePlain e) (sym same) (back.0, plain_removed d P e (removed_exact d P e hd h), back.1, tt)
block_plain d (replace P v) e hd hv h =
    let same : block d (replace P v) ≡ replace P h.1 ∷ [] = rw (stands_found d P h.1 (h.0, h.2)) refl in
    let back : Accepts e (replace P h.1 ∷ []) d = subst (λ B. Accepts e B d) same (block_back d (replace P v) e hd hv h) in
    subst (ArePlain e) (sym same) (back.0, undo_at_plain e P (Some h.1) back.0 back.1, back.1, tt)
block_plain d (move F P) e hd hv h =
    let v = h.1.0 in let m = h.1.1 in
    let hw : IsDocument v = stands_document d F v hd h.1.2 in
    let hm : IsDocument m = removed_document d F m h.1.3 in
    let gone : after_remove d F ≡ Some m = removed_exact d F m hd h.1.3 in
    let same : block d (move F P) ≡ undo_add m P ∷ add F v ∷ [] = rw (stands_found d F v h.1.2, gone) refl in
    let back : Accepts e (undo_add m P ∷ add F v ∷ []) d = subst (λ B. Accepts e B d) same (block_back d (move F P) e hd hv h) in
    let whole : AreWhole (undo_add m P ∷ add F v ∷ []) = subst AreWhole same (block_whole d (move F P) e hd hv h) in
    let to_m : after_step e (undo_add m P) ≡ Ok m = undo_added m P v e hm hw (added_exact m P v e hm hw h.1.4) in
    let to_state : after_step e (undo_add m P) ≡ Ok back.0 = leaves_stepped e (undo_add m P) back.0 (leaves_document d (move F P) e hd hv h) whole.0 back.1 in
    let state : m ≡ back.0 = cc in
    subst (ArePlain e) (sym same)
    (back.0, undo_add_plain e m P back.0 back.1, back.1, (back.2.0, subst (λ x. NamesNoNext x F) state (plain_removed d F m gone), back.2.1, tt))
block_plain d (copy F P) e hd hv h = undo_one e d P (block_back d (copy F P) e hd hv h)
block_plain d (test P v) e hd hv h = tt

-- ---- lists

-- two lists one after the other, the second on the one end of the first
plain_joined : (d : Data) (xs ys : List Operation) (m : Data) → ((e : Data) → Accepts d xs e → e ≡ m) → ArePlain d xs → ArePlain m ys → ArePlain d (xs ++ ys)
plain_joined d [] ys m end h g = subst (λ x. ArePlain x ys) (sym (end d refl)) g
plain_joined d (op ∷ xs) ys m end h g = (h.0, h.1, h.2, plain_joined h.0 xs ys m (λ e a. end e (h.0, h.2, a)) h.3 g)

-- the inverse of an accepted list is plain on the end
pub inverse_plain : (d : Data) (ops : List Operation) (e : Data) → IsDocument d → AreWhole ops → Accepts d ops e → ArePlain e (inverse d ops)
inverse_plain d [] e hd hv h = tt
inverse_plain d (op ∷ ops) e hd hv h =
    let m = h.0 in
    let hm : IsDocument m = leaves_document d op m hd hv.0 h.1 in
    let he : IsDocument e = accepts_document m ops e hm hv.1 h.2 in
    let whole : AreWhole (inverse m ops) = inverse_whole m ops e hm hv.1 h.2 in
    let to_m = accepted e (inverse m ops) he whole m (accepts_ran e (inverse m ops) m he whole (inverse_back m ops e hm hv.1 h.2)) in
    subst (ArePlain e) (sym (inverse_step d op ops m hd hv.0 h.1))
    (plain_joined e (inverse m ops) (block d op) m to_m.end (inverse_plain m ops e hm hv.1 h.2) (block_plain d op m hd hv.0 h.1))

-- so is each inverse that the definitions name
pub inverse_is_plain : (d : Data) (ops : List Operation) → IsDocument d → AreWhole ops → (e : Data) (I : List Operation) → Accepts d ops e → IsInverse d ops I → ArePlain e I
inverse_is_plain d ops hd hv e I h g = subst (ArePlain e) (sym (inverse_only d ops I hd hv g)) (inverse_plain d ops e hd hv h)

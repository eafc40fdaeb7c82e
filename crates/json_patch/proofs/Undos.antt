-- Where what undoes an add works.
use Rattle.json_patch.proofs.Common.{◌≡◌, ℕ, List, ◌∷◌, sym, ◌∙◌, rules}
use Rattle.json_patch.proofs.Common.{[], ◌++◌, Option, Some, None, Result, Ok, Err, IfOk}
use Rattle.json_patch.proofs.Common.{ap, append_assoc, Data, Pointer, ReplacesLast, next_token, decimal_token, pointee}
use Rattle.json_patch.proofs.Common.{settled_token, undo_add, undo_in, path_of, count_in, AllocError}
use Rattle.json_patch_edit.proofs.Locations.{split_is, split_whole}
use Rattle.json_patch_laws.proofs.Parents.{no_last}

settled_other : (o : Option Data) (t : List ℕ) → (t ≡ next_token → ⊥) → settled_token o t ≡ t
settled_other o t other = search rules

settled_last : (o : Option Data) → count_in o ≡ None → settled_token o next_token ≡ next_token
settled_last o h = search rules

settled_next : (o : Option Data) (n : ℕ) → count_in o ≡ Some n → settled_token o next_token ≡ decimal_token n
settled_next o n h = search rules

place_in : (d : Data) (F : Pointer) (t : List ℕ) (P : Pointer) (o : Option Data) → P ≡ F ++ t ∷ [] → path_of (undo_in d F t P o) ≡ F ++ settled_token o t ∷ []
place_in d F t P o is = search rules

-- the last token is settled by what stands where the tokens before it lead
place_settled : (d : Data) (P F : Pointer) (t : List ℕ) → P ≡ F ++ t ∷ [] → path_of (undo_add d P) ≡ F ++ settled_token (pointee d F) t ∷ []
place_settled d P F t is = search (rules, no_last, split_is, place_in, split_whole)

pub place_other : (d : Data) (P F : Pointer) (t : List ℕ) → P ≡ F ++ t ∷ [] → (t ≡ next_token → ⊥) → P ≡ path_of (undo_add d P)
place_other d P F t is other = is ∙ ap (λ u. F ++ u ∷ []) (sym (settled_other (pointee d F) t other)) ∙ sym (place_settled d P F t is)

pub place_no_list : (d : Data) (P F : Pointer) (t : List ℕ) → P ≡ F ++ t ∷ [] → t ≡ next_token → None ≡ count_in (pointee d F) → P ≡ path_of (undo_add d P)
place_no_list d P F t is next none = search (rules, settled_last (pointee d F) (sym none), place_settled d P F t is, settled_last, place_settled)

-- the place, where P is S and then R
pub place_numbered : (r : Result Pointer AllocError) (d : Data) (S P R F : Pointer) (t u : List ℕ) (n : ℕ) → P ≡ S ++ R → R ≡ F ++ t ∷ [] → t ≡ next_token → Some n ≡ count_in (pointee d F) → u ≡ decimal_token n → IfOk r (ReplacesLast P u)
    → IfOk r (λ Q. Q ≡ S ++ path_of (undo_add d R))
place_numbered (Ok Q) d S P R F t u n whole is next count named at = search (rules, append_assoc S F (t ∷ []), append_assoc S F (u ∷ []), settled_next (pointee d F) n (sym count), place_settled d R F t is, append_assoc, settled_next, place_settled)
place_numbered (Err e) d S P R F t u n whole is next count named at = at

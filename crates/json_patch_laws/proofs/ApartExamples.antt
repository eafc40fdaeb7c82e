-- Pointers that diverge are not enough where an array grows.
use Rattle.json_patch_laws.proofs.Common.{◌≡◌, [], ◌∷◌, ◌++◌, ap, Bool, true, false, bytes_eq, sym, ◌∙◌, IsDocument}
use Rattle.json_patch_laws.proofs.Common.{IsWholeOp, path_of, Accepts, Ok, Err, Data, array, item, no_items, null, refl}
use Rattle.json_patch_laws.proofs.Common.{Operation, add, replace, InvalidPointer, fault, after_run, next_token, Pointer}
use Rattle.jsonptr.specs.Places.{place_of}
use Rattle.json_patch_apart.specs.Apart.{Diverge}
use Rattle.json_patch_laws.proofs.Runs.{accepts_ran, ran_accepts}
use Rattle.json_patch_laws.proofs.ApartRuns.{not_both_ends}

abbrev at_0 : Pointer
at_0 = (48 ∷ []) ∷ []

-- `add /-` and then `replace /0`, on an empty array, and the other way round
put_last : after_run (array no_items) (add (next_token ∷ []) null ∷ replace at_0 null ∷ []) ≡ Ok (array (item null no_items))
unfolding place_of
put_last = refl

none_there : after_run (array no_items) (replace at_0 null ∷ add (next_token ∷ []) null ∷ []) ≡ Err (fault 0 InvalidPointer)
unfolding place_of
none_there = refl

abbrev begins_0 : Pointer → Bool
begins_0 [] = false
begins_0 (t ∷ P) = bytes_eq t (48 ∷ [])

pub not_enough : ((d : Data) (x y : Operation) (e : Data) → IsDocument d → IsWholeOp x → IsWholeOp y → Diverge (path_of x) (path_of y) → Accepts d (x ∷ y ∷ []) e → Accepts d (y ∷ x ∷ []) e) → ⊥
not_enough law =
    let x : Operation = add (next_token ∷ []) null in
    let y : Operation = replace at_0 null in
    let there : Accepts (array no_items) (x ∷ y ∷ []) (array (item null no_items)) = ran_accepts (array no_items) (x ∷ y ∷ []) (array (item null no_items)) tt (tt, (tt, tt)) put_last in
    let back : Accepts (array no_items) (y ∷ x ∷ []) (array (item null no_items)) = law (array no_items) x y (array (item null no_items)) tt tt tt ((λ h. not_one h.0 h.1), (λ h. not_other h.0 h.1)) there in
    let is : after_run (array no_items) (y ∷ x ∷ []) ≡ Ok (array (item null no_items)) = accepts_ran (array no_items) (y ∷ x ∷ []) (array (item null no_items)) tt (tt, (tt, tt)) back in
    not_both_ends (array (item null no_items)) (fault 0 InvalidPointer) (sym is ∙ none_there)
  where
    not_one : (R : Pointer) → at_0 ≡ (next_token ∷ []) ++ R → ⊥
    not_one R h = let e : true ≡ false = ap begins_0 h in cc

    not_other : (R : Pointer) → next_token ∷ [] ≡ at_0 ++ R → ⊥
    not_other R h = let e : false ≡ true = ap begins_0 h in cc

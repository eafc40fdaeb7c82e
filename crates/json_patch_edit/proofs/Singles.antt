-- A list in pieces of one element, turned by one place.
use Rattle.std.proofs.Common.{◌≡◌, ℕ, zero, suc, ◌+◌, ◌-◌, ◌<◌, ◌≤◌, List, [], ◌∷◌, ◌++◌, length, take, drop, refl, sym, ap, ap₂, subst, ◌∙◌, arith, get_or}
use Rattle.std.specs.List.{flat_map, insert, remove}
use Rattle.std.specs.Simd.{first_chunks}
use Rattle.std.proofs.lemmas.Grind.{flat_map-append}
use Rattle.std.proofs.lemmas.List.{take-append-le, drop-append-le, length-drop, length-append}
use Rattle.std.proofs.lemmas.List.Edits.{length-remove}
use Rattle.std.proofs.Math.Seq.{take-append_seam, drop-append_seam}

pub flat-take : {X : Type 0} (k : ℕ) (xs : List X) → flat_map (λ x. x) (take k (first_chunks 1 (length xs) xs)) ≡ take k xs
flat-take zero xs = refl
flat-take (suc k) [] = refl
flat-take (suc k) (x ∷ xs) = ap (λ (l : List _). x ∷ l) (flat-take k xs)

pub flat-drop : {X : Type 0} (k : ℕ) (xs : List X) → flat_map (λ x. x) (drop k (first_chunks 1 (length xs) xs)) ≡ drop k xs
flat-drop zero [] = refl
flat-drop zero (x ∷ xs) = ap (λ (l : List _). x ∷ l) (flat-drop zero xs)
flat-drop (suc k) [] = refl
flat-drop (suc k) (x ∷ xs) = flat-drop k xs

-- the pieces turned are the list turned
pub turned : {X : Type 0} (k n : ℕ) (xs : List X) → n ≡ length xs → flat_map (λ x. x) (drop k (first_chunks 1 n xs) ++ take k (first_chunks 1 n xs)) ≡ drop k xs ++ take k xs
turned k n xs e = subst (λ (m : ℕ). flat_map (λ x. x) (drop k (first_chunks 1 m xs) ++ take k (first_chunks 1 m xs)) ≡ drop k xs ++ take k xs) (sym e)
    (flat_map-append (λ x. x) (drop k (first_chunks 1 (length xs) xs)) (take k (first_chunks 1 (length xs) xs)) ∙ ap₂ ◌++◌ (flat-drop k xs) (flat-take k xs))

-- the first of the rest goes to the end
first-goes : {X : Type 0} (i : ℕ) (xs : List X) (d : X) → i < length xs → take i xs ++ (drop 1 (drop i xs) ++ take 1 (drop i xs)) ≡ remove xs i ++ get_or xs i d ∷ []
first-goes i [] d h = absurd (omega arith)
first-goes zero (x ∷ xs) d h = refl
first-goes (suc i) (x ∷ xs) d h = ap (λ (l : List _). x ∷ l) (first-goes i xs d (omega arith))

-- the last goes before the rest
last-goes : {X : Type 0} (i : ℕ) (ys : List X) (y : X) → i ≤ length ys
    → take i (ys ++ y ∷ []) ++ (drop (length ys - i) (drop i (ys ++ y ∷ [])) ++ take (length ys - i) (drop i (ys ++ y ∷ []))) ≡ insert ys i y
last-goes i ys y h =
    let rest : drop i (ys ++ y ∷ []) ≡ drop i ys ++ y ∷ [] = drop-append-le i ys (y ∷ []) h in
    let n : ℕ = length ys - i in
    let long : n ≡ length (drop i ys) = sym (length-drop i ys) in
    ap₂ ◌++◌ (take-append-le i ys (y ∷ []) h)
    (ap (λ (l : List _). drop n l ++ take n l) rest ∙ ap (λ (m : ℕ). drop m (drop i ys ++ y ∷ []) ++ take m (drop i ys ++ y ∷ [])) long
    ∙ ap₂ ◌++◌ (drop-append_seam (drop i ys) (y ∷ [])) (take-append_seam (drop i ys) (y ∷ [])))

-- what `to_last` leaves
pub to_last_is : {X : Type 0} (i n : ℕ) (xs front : List X) (pieces after : List (List X)) (d : X) → i < length xs → n ≡ length xs - i
    → front ≡ take i xs → pieces ≡ first_chunks 1 n (drop i xs) → after ≡ drop 1 pieces ++ take 1 pieces
    → front ++ flat_map (λ x. x) after ≡ remove xs i ++ get_or xs i d ∷ []
to_last_is i n xs front pieces after d h e f p a =
    ap₂ ◌++◌ f (ap (flat_map (λ x. x)) (a ∙ ap (λ (l : List (List _)). drop 1 l ++ take 1 l) p) ∙ turned 1 n (drop i xs) (e ∙ sym (length-drop i xs)))
    ∙ first-goes i xs d h

-- what `last_to` leaves
pub last_to_is : {X : Type 0} (i n k : ℕ) (xs ys front : List X) (pieces after : List (List X)) (y : X) → i < length xs → n ≡ length xs - i → k ≡ n - 1
    → front ≡ take i xs → pieces ≡ first_chunks 1 n (drop i xs) → after ≡ drop k pieces ++ take k pieces → xs ≡ ys ++ y ∷ []
    → front ++ flat_map (λ x. x) after ≡ insert ys i y
last_to_is i n k xs ys front pieces after y h e ek f p a x =
    let long : length xs ≡ length ys + 1 = ap length x ∙ length-append ys (y ∷ []) in
    let le : i ≤ length ys = omega arith in
    let less : k ≡ length ys - i = omega arith in
    ap₂ ◌++◌ f (ap (flat_map (λ x. x)) (a ∙ ap (λ (l : List (List _)). drop k l ++ take k l) p) ∙ turned k n (drop i xs) (e ∙ sym (length-drop i xs)))
    ∙ ap (λ (l : List _). take i l ++ (drop k (drop i l) ++ take k (drop i l))) x
    ∙ ap (λ (m : ℕ). take i (ys ++ y ∷ []) ++ (drop m (drop i (ys ++ y ∷ [])) ++ take m (drop i (ys ++ y ∷ [])))) less
    ∙ last-goes i ys y le

-- ---- a Vec of n elements, all written anew
same-long : {X : Type 0} (n : ℕ) (ws xs : List X) → length ws ≡ n → take n (ws ++ drop (length ws) xs) ≡ ws
same-long n ws xs e = subst (λ (m : ℕ). take m (ws ++ drop (length ws) xs) ≡ ws) e (take-append_seam ws (drop (length ws) xs))

removed-long : {X : Type 0} (xs : List X) (i : ℕ) (y : X) → i < length xs → length (remove xs i ++ y ∷ []) ≡ length xs
removed-long xs i y h = let a = length-append (remove xs i) (y ∷ []) in let b = length-remove xs i h in omega arith

-- what `remove_at` leaves
pub removed_is : {X : Type 0} (i n : ℕ) (xs ws left : List X) (r : X) → i < length xs → n ≡ length xs
    → ((d : X) → ws ≡ remove xs i ++ get_or xs i d ∷ [])
    → take n (ws ++ drop (length ws) xs) ≡ left ++ r ∷ []
    → left ≡ remove xs i
removed_is i n xs ws left r h e w cut =
    let x : _ = get_or xs i r in
    let is : left ++ r ∷ [] ≡ remove xs i ++ x ∷ [] = sym cut ∙ same-long n ws xs (ap length (w r) ∙ removed-long xs i x h ∙ sym e) ∙ w r in
    let a : length (left ++ r ∷ []) ≡ length left + 1 = length-append left (r ∷ []) in
    let b : length (remove xs i ++ x ∷ []) ≡ length (remove xs i) + 1 = length-append (remove xs i) (x ∷ []) in
    let c : length (left ++ r ∷ []) ≡ length (remove xs i ++ x ∷ []) = ap length is in
    let long : length left ≡ length (remove xs i) = omega arith in
    sym (take-append_seam left (r ∷ [])) ∙ ap₂ take long is ∙ take-append_seam (remove xs i) (x ∷ [])

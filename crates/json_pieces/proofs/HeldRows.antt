-- What is held of a row: its parts by number.
use Rattle.std.proofs.Common.{◌≡◌, ℕ, zero, suc, ◌<◌, ◌≤◌, Bool, List, [], ◌∷◌, ◌++◌, length, get_or, map, refl, sym, ap, ap₂, ◌∙◌, arith}
use Rattle.std.specs.Prelude.{slice_set}
use Rattle.std.specs.List.{insert, remove}
use Rattle.json_pieces.specs.Backs.{Frame, row_in}
use Rattle.json_pieces.specs.Held.{Head, Held, Helds, and_more, held_row, held_text, helds, no_more}
use Rattle.json_pieces.specs.declared.seams.Seam.{Seam}
use Rattle.json_pieces.specs.declared.text.Text.{Text}

-- ---- lists

pub get_seam : {A : Type 0} (xs : List A) (y : A) (ys : List A) (d : A) → get_or (xs ++ (y ∷ ys)) (length xs) d ≡ y
get_seam [] y ys d = refl
get_seam (x ∷ xs) y ys d = get_seam xs y ys d

pub seam_within : {A : Type 0} (xs : List A) (y : A) (ys : List A) → length xs < length (xs ++ (y ∷ ys))
seam_within [] y ys = omega arith
seam_within (x ∷ xs) y ys = let more = seam_within xs y ys in omega arith

pub insert_taken : {A : Type 0} (xs : List A) (n : ℕ) (x : A) → n ≤ length xs → remove (insert xs n x) n ≡ xs
insert_taken [] zero x h = refl
insert_taken [] (suc n) x h = absurd (omega arith)
insert_taken (y ∷ xs) zero x h = refl
insert_taken (y ∷ xs) (suc n) x h = ap (λ l. y ∷ l) (insert_taken xs n x (omega arith))

pub insert_there : {A : Type 0} (xs : List A) (n : ℕ) (x d : A) → n ≤ length xs → get_or (insert xs n x) n d ≡ x
insert_there [] zero x d h = refl
insert_there [] (suc n) x d h = absurd (omega arith)
insert_there (y ∷ xs) zero x d h = refl
insert_there (y ∷ xs) (suc n) x d h = insert_there xs n x d (omega arith)

pub insert_within : {A : Type 0} (xs : List A) (n : ℕ) (x : A) → n ≤ length xs → n < length (insert xs n x)
insert_within [] zero x h = omega arith
insert_within [] (suc n) x h = absurd (omega arith)
insert_within (y ∷ xs) zero x h = omega arith
insert_within (y ∷ xs) (suc n) x h = let more = insert_within xs n x (omega arith) in omega arith

pub map_remove : {A B : Type 0} (f : A → B) (xs : List A) (n : ℕ) → map f (remove xs n) ≡ remove (map f xs) n
map_remove f [] zero = refl
map_remove f [] (suc n) = refl
map_remove f (x ∷ xs) zero = refl
map_remove f (x ∷ xs) (suc n) = ap (λ l. f x ∷ l) (map_remove f xs n)

pub map_insert : {A B : Type 0} (f : A → B) (xs : List A) (n : ℕ) (x : A) → map f (insert xs n x) ≡ insert (map f xs) n (f x)
map_insert f [] zero x = refl
map_insert f [] (suc n) x = refl
map_insert f (y ∷ xs) zero x = refl
map_insert f (y ∷ xs) (suc n) x = ap (λ l. f y ∷ l) (map_insert f xs n x)

pub map_set : {A B : Type 0} (f : A → B) (xs : List A) (n : ℕ) (x : A) → map f (slice_set xs n x) ≡ slice_set (map f xs) n (f x)
map_set f [] n x = refl
map_set f (y ∷ xs) zero x = refl
map_set f (y ∷ xs) (suc n) x = ap (λ l. f y ∷ l) (map_set f xs n x)

pub map_get : {A B : Type 0} (f : A → B) (xs : List A) (n : ℕ) (d : A) → f (get_or xs n d) ≡ get_or (map f xs) n (f d)
map_get f [] n d = refl
map_get f (y ∷ xs) zero d = refl
map_get f (y ∷ xs) (suc n) d = map_get f xs n d

pub map_count : {A B : Type 0} (f : A → B) (xs : List A) → length (map f xs) ≡ length xs
map_count f [] = refl
map_count f (x ∷ xs) = ap suc (map_count f xs)

-- ---- what is held of a row

unhelds : Helds → List Held
unhelds no_more = []
unhelds (and_more t ts) = t ∷ unhelds ts

un_helds : (ts : List Held) → unhelds (helds ts) ≡ ts
unfolding unhelds
un_helds [] = refl
un_helds (t ∷ ts) = ap (λ l. t ∷ l) (un_helds ts)

pub values_same : (g h : Head) (ts us : List Held) → held_row g (helds ts) ≡ held_row h (helds us) → ts ≡ us
values_same g h ts us e = let same : helds ts ≡ helds us = cc in sym (un_helds ts) ∙ ap unhelds same ∙ un_helds us

pub heads_same : (g h : Head) (ts us : List Held) → held_row g (helds ts) ≡ held_row h (helds us) → g ≡ h
heads_same g h ts us e = cc

pub row_same : (b : Bool) (k sr vr : ℕ) (h : Text) (ss : List Seam) (ts : List Held) (f : Frame) (k2 : ℕ) (h2 : Text) (ss2 : List Seam) (ts2 : List Held) → b ≡ f.named → k ≡ k2 → sr ≡ f.seams_room → vr ≡ f.values_room → h ≡ h2 → ss ≡ ss2 → ts ≡ ts2
    → held_row (record { named = b; length = k; seams_room = sr; values_room = vr; hollow = h; seams = ss }) (helds ts) ≡ row_in f k2 h2 ss2 ts2
row_same b k sr vr h ss ts f k2 h2 ss2 ts2 eb ek es ev eh el et =
    ap₂ (λ x y. held_row (record { named = x; length = y; seams_room = sr; values_room = vr; hollow = h; seams = ss }) (helds ts)) eb ek
    ∙ ap₂ (λ x y. held_row (record { named = f.named; length = k2; seams_room = x; values_room = y; hollow = h; seams = ss }) (helds ts)) es ev
    ∙ ap₂ (λ x y. held_row (record { named = f.named; length = k2; seams_room = f.seams_room; values_room = f.values_room; hollow = x; seams = y }) (helds ts)) eh el
    ∙ ap (λ x. held_row (record { named = f.named; length = k2; seams_room = f.seams_room; values_room = f.values_room; hollow = h2; seams = ss2 }) (helds x)) et

pub no_row : (s : Text) (h : Head) (ts : Helds) → held_text s ≡ held_row h ts → ⊥
no_row s h ts e = cc

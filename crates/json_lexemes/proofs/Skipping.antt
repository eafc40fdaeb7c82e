-- Counting brackets passes over exactly one value.
use Rattle.std.proofs.Common.{◌≡◌, ◌≤◌, ℕ, zero, suc, List, [], ◌∷◌, ◌++◌, length, length-append, refl, ap, ◌∙◌, arith, append_assoc}
use Rattle.std.proofs.lemmas.List.{append_cancel_right}
use Rattle.json.specs.Json.{Json, null, boolean, number, string, array, object, Items, no_items, item, Members, no_members, member}
use Rattle.json.specs.Lex.{Lexeme}
use Rattle.json_lexemes.specs.Spelled.{spelled, first_elements, more_elements, first_members, more_members}
use Rattle.json_lexemes.specs.Skipped.{depth_after, if_open, skip}

mutual
  unfolding skip

  pub skip-spelled : (v : Json) (n : ℕ) (ls : List Lexeme) → skip n (spelled v ++ ls) ≡ if_open n ls (skip n ls)
  skip-spelled null n ls = refl
  skip-spelled (boolean b) n ls = refl
  skip-spelled (number s) n ls = refl
  skip-spelled (string s) n ls = refl
  skip-spelled (array js) n ls = skip-first_elements js n ls
  skip-spelled (object ms) n ls = skip-first_members ms n ls

  skip-first_elements : (js : Items) (n : ℕ) (ls : List Lexeme) → skip (suc n) (first_elements js ++ ls) ≡ if_open n ls (skip n ls)
  skip-first_elements no_items n ls = refl
  skip-first_elements (item j js) n ls = ap (skip (suc n)) (append_assoc (spelled j) (more_elements js) ls) ∙ skip-spelled j (suc n) (more_elements js ++ ls) ∙ skip-more_elements js n ls

  pub skip-more_elements : (js : Items) (n : ℕ) (ls : List Lexeme) → skip (suc n) (more_elements js ++ ls) ≡ if_open n ls (skip n ls)
  skip-more_elements no_items n ls = refl
  skip-more_elements (item j js) n ls = ap (skip (suc n)) (append_assoc (spelled j) (more_elements js) ls) ∙ skip-spelled j (suc n) (more_elements js ++ ls) ∙ skip-more_elements js n ls

  skip-first_members : (ms : Members) (n : ℕ) (ls : List Lexeme) → skip (suc n) (first_members ms ++ ls) ≡ if_open n ls (skip n ls)
  skip-first_members no_members n ls = refl
  skip-first_members (member k j ms) n ls = ap (skip (suc n)) (append_assoc (spelled j) (more_members ms) ls) ∙ skip-spelled j (suc n) (more_members ms ++ ls) ∙ skip-more_members ms n ls

  skip-more_members : (ms : Members) (n : ℕ) (ls : List Lexeme) → skip (suc n) (more_members ms ++ ls) ≡ if_open n ls (skip n ls)
  skip-more_members no_members n ls = refl
  skip-more_members (member k j ms) n ls = ap (skip (suc n)) (append_assoc (spelled j) (more_members ms) ls) ∙ skip-spelled j (suc n) (more_members ms ++ ls) ∙ skip-more_members ms n ls

-- from where a value begins, what is left is what follows it
pub skip-value : (v : Json) (ls : List Lexeme) → skip 0 (spelled v ++ ls) ≡ ls
skip-value v ls = skip-spelled v 0 ls

-- ---- what is passed before more lexemes is passed without them, if all of those are left

if_less : (d : ℕ) (ls : List Lexeme) → length (skip d ls) ≤ length ls → length (if_open d ls (skip d ls)) ≤ length ls
if_less zero ls h = omega arith
if_less (suc d) ls h = h

skip_less : (n : ℕ) (ls : List Lexeme) → length (skip n ls) ≤ length ls
unfolding skip
skip_less n [] = omega arith
skip_less n (l ∷ ls) = let less = if_less (depth_after n l) ls (skip_less (depth_after n l) ls) in omega (arith, less)

pub skip_before : (n : ℕ) (xs ys ls : List Lexeme) → skip n (xs ++ ls) ≡ ys ++ ls → skip n xs ≡ ys
unfolding skip
skip_before n [] [] ls e = refl
skip_before n [] (y ∷ ys) [] e = let never = ap length e in absurd (omega (arith, never))
skip_before n [] (y ∷ ys) (l ∷ ls) e = let less = if_less (depth_after n l) ls (skip_less (depth_after n l) ls) in absurd (omega (arith, less, ap length e, length-append ys (l ∷ ls)))
skip_before n (x ∷ xs) ys ls e = by_depth (depth_after n x) (λ m. skip_before m xs ys ls) e
  where
    by_depth : (d : ℕ) → ((m : ℕ) → skip m (xs ++ ls) ≡ ys ++ ls → skip m xs ≡ ys) → if_open d (xs ++ ls) (skip d (xs ++ ls)) ≡ ys ++ ls → if_open d xs (skip d xs) ≡ ys
    by_depth zero f g = append_cancel_right xs ys ls g
    by_depth (suc d) f g = f (suc d) g

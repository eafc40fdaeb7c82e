-- A name is shorter than its text, and as long as what stands between the quotes only where it is that.
use Rattle.std.proofs.Common.{◌≡◌, ◌≤◌, ◌<◌, ◌+◌, ◌-◌, ℕ, zero, suc, Bool, true, false, cond, List, [], ◌∷◌, ◌++◌, drop, get_or, length, length-append, eqb-true, Option, Some, None, option_and_then, refl, sym, ap, ◌∙◌, arith}
use Rattle.std.specs.Char.{encode_utf8}
use Rattle.std.specs.Bool.{◌==◌}
use Rattle.std.specs.Prelude.{nat_lt, not}
use Rattle.std.proofs.lemmas.Bool.{eq-eqb, false≢true, not-true}
use Rattle.std.proofs.lemmas.List.{get_or_append_left}
use Rattle.std.proofs.lemmas.Option.{none-some, same_Some}
use Rattle.json.specs.Json.{string}
use Rattle.json.specs.Text.{code_unit, content, is_high_surrogate, is_low_surrogate, plain, after_backslash, after_high, after_u, prepend, short_escape, surrogate_pair, Within}
use Rattle.json_text.specs.Listing.{IsTextOf}
use Rattle.json_text.proofs.Rows.Pieces.{name_content}

-- ---- where something comes from

module _ {P : Type 0} (k : List ℕ) where
  of_either : (b : Bool) (x y : Option (List ℕ)) → cond b x y ≡ Some k → (b ≡ true → x ≡ Some k → P) → (b ≡ false → y ≡ Some k → P) → P
  of_either true x y e f g = f refl e
  of_either false x y e f g = g refl e

  of_found : (o : Option ℕ) (f : ℕ → Option (List ℕ)) → option_and_then f o ≡ Some k → ((u : ℕ) → f u ≡ Some k → P) → P
  of_found None f e g = absurd (none-some k e)
  of_found (Some u) f e g = g u e

  of_prepended : (bs : List ℕ) (o : Option (List ℕ)) → prepend bs o ≡ Some k → ((m : List ℕ) → o ≡ Some m → k ≡ bs ++ m → P) → P
  of_prepended bs None e g = absurd (none-some k e)
  of_prepended bs (Some m) e g = g m refl (sym (same_Some (bs ++ m) k e))

  of_none : None ≡ Some k → P
  of_none e = absurd (none-some k e)

encoded : (u : ℕ) → length (encode_utf8 u) ≤ 4
unfolding encode_utf8
encoded u = grind arith

longer : (bs k m xs : List ℕ) (n : ℕ) → k ≡ bs ++ m → length m + 1 ≤ length xs → length bs + length xs ≤ n → length k + 1 ≤ n
longer bs k m xs n e h l = omega (arith, ap length e, length-append bs m, h, l)

-- ---- a string's content and the quote behind it

shorter : (w : Within) (s k : List ℕ) → content w s ≡ Some k → length k + 1 ≤ length s
unfolding content
shorter plain [] k e = of_none k e
shorter plain (x ∷ xs) k e =
    of_either k (x == 34) _ _ e (λ q f. omega (arith, ap length (same_Some [] k f)))
    (λ q f. of_either k (x == 92) _ _ f (λ b g. let r = shorter after_backslash xs k g in omega (arith, r))
    (λ b g. of_either k (nat_lt x 32) _ _ g (λ c. of_none k)
    (λ c h. of_prepended k (x ∷ []) _ h (λ m is more. longer (x ∷ []) k m xs _ more (shorter plain xs m is) (omega arith)))))
shorter after_backslash [] k e = of_none k e
shorter after_backslash (x ∷ xs) k e =
    of_either k (x == 117) _ _ e (λ u f. let r = shorter after_u xs k f in omega (arith, r))
    (λ u f. of_found k (short_escape x) _ f (λ c g. of_prepended k (c ∷ []) _ g (λ m is more. longer (c ∷ []) k m xs _ more (shorter plain xs m is) (omega arith))))
shorter after_u [] k e = of_none k e
shorter after_u (a ∷ []) k e = of_none k e
shorter after_u (a ∷ b ∷ []) k e = of_none k e
shorter after_u (a ∷ b ∷ c ∷ []) k e = of_none k e
shorter after_u (a ∷ b ∷ c ∷ d ∷ xs) k e =
    of_found k (code_unit a b c d) _ e (λ u f. of_either k (is_high_surrogate u) _ _ f (λ h g. let r = shorter (after_high u) xs k g in omega (arith, r))
    (λ h g. of_either k (is_low_surrogate u) _ _ g (λ l. of_none k)
    (λ l i. of_prepended k (encode_utf8 u) _ i (λ m is more. longer (encode_utf8 u) k m xs _ more (shorter plain xs m is) (omega (arith, encoded u))))))
shorter (after_high h) [] k e = of_none k e
shorter (after_high h) (s ∷ []) k e = of_none k e
shorter (after_high h) (s ∷ u ∷ []) k e = of_none k e
shorter (after_high h) (s ∷ u ∷ a ∷ []) k e = of_none k e
shorter (after_high h) (s ∷ u ∷ a ∷ b ∷ []) k e = of_none k e
shorter (after_high h) (s ∷ u ∷ a ∷ b ∷ c ∷ []) k e = of_none k e
shorter (after_high h) (s ∷ u ∷ a ∷ b ∷ c ∷ d ∷ xs) k e =
    of_either k _ _ _ e (λ y f. of_found k (code_unit a b c d) _ f (λ l g. of_either k (is_low_surrogate l) _ _ g
    (λ z i. of_prepended k (encode_utf8 (surrogate_pair h l)) _ i (λ m is more. longer (encode_utf8 (surrogate_pair h l)) k m xs _ more (shorter plain xs m is) (omega (arith, encoded (surrogate_pair h l)))))
    (λ z. of_none k))) (λ y. of_none k)

ending : (ys : List ℕ) (y : ℕ) (m : List ℕ) → [] ≡ m → y ≡ 34 → length (y ∷ ys) ≡ length m + 1 → y ∷ ys ≡ m ++ 34 ∷ []
ending [] y m none is l = ap (λ z. z ∷ []) is ∙ ap (λ n. n ++ 34 ∷ []) none
ending (z ∷ ys) y m none is l = absurd (omega (arith, l, ap length none))

-- with no byte to spare it stands there itself
as_it_stands : (s k : List ℕ) → content plain s ≡ Some k → length s ≡ length k + 1 → s ≡ k ++ 34 ∷ []
unfolding content
as_it_stands [] k e l = of_none k e
as_it_stands (x ∷ xs) k e l =
    of_either k (x == 34) _ _ e (λ q f. ending xs x k (same_Some [] k f) (eqb-true x 34 q) l)
    (λ q f. of_either k (x == 92) _ _ f (λ b g. let r = shorter after_backslash xs k g in absurd (omega (arith, r, l)))
    (λ b g. of_either k (nat_lt x 32) _ _ g (λ c. of_none k)
    (λ c h. of_prepended k (x ∷ []) _ h (λ m is more. ap (λ y. x ∷ y) (as_it_stands xs m is (omega (arith, l, ap length more))) ∙ ap (λ y. y ++ 34 ∷ []) (sym more)))))

-- ---- a name's text

after_quote : (s k : List ℕ) → content plain (drop 1 s) ≡ Some k → (length k + 2 ≤ length s) × (length s ≡ length k + 2 → drop 1 s ≡ k ++ 34 ∷ [])
after_quote [] k e = absurd (let r = shorter plain [] k e in omega (arith, r))
after_quote (x ∷ xs) k e = (let r = shorter plain xs k e in omega (arith, r), λ l. as_it_stands xs k e (omega (arith, l)))

pub too_short : (s k name : List ℕ) → IsTextOf s (string k) → length s < length name + 2 → k ≡ name → ⊥
too_short s k name h l e = omega (arith, l, (after_quote s k (name_content s k h)).0, ap length e)

pub other_end : (s k name : List ℕ) → IsTextOf s (string k) → length s ≡ length name + 2 → 0 < length name → (get_or s (length name) 0 ≡ get_or name (length name - 1) 0 → ⊥) → k ≡ name → ⊥
other_end s k name h l some other e =
    let rest : drop 1 s ≡ name ++ 34 ∷ [] = (after_quote s k (name_content s k h)).1 (omega (arith, l, ap length e)) ∙ ap (λ n. n ++ 34 ∷ []) e in
    other (behind s (length name) some ∙ ap (λ r. get_or r (length name - 1) 0) rest ∙ get_or_append_left name (34 ∷ []) 0 (length name - 1) (omega arith))
  where
    behind : (s : List ℕ) (n : ℕ) → 0 < n → get_or s n 0 ≡ get_or (drop 1 s) (n - 1) 0
    behind s zero l = absurd (omega arith)
    behind [] (suc n) l = refl
    behind (x ∷ s) (suc n) l = let same : suc n - 1 ≡ n = omega arith in ap (λ m. get_or s m 0) (sym same)

-- ---- for the code

pub some_bytes : (n : ℕ) → not (n == 0) ≡ true → 0 < n
some_bytes zero e = absurd (false≢true e)
some_bytes (suc n) e = omega arith

pub apart : (a b : ℕ) → not (a == b) ≡ true → a ≡ b → ⊥
apart a b e same = false≢true (sym (not-true (a == b) e) ∙ eq-eqb a b same)

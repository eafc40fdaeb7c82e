-- Steps, pointers and their locations.
use Rattle.json_patch_edit.proofs.Common.{common_steps, ◌≡◌, ℕ, List, [], ◌∷◌, ◌++◌, Option, Some, option_map, refl, ap, rules, arith, Data, IsDocument, Segment, child, Names, Resolves, segment_of, front_of, last_of, IfNone, IfSome, option_and_then_some, value_at, StandsAt, Never, pointee, option_and_then, Pointer}
use Rattle.std.specs.Prelude.{◌↔◌}
use Rattle.json_patch_document.proofs.Members.{child_document}

pub option_map_some : {A B P : Type 0} (f : A → B) (o : Option A) (y : B) → option_map f o ≡ Some y → ((x : A) → o ≡ Some x → f x ≡ y → P) → P
option_map_some f o y is k = search rules

pub names_step : (d : Data) (t : List ℕ) (s : Segment) → Names d t s → segment_of d t ≡ Some s
names_step d t s h = search rules

pub names_same : (d : Data) (t : List ℕ) (s r : Segment) → Names d t s → Names d t r → s ≡ r
names_same d t s r h k = let a : segment_of d t ≡ Some s = names_step d t s h in let b : segment_of d t ≡ Some r = names_step d t r k in cc

pub resolves_same : (d : Data) (P : List (List ℕ)) (L M : List Segment) (p q : Data) → Resolves d P L p → Resolves d P M q → (L ≡ M) × (p ≡ q)
resolves_same d (t ∷ P) (s ∷ L) (r ∷ M) p q h k = search (rules, names_same d t s r h.1 k.1, resolves_same h.0 P L M p q h.3, names_same)
resolves_same d P L M p q h k = search rules

pub resolves_document : (d : Data) (P : List (List ℕ)) (L : List Segment) (p : Data) → IsDocument d → Resolves d P L p → IsDocument p
resolves_document d (t ∷ P) (s ∷ L) p hd h = resolves_document h.0 P L p (child_document s d h.0 hd h.2) h.3
resolves_document d P L p hd h = search rules

-- ---- the last token

pub split_whole : (t : List ℕ) (P : List (List ℕ)) → t ∷ P ≡ front_of t P ++ last_of t P ∷ []
split_whole t [] = refl
split_whole t (u ∷ P) = ap (λ Q. t ∷ Q) (split_whole u P)

pub split_is : (t : List ℕ) (P A : List (List ℕ)) (b : List ℕ) → t ∷ P ≡ A ++ b ∷ [] → (A ≡ front_of t P) × (b ≡ last_of t P)
split_is t [] (a ∷ c ∷ A) b h = cc
split_is t (u ∷ P) (a ∷ A) b h = search (rules, split_is u P A b)
split_is t P A b h = search rules

-- ---- the last step

pub no_end : (L : List Segment) (s : Segment) (c e : Data) → Resolves c [] (L ++ s ∷ []) e → ⊥
no_end L s c e h = grind (arith, common_steps)

-- s is the step that the last token names, from p, which stands where the others lead
pub record Ends (d : Data) (t : List ℕ) (P : List (List ℕ)) (L : List Segment) (s : Segment) (c : Data) : Type 0 where
  pub p : Data
  pub front : Resolves d (front_of t P) L p
  pub names : Names p (last_of t P) s
  pub stands : child s p ≡ Some c

pub ends : (d : Data) (t : List ℕ) (P : List (List ℕ)) (L : List Segment) (s : Segment) (c : Data) → Resolves d (t ∷ P) (L ++ s ∷ []) c → Ends d t P L s c
ends d t [] (r ∷ L) s c h = absurd (no_end L s h.0 c h.3)
ends d t (u ∷ P) (r ∷ L) s c h = grind (arith, common_steps, ends h.0 u P L s c h.3)
ends d t P L s c h = search rules

pub ended : (d : Data) (t : List ℕ) (P : List (List ℕ)) (L : List Segment) (s : Segment) (c p : Data) → Resolves d (front_of t P) L p → Names p (last_of t P) s → child s p ≡ Some c
    → Resolves d (t ∷ P) (L ++ s ∷ []) c
ended d t (u ∷ P) (r ∷ L) s c p h names stands = (h.0, h.1, h.2, ended h.0 u P L s c p h.3 names stands)
ended d t P L s c p h names stands = search rules

pub last_same : (L M : List Segment) (s r : Segment) → L ++ s ∷ [] ≡ M ++ r ∷ [] → (L ≡ M) × (s ≡ r)
last_same L M s r h = grind (arith, common_steps)

-- ---- what is found at a pointer stands at the location to which it resolves

pub found_resolves : (d : Data) (P : List (List ℕ)) (c : Data) → pointee d P ≡ Some c → (L : List Segment) × Resolves d P L c
found_resolves d [] c is = ([], cc)
found_resolves d (t ∷ P) c is =
    option_and_then_some _ (segment_of d t) c is (λ s named more.
    option_and_then_some _ (child s d) c more (λ e stands rest.
    (let i : (L : List Segment) × Resolves e P L c = found_resolves e P c rest in (s ∷ i.0, (e, (search rules), stands, i.1)))))

pub resolves_found : (d : Data) (P : List (List ℕ)) (L : List Segment) (c : Data) → Resolves d P L c → pointee d P ≡ Some c
resolves_found d (t ∷ P) (s ∷ L) c h = rw (names_step d t s h.1, h.2) (resolves_found h.0 P L c h.3)
resolves_found d P L c h = search rules

pub resolves_standing : (d : Data) (P : List (List ℕ)) (L : List Segment) (c : Data) → Resolves d P L c → value_at d L ≡ Some c
resolves_standing d (t ∷ P) (s ∷ L) c h = rw h.2 (resolves_standing h.0 P L c h.3)
resolves_standing d P L c h = search rules

pub found_computed : (d : Data) (P : List (List ℕ)) (c : Data) → StandsAt d P c ↔ (pointee d P ≡ Some c)
found_computed d P c = (λ h. resolves_found d P h.0 c h.1, found_resolves d P c)

pub some_stands : {A : Type 0} (f : A → Data) (r : Option A) (d : Data) (P : List (List ℕ)) → option_map f r ≡ pointee d P → IfSome r (λ v. StandsAt d P (f v))
some_stands f r d P is = search (rules, found_resolves)

pub none_stands : {A : Type 0} (f : A → Data) (r : Option A) (d : Data) (P : List (List ℕ)) → option_map f r ≡ pointee d P → IfNone r (Never (StandsAt d P))
none_stands f r d P is = search (rules, resolves_found)

-- ---- pointers in two parts

-- what stands further on
found_on : (o : Option Segment) (d : Data) (P Q : Pointer) → ((c : Data) → pointee c (P ++ Q) ≡ option_and_then (λ p. pointee p Q) (pointee c P))
    → option_and_then (λ s. option_and_then (λ c. pointee c (P ++ Q)) (child s d)) o ≡ option_and_then (λ p. pointee p Q) (option_and_then (λ s. option_and_then (λ c. pointee c P) (child s d)) o)
found_on o d P Q more = search rules

pub found_append : (d : Data) (P Q : Pointer) → pointee d (P ++ Q) ≡ option_and_then (λ p. pointee p Q) (pointee d P)
found_append d [] Q = refl
found_append d (t ∷ P) Q = found_on (segment_of d t) d P Q (λ c. found_append c P Q)

pub found_document : (d : Data) (P : Pointer) (p : Data) → IsDocument d → pointee d P ≡ Some p → IsDocument p
found_document d P p hd is = let h : (L : List Segment) × Resolves d P L p = found_resolves d P p is in resolves_document d P h.0 p hd h.1

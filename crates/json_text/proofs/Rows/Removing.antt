-- What a pointer leads to, by the tokens before the last and the last.
use Rattle.std.proofs.Common.{◌≡◌, ℕ, Global, List, [], ◌∷◌, ◌++◌, take, drop, Option, Some, None, option_and_then, refl, sym, ap, ap₂, ◌∙◌, subst, inl, take-append-drop}
use Rattle.std.proofs.lemmas.Option.{same_Some}
use Rattle.std.specs.Prelude.{MatchOption, String}
use Rattle.std.specs.String.{string_bytes}
use Rattle.json.specs.Json.{Json}
use Rattle.jsonptr.specs.Text.{Pointer}
use Rattle.json_text.specs.Changed.{front_of, last_of, remove_at, remove_child}
use Rattle.json_lexemes.specs.Found.{IsWithin}
use Rattle.json_text.specs.Less.{IsWithout}
use Rattle.json_text.specs.Owned.{in_whole}
use Rattle.json_text.specs.declared.own.Own.{Own}
use Rattle.json_text.specs.Pointed.{child, if_some, put_at, tree_at, StandsBetween}
use Rattle.json_text.specs.Removed.{HasNothingToRemove, IsRemoved}
use Rattle.json_lexemes.specs.Spelled.{IsShallowText, Says}
use Rattle.json_lexemes.specs.declared.span.Span.{Span}
use Rattle.json_text.specs.Rows.{slice}
use Rattle.json_text.proofs.Stretches.{two_parts}

pub tree_below : (F : Pointer) (t : List ℕ) (j : Json) → tree_at (F ++ (t ∷ [])) j ≡ option_and_then (child t) (tree_at F j)
tree_below [] t j = at (child t j)
  where
    at : (o : Option Json) → option_and_then (tree_at []) o ≡ o
    at None = refl
    at (Some v) = refl
tree_below (u ∷ F) t j = through (child u j) (λ c. tree_below F t c)
  where
    through : (o : Option Json) → ((c : Json) → tree_at (F ++ (t ∷ [])) c ≡ option_and_then (child t) (tree_at F c)) → option_and_then (tree_at (F ++ (t ∷ []))) o ≡ option_and_then (child t) (option_and_then (tree_at F) o)
    through None ih = refl
    through (Some c) ih = ih c

pub front_is : (u : List ℕ) (F : Pointer) (t : List ℕ) → front_of u (F ++ (t ∷ [])) ≡ u ∷ F
front_is u [] t = refl
front_is u (w ∷ F) t = ap (λ P. u ∷ P) (front_is w F t)

pub last_is : (u : List ℕ) (F : Pointer) (t : List ℕ) → last_of u (F ++ (t ∷ [])) ≡ t
last_is u [] t = refl
last_is u (w ∷ F) t = last_is w F t

pub remove_is : (F : Pointer) (t : List ℕ) (j v : Json) → tree_at F j ≡ Some v → remove_at (F ++ (t ∷ [])) j ≡ put_at F (remove_child t v) j
remove_is [] t j v e = ap (remove_child t) (same_Some j v e)
remove_is (u ∷ F) t j v e =
    ap₂ (λ P k. if_some (tree_at P j) (λ c. put_at P (remove_child k c) j) j) (front_is u F t) (last_is u F t) ∙ ap (λ o. if_some o (λ c. put_at (u ∷ F) (remove_child t c) j) j) e

pub none_below : (text : List ℕ) (P F : Pointer) (t : List ℕ) (a : (j : Json) × IsShallowText text j) → P ≡ F ++ (t ∷ []) → tree_at F a.0 ≡ None → HasNothingToRemove text P
none_below text P F t a s e = inl (a.0, a.1.0, ap (λ Q. tree_at Q a.0) s ∙ tree_below F t a.0 ∙ ap (option_and_then (child t)) e)

pub no_child_there : (text : List ℕ) (P F : Pointer) (t : List ℕ) (a : (j : Json) × IsShallowText text j) (v : Json) → P ≡ F ++ (t ∷ []) → tree_at F a.0 ≡ Some v → child t v ≡ None → HasNothingToRemove text P
no_child_there text P F t a v s e n = inl (a.0, a.1.0, ap (λ Q. tree_at Q a.0) s ∙ tree_below F t a.0 ∙ ap (option_and_then (child t)) e ∙ n)

pub removed : (text put new : List ℕ) (P F : Pointer) (t : List ℕ) (s : Span) (a : (j : Json) × IsShallowText text j) → IsWithin text s → P ≡ F ++ (t ∷ []) → (p : StandsBetween (take s.start text) (slice text s.start s.end) (drop s.end text) a.0 F)
    → IsWithout (slice text s.start s.end) p.0 t put → new ≡ take s.start text ++ (put ++ drop s.end text) → IsRemoved text P new
removed text put new P F t s a w split p ((n, cuts), says) e = record {
  tree = a.0;
  says = a.1;
  at = record {
    front = F;
    last = t;
    split = split;
    parent = p.0;
    leads = p.1;
    before = take s.start text;
    own = slice text s.start s.end;
    behind = drop s.end text;
    whole = sym (ap (λ l. take s.start text ++ l) (two_parts text s.start s.end w.order) ∙ take-append-drop s.start text);
    stood = p.2;
  };
  others = n;
  less = put;
  cut = cuts;
  exchanged = e;
  after = subst (λ u. Says u (remove_at P a.0)) (sym e) (subst (Says (take s.start text ++ (put ++ drop s.end text))) (sym (ap (λ Q. remove_at Q a.0) split ∙ remove_is F t a.0 p.0 p.1)) (p.2.alone put (remove_child t p.0) says));
}

-- for the code, which hands on copies
pub removed_by : (text here k less put new : List ℕ) (P F : Pointer) (t : List ℕ) (s : Span) (a : (j : Json) × IsShallowText text j) → IsWithin text s → P ≡ F ++ (t ∷ []) → (p : StandsBetween (take s.start text) (slice text s.start s.end) (drop s.end text) a.0 F)
    → here ≡ slice text s.start s.end → k ≡ t → put ≡ less → IsWithout here p.0 k less → new ≡ take s.start text ++ (put ++ drop s.end text) → IsRemoved text P new
removed_by text here k less put new P F t s a w split p h n q without e =
    removed text put new P F t s a w split p (subst (IsWithout (slice text s.start s.end) p.0 t) (sym q) (subst (λ x. IsWithout (slice text s.start s.end) p.0 x less) n (subst (λ x. IsWithout x p.0 k less) h without))) e

pub nothing_by : (text k : List ℕ) (P F : Pointer) (t : List ℕ) (a : (j : Json) × IsShallowText text j) (v : Json) → P ≡ F ++ (t ∷ []) → tree_at F a.0 ≡ Some v → k ≡ t → child k v ≡ None → HasNothingToRemove text P
nothing_by text k P F t a v s e n none = no_child_there text P F t a v s e (subst (λ x. child x v ≡ None) n none)

-- what the code leaves of the whole
pub removed_if : (text k : List ℕ) (P F : Pointer) (t : List ℕ) (s : Span) (own : Own) (a : (j : Json) × IsShallowText text j) → IsWithin text s → P ≡ F ++ (t ∷ []) → (p : StandsBetween (take s.start text) (slice text s.start s.end) (drop s.end text) a.0 F)
    → own.before.now ≡ take s.start text → own.text.now ≡ slice text s.start s.end → own.behind.now ≡ drop s.end text → k ≡ t → (o : Option (String Global)) → MatchOption o (child k p.0 ≡ None) (λ new. (less : List ℕ) × (string_bytes new ≡ in_whole own less) × IsWithout own.text.now p.0 k less)
    → MatchOption o (HasNothingToRemove text P) (λ new. IsRemoved text P (string_bytes new))
removed_if text k P F t s own a w split p before here behind n None none = nothing_by text k P F t a p.0 split p.1 n none
removed_if text k P F t s own a w split p before here behind n (Some new) (less, is, gone) = removed_by text own.text.now k less less (string_bytes new) P F t s a w split p here n refl gone (is ∙ ap₂ (λ x y. x ++ (less ++ y)) before behind)

-- A value added where a pointer leads.
use Rattle.std.proofs.Common.{◌≡◌, ℕ, Global, List, [], ◌∷◌, ◌++◌, take, drop, Option, Some, None, option_and_then, refl, sym, ap, ap₂, ◌∙◌, subst, inl, inr, take-append-drop}
use Rattle.std.proofs.lemmas.Option.{none-some, same_Some}
use Rattle.std.specs.Prelude.{MatchOption, String, option_map}
use Rattle.std.specs.String.{string_bytes}
use Rattle.json.specs.Json.{Json, null, boolean, number, string, array, object}
use Rattle.jsonptr.specs.Text.{Pointer}
use Rattle.json_text.specs.Added.{HasNoPlace, IsAdded, IsPutInto}
use Rattle.json_text.specs.Changed.{add_at, add_child, push_member}
use Rattle.json_lexemes.specs.Found.{IsWithin}
use Rattle.json_text.specs.Less.{IsObject}
use Rattle.json_text.specs.Owned.{IsGrown}
use Rattle.json_text.specs.declared.own.Own.{Own}
use Rattle.json_text.specs.Pointed.{child, if_some, put_at, put_child, put_member, tree_at, IsStretch, StandsBetween}
use Rattle.json_text.specs.Replaced.{IsReplaced}
use Rattle.json_text.specs.Rows.{slice}
use Rattle.json_lexemes.specs.Spelled.{IsShallowText, Says}
use Rattle.json_lexemes.specs.declared.span.Span.{Span}
use Rattle.json_text.proofs.Along.{put_step}
use Rattle.json_lexemes.proofs.Nests.{one_tree}
use Rattle.json_text.proofs.Replacing.{IsWhole, replaced}
use Rattle.json_text.proofs.Stretches.{cut_out, two_parts}
use Rattle.json_text.proofs.Rows.Removing.{front_is, last_is, tree_below}

pub add_is : (F : Pointer) (t : List ℕ) (w j : Json) → add_at (F ++ (t ∷ [])) w j ≡ option_and_then (λ c. option_map (λ d. put_at F d j) (add_child t w c)) (tree_at F j)
add_is [] t w j = refl
add_is (u ∷ F) t w j = ap₂ (λ P k. option_and_then (λ c. option_map (λ d. put_at P d j) (add_child k w c)) (tree_at P j)) (front_is u F t) (last_is u F t)

pub add_in : (P F : Pointer) (t : List ℕ) (w j c : Json) → P ≡ F ++ (t ∷ []) → tree_at F j ≡ Some c → add_at P w j ≡ option_map (λ d. put_at F d j) (add_child t w c)
add_in P F t w j c s e = ap (λ Q. add_at Q w j) s ∙ add_is F t w j ∙ ap (option_and_then (λ c. option_map (λ d. put_at F d j) (add_child t w c))) e

pub put_is : (F : Pointer) (t : List ℕ) (w j c v : Json) → tree_at F j ≡ Some c → child t c ≡ Some v → put_at (F ++ (t ∷ [])) w j ≡ put_at F (put_child t w c) j
put_is [] t w j c v e f =
    let same : j ≡ c = same_Some j c e in
    put_step t [] w j v (ap (child t) same ∙ f) ∙ ap (put_child t w) same
put_is (u ∷ F) t w j c v e f = by_child (child u j) e (λ x h. put_is F t w x c v h f)
  where
    by_child : (o : Option Json) → option_and_then (tree_at F) o ≡ Some c → ((x : Json) → tree_at F x ≡ Some c → put_at (F ++ (t ∷ [])) w x ≡ put_at F (put_child t w c) x)
        → if_some o (λ x. put_child u (put_at (F ++ (t ∷ [])) w x) j) j ≡ if_some o (λ x. put_child u (put_at F (put_child t w c) x) j) j
    by_child None e ih = absurd (none-some c e)
    by_child (Some x) e ih = ap (λ y. put_child u y j) (ih x e)

-- a member that stands
pub member_put : (t : List ℕ) (w c v : Json) → IsObject c → child t c ≡ Some v → add_child t w c ≡ Some (put_child t w c)
member_put t w null v y e = absurd y
member_put t w (boolean b) v y e = absurd y
member_put t w (number b) v y e = absurd y
member_put t w (string b) v y e = absurd y
member_put t w (array b) v y e = absurd y
member_put t w (object ms) v y e = ap (λ o. Some (object (if_some o (λ x. put_member t w ms) (push_member t w ms)))) e

child_there : (P F : Pointer) (t : List ℕ) (j c : Json) (o : Option Json) → P ≡ F ++ (t ∷ []) → tree_at F j ≡ Some c → tree_at P j ≡ o → child t c ≡ o
child_there P F t j c o s e f = sym (tree_below F t j ∙ ap (option_and_then (child t)) e) ∙ ap (λ Q. tree_at Q j) (sym s) ∙ f

pub no_parent : (text : List ℕ) (P F : Pointer) (t : List ℕ) (a : (j : Json) × IsShallowText text j) → P ≡ F ++ (t ∷ []) → tree_at F a.0 ≡ None → HasNoPlace text P
no_parent text P F t a s e = (a.0, a.1.0, λ w. ap (λ Q. add_at Q w a.0) s ∙ add_is F t w a.0 ∙ ap (option_and_then (λ c. option_map (λ d. put_at F d a.0) (add_child t w c))) e)

pub no_place_there : (text k : List ℕ) (P F : Pointer) (t : List ℕ) (a : (j : Json) × IsShallowText text j) (c : Json) → P ≡ F ++ (t ∷ []) → tree_at F a.0 ≡ Some c → k ≡ t → ((w : Json) → add_child k w c ≡ None) → HasNoPlace text P
no_place_there text k P F t a c s e n none = (a.0, a.1.0, λ w. add_in P F t w a.0 c s e ∙ ap (option_map (λ d. put_at F d a.0)) (ap (λ x. add_child x w c) (sym n) ∙ none w))

pub no_member_there : (text here k : List ℕ) (P F : Pointer) (t : List ℕ) (j c : Json) → P ≡ F ++ (t ∷ []) → tree_at F j ≡ Some c → k ≡ t → Says here c → ((v : Json) → Says here v → IsObject v → tree_at P j ≡ None) → (v : Json) → Says here v → IsObject v → child k v ≡ None
no_member_there text here k P F t j c s e n says none v is y =
    subst (λ x. child x v ≡ None) (sym n) (subst (λ x. child t x ≡ None) (one_tree here c v says is) (child_there P F t j c None s e (none v is y)))

pub added_member : (text value copy put new : List ℕ) (P F : Pointer) (t : List ℕ) (s r : Span) (c : Json) (a : (j : Json) × IsShallowText text j) (b : (j : Json) × IsShallowText value j) → P ≡ F ++ (t ∷ []) → tree_at F a.0 ≡ Some c → IsObject c → IsWithin text s
    → (p : StandsBetween (take s.start text) (slice text s.start s.end) (drop s.end text) a.0 P) → IsWithin copy r → copy ≡ value → IsWhole copy r → put ≡ slice value r.start r.end → new ≡ take s.start text ++ (put ++ drop s.end text) → IsAdded text P value new
added_member text value copy put new P F t s r c a b split leads y w p v e h is n =
    let there : child t c ≡ Some p.0 = child_there P F t a.0 c (Some p.0) split leads p.1 in
    let done : IsReplaced text P value new = replaced text value copy put new P s r a b w p v e h is n in
    record {
      tree = a.0;
      says = a.1;
      wanted = b.0;
      value_says = b.1;
      bytes = inl done;
      sum = put_at P b.0 a.0;
      added = add_in P F t b.0 a.0 c split leads ∙ ap (option_map (λ d. put_at F d a.0)) (member_put t b.0 c p.0 y there) ∙ ap Some (sym (ap (λ Q. put_at Q b.0 a.0) split ∙ put_is F t b.0 a.0 c p.0 leads there));
      after = done_says done;
    }
  where
    done_says : (d : IsReplaced text P value new) → Says new (put_at P b.0 a.0)
    done_says d = subst (λ x. Says new (put_at P x a.0)) (one_tree value d.wanted b.0 d.value_says.0 b.1.0) (subst (λ x. Says new (put_at P d.wanted x)) (one_tree text d.tree a.0 d.says.0 a.1.0) d.after)

pub added_child : (text value copy put grown new : List ℕ) (P F : Pointer) (t : List ℕ) (s r : Span) (a : (j : Json) × IsShallowText text j) (b : (j : Json) × IsShallowText value j) → P ≡ F ++ (t ∷ []) → IsWithin text s
    → (p : StandsBetween (take s.start text) (slice text s.start s.end) (drop s.end text) a.0 F) → IsWithin copy r → copy ≡ value → IsWhole copy r → put ≡ slice value r.start r.end → IsPutInto (slice text s.start s.end) p.0 t put grown → new ≡ take s.start text ++ (grown ++ drop s.end text) → IsAdded text P value new
added_child text value copy put grown new P F t s r a b split w p v e h is into n =
    let stretch : IsStretch (take r.start value) (slice value r.start r.end) (drop r.end value) b.0 (λ x. x) = (subst (λ u. IsWhole u r) e h) b.0 b.1.0 in
    let says : Says put b.0 = subst (λ u. Says u b.0) (sym is) stretch.says in
    let (x, sums, whole) = into.alone put b.0 says in
    record {
      tree = a.0;
      says = a.1;
      wanted = b.0;
      value_says = b.1;
      bytes = inr (record {
        at = record {
          front = F;
          last = t;
          split = split;
          parent = p.0;
          leads = p.1;
          before = take s.start text;
          own = slice text s.start s.end;
          behind = drop s.end text;
          whole = sym (ap (λ l. take s.start text ++ l) (two_parts text s.start s.end w.order) ∙ take-append-drop s.start text);
          stood = p.2;
        };
        put = put;
        written = cut_out value b.0 [] r put (subst (λ u. IsWithin u r) e v) is (b.0, refl, stretch);
        grown = grown;
        into = into;
        exchanged = n;
      });
      sum = put_at F x a.0;
      added = add_in P F t b.0 a.0 p.0 split p.1 ∙ ap (option_map (λ d. put_at F d a.0)) sums;
      after = subst (λ u. Says u (put_at F x a.0)) (sym n) (p.2.alone grown x (subst (λ u. Says u x) (sym into.put_in) whole));
    }

pub added_child_by : (text value copy put here k grown last new : List ℕ) (P F : Pointer) (t : List ℕ) (s r : Span) (a : (j : Json) × IsShallowText text j) (b : (j : Json) × IsShallowText value j) → P ≡ F ++ (t ∷ []) → IsWithin text s
    → (p : StandsBetween (take s.start text) (slice text s.start s.end) (drop s.end text) a.0 F) → IsWithin copy r → copy ≡ value → IsWhole copy r → put ≡ slice value r.start r.end → here ≡ slice text s.start s.end → k ≡ t → last ≡ grown → IsPutInto here p.0 k put grown → new ≡ take s.start text ++ (last ++ drop s.end text) → IsAdded text P value new
added_child_by text value copy put here k grown last new P F t s r a b split w p v e h is i n q into new_is =
    added_child text value copy put last new P F t s r a b split w p v e h is
    (subst (IsPutInto (slice text s.start s.end) p.0 t put) (sym q) (subst (λ x. IsPutInto (slice text s.start s.end) p.0 x put grown) n (subst (λ x. IsPutInto x p.0 k put grown) i into))) new_is

-- what the code leaves of the whole
pub added_if : (text value copy put k : List ℕ) (P F : Pointer) (t : List ℕ) (s r : Span) (own : Own) (a : (j : Json) × IsShallowText text j) (b : (j : Json) × IsShallowText value j) → P ≡ F ++ (t ∷ []) → IsWithin text s
    → (p : StandsBetween (take s.start text) (slice text s.start s.end) (drop s.end text) a.0 F) → IsWithin copy r → copy ≡ value → IsWhole copy r → put ≡ slice value r.start r.end → own.before.now ≡ take s.start text → own.text.now ≡ slice text s.start s.end → own.behind.now ≡ drop s.end text → k ≡ t
    → (o : Option (String Global)) → MatchOption o ((w : Json) → add_child k w p.0 ≡ None) (λ new. IsGrown own p.0 k put (string_bytes new)) → MatchOption o (HasNoPlace text P) (λ new. IsAdded text P value (string_bytes new))
added_if text value copy put k P F t s r own a b split w p v e h is before here behind n None none = no_place_there text k P F t a p.0 split p.1 n none
added_if text value copy put k P F t s r own a b split w p v e h is before here behind n (Some new) (grown, g, into) =
    added_child_by text value copy put own.text.now k grown grown (string_bytes new) P F t s r a b split w p v e h is here n refl into (g ∙ ap₂ (λ x y. x ++ (grown ++ y)) before behind)

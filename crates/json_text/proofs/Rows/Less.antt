-- The text of an object or an array with one child cut out.
use Rattle.std.proofs.Common.{◌≡◌, ℕ, ◌≤◌, Bool, true, false, List, [], ◌∷◌, ◌++◌, length, take, drop, get_or, Some, None, option_and_then, refl, sym, ap, ap₂, ◌∙◌, subst, arith, take-append-drop}
use Rattle.std.specs.Prelude.{option_map}
use Rattle.json.specs.Json.{Json, array}
use Rattle.json.specs.Find.{get_item}
use Rattle.json_text.specs.Changed.{remove_element, without}
use Rattle.json_lexemes.specs.Found.{named}
use Rattle.json_text.specs.Less.{IsLess, IsLessText, IsNumberOf}
use Rattle.json_text.specs.Pointed.{child, if_some, put_child, put_element, tree_at, IsStretch, StandsBetween}
use Rattle.json_text.specs.Rows.{AreEdges, AreInOrder, Child, IsNumbered, elements_in, members_in, others, tree_in, slice}
use Rattle.json_lexemes.specs.Spelled.{spelled, Says}
use Rattle.json_text.specs.declared.parts.Numbered.{Numbered}
use Rattle.json_lexemes.specs.declared.span.Span.{Span}
use Rattle.json_text.proofs.Along.{put_step}
use Rattle.json_text.proofs.Around.{Around, element_around, element_follows, member_around, member_follows, named_is, numbered_is}
use Rattle.json_lexemes.proofs.Steps.{follows}
use Rattle.json_text.proofs.Stretches.{stretch, two_parts}
use Rattle.json_text.proofs.Rows.Cuts.{cut}
use Rattle.json_text.proofs.Rows.Splices.{before_slice}
use Rattle.json_text.proofs.Rows.Trees.{element_at, named_at, no_element}

-- what t names, by its lexemes
pub record Chosen (b : Bool) (cs more : List Child) (t : List ℕ) (n : ℕ) (v : Json) : Type 0 where
  pub is : child t (tree_in b cs) ≡ Some v
  pub around : Around v (others b more) (spelled (tree_in b cs)) (λ w. spelled (put_child t w (tree_in b cs)))
  pub follow : follows (others b more) ≡ true
  pub less : IsLess t (tree_in b cs) (tree_in b (take n cs ++ more))

pub chosen : (b : Bool) (cs : List Child) (t : List ℕ) (n : ℕ) (c : Child) (more : List Child) → IsNumberOf b cs t n → drop n cs ≡ c ∷ more → Chosen b cs more t n c.1
chosen true cs t n c more e d =
    let q = named_at t cs n e in
    let same : q.child ∷ q.more ≡ c ∷ more = sym q.is ∙ d in
    let value : named t (members_in cs) ≡ Some (c.1, others true more) = q.value ∙ ap₂ (λ x l. Some (x.1, others true l)) (ap (λ l. get_or l 0 c) same) (ap (drop 1) same) in
    record {
      is = sym (named_is t (members_in cs)) ∙ ap (option_map (λ p. p.0)) value;
      around = member_around t (members_in cs) c.1 (others true more) value;
      follow = member_follows t (members_in cs) c.1 (others true more) value;
      less = ap (λ l. without t (members_in (take n cs ++ l))) (sym (ap (drop 1) same)) ∙ q.less;
    }
chosen false cs t n c more e d =
    let q = element_at cs n c more d in
    record {
      is = ap (option_and_then (λ k. get_item k (elements_in cs))) e ∙ sym (numbered_is n (elements_in cs)) ∙ ap (option_map (λ p. p.0)) q.value;
      around = subst (λ m. Around c.1 (others false more) (spelled (array (elements_in cs))) (λ w. spelled (array (if_some m (λ k. put_element k w (elements_in cs)) (elements_in cs))))) (sym e) (element_around n (elements_in cs) c.1 (others false more) q.value);
      follow = element_follows n (elements_in cs) c.1 (others false more) q.value;
      less = ap array (sym q.less) ∙ ap (λ m. array (if_some m (λ k. remove_element k (elements_in cs)) (elements_in cs))) (sym e);
    }

pub none_chosen : (b : Bool) (cs : List Child) (t : List ℕ) (n : ℕ) → IsNumberOf b cs t n → drop n cs ≡ [] → child t (tree_in b cs) ≡ None
none_chosen true cs t n e d = let q = named_at t cs n e in absurd (omega (arith, ap length (sym q.is ∙ d)))
none_chosen false cs t n e d = ap (option_and_then (λ k. get_item k (elements_in cs))) e ∙ no_element cs n d

-- a child's stretch is where the pointer of its token leads
pub child_stands : (before s behind t : List ℕ) (v w : Json) → child t v ≡ Some w → IsStretch before s behind w (λ x. put_child t x v) → StandsBetween before s behind v (t ∷ [])
child_stands before s behind t v w e r =
    (w, ap (option_and_then (tree_at [])) e, record { says = r.says; tight = r.tight; alone = λ new x h. subst (Says (before ++ (new ++ behind))) (sym (put_step t [] x v w e)) (r.alone new x h) })

in_five : (t : List ℕ) (i vs ve k : ℕ) → i ≤ vs → vs ≤ ve → ve ≤ k → t ≡ take i t ++ (slice t i vs ++ (slice t vs ve ++ (slice t ve k ++ drop k t)))
in_five t i vs ve k h l m =
    sym (ap (λ x. take i t ++ (slice t i vs ++ x)) (ap (λ x. slice t vs ve ++ x) (two_parts t ve k m) ∙ two_parts t vs ve l) ∙ ap (λ x. take i t ++ x) (two_parts t i vs h) ∙ take-append-drop i t)

pub less_text : (t k : List ℕ) (b : Bool) (cs : List Child) (n : ℕ) (r : Numbered) (p : Span) → Says t (tree_in b cs) → IsNumberOf b cs k n → (num : IsNumbered t b cs n r) → AreInOrder t r.part → r.before ≤ r.part.start → AreEdges t n r p → IsLessText t (tree_in b cs) k (take p.start t ++ drop p.end t)
less_text t k b cs n r p says at num o w e =
    let c = cut t b cs n r p says num o w e in
    let q = chosen b cs k n num.part.child num.part.more at num.part.is in
    let value = r.part.value in
    let s : IsStretch (take value.start t) (slice t value.start value.end) (drop value.end t) num.part.child.1 (λ x. put_child k x (tree_in b cs)) =
    stretch t (tree_in b cs) num.part.child.1 (others b num.part.more) (λ x. put_child k x (tree_in b cs)) value says q.around q.follow num.part.value num.part.behind num.places.cut o.value o.fits in
    let stands : StandsBetween (take value.start t) (slice t value.start value.end) (drop value.end t) (tree_in b cs) (k ∷ []) =
    child_stands (take value.start t) (slice t value.start value.end) (drop value.end t) k (tree_in b cs) num.part.child.1 q.is s in (
      record {
        before = take p.start t;
        front = slice t p.start value.start;
        value = slice t value.start value.end;
        back = slice t value.end p.end;
        behind = drop p.end t;
        whole = in_five t p.start value.start value.end p.end c.begins o.value e.behind;
        stood = subst (λ x. StandsBetween x (slice t value.start value.end) (slice t value.end p.end ++ drop p.end t) (tree_in b cs) (k ∷ [])) (sym (before_slice t p.start value.start c.begins))
            (subst (λ x. StandsBetween (take value.start t) (slice t value.start value.end) x (tree_in b cs) (k ∷ [])) (sym (two_parts t value.end p.end e.behind)) stands);
        piece = c.piece;
        cut = refl;
      },
      tree_in b (take n cs ++ num.part.more),
      c.says,
      q.less,
    )

-- Two changes of a document at pointers that diverge commute, and neither is seen at the other's pointer.
use Rattle.json_patch_laws.proofs.Common.{◌≡◌, ℕ, zero, suc, List, ◌∷◌, ◌++◌, Option, Some, None, option_map}
use Rattle.json_patch_laws.proofs.Common.{option_and_then, refl, sym, ap, ap₂, ◌∙◌, subst, rules, ⊎_elim}
use Rattle.json_patch_laws.proofs.Common.{option_and_then_some, IfSome, Data, Items, no_items, item, object, array}
use Rattle.json_patch_laws.proofs.Common.{IsDocument, Segment, key, place, child, sight_of, Sight, segment_of, set_child}
use Rattle.json_patch_laws.proofs.Common.{set_item, without, pointee, after_change, after_replace, get_member-put, get_item}
use Rattle.json_patch_laws.proofs.Common.{place_of, place_is_token, Pointer}
use Rattle.json_patch_document.proofs.Members.{child_set_other, sight_set, set_document, step_cases, get_without}
use Rattle.json_patch_document.proofs.Members.{get_without_other, without_members, child_document}
use Rattle.json_patch_document.proofs.Children.{one_level, step_of_set}
use Rattle.json_patch_edit.proofs.Locations.{found_document}
use Rattle.json_patch_edit.proofs.Locations.{option_map_some}
use Rattle.json_patch_edit.proofs.StepOutcomes.{altered_walks}
use Rattle.json_patch_laws.proofs.Locality.{Replaces, replaces, some_replaced, found_under}

-- ---- one container: its child at a step put, or a member taken out

abbrev pub drop_member : Segment → Data → Data
drop_member (key k) (object ms) = object (without k ms)
drop_member s d = d

abbrev pub write : Segment → Option Data → Data → Data
write s (Some v) d = set_child s v d
write s None d = drop_member s d

drop_other : (r s : Segment) (d : Data) → (r ≡ s → ⊥) → child r (drop_member s d) ≡ child r d
drop_other (key q) (key k) (object ms) other = get_without_other q k ms (λ h. other (ap key h))
drop_other r s d other = search rules

write_other : (r s : Segment) (o : Option Data) (d : Data) → (r ≡ s → ⊥) → child r (write s o d) ≡ child r d
write_other r s (Some v) d other = child_set_other r s d v other
write_other r s None d other = drop_other r s d other

drop_sight : (s : Segment) (d : Data) → sight_of (drop_member s d) ≡ sight_of d
drop_sight s d = search rules

write_sight : (s : Segment) (o : Option Data) (d : Data) → sight_of (write s o d) ≡ sight_of d
write_sight s (Some v) d = sight_set s d v
write_sight s None d = drop_sight s d

drop_step : (s : Segment) (d : Data) (t : List ℕ) → segment_of (drop_member s d) t ≡ segment_of d t
drop_step s d t = search rules

write_step : (s : Segment) (o : Option Data) (d : Data) (t : List ℕ) → segment_of (write s o d) t ≡ segment_of d t
write_step s (Some v) d t = step_of_set s d v t
write_step s None d t = drop_step s d t

drop_member_document : (s : Segment) (d : Data) → IsDocument d → IsDocument (drop_member s d)
drop_member_document s d h = search (rules, without_members)

pub write_document : (s : Segment) (o : Option Data) (d : Data) → IsDocument d → IfSome o IsDocument → IsDocument (write s o d)
write_document s (Some v) d h g = set_document s d v h g
write_document s None d h g = drop_member_document s d h

-- what stands at the step afterwards, by the kind of the container and what stood there
abbrev there : Segment → Sight → Option Data → Option Data → Option Data
there (key k) Sight.object o c = o
there (place i) Sight.array (Some v) c = option_map (λ x. v) c
there s k o c = c

item_here : (i : ℕ) (v : Data) (ds : Items) → get_item i (set_item i v ds) ≡ option_map (λ x. v) (get_item i ds)
item_here i v no_items = refl
item_here zero v (item d ds) = refl
item_here (suc i) v (item d ds) = item_here i v ds

write_here : (s : Segment) (o : Option Data) (d : Data) → IsDocument d → child s (write s o d) ≡ there s (sight_of d) o (child s d)
write_here s o d h = search (rules, get_member-put, get_without, item_here)

module _ (r s : Segment) (p o : Option Data) (d : Data) (hd : IsDocument d) (hp : IfSome p IsDocument) (ho : IfSome o IsDocument) (other : r ≡ s → ⊥) where
  other_back : s ≡ r → ⊥
  other_back h = other (sym h)

  -- what stands at r, whichever was first
  at_second : child r (write r p (write s o d)) ≡ child r (write s o (write r p d))
  at_second =
      write_here r p (write s o d) (write_document s o d hd ho)
      ∙ ap₂ (λ k c. there r k p c) (write_sight s o d) (write_other r s o d other)
      ∙ sym (write_here r p d hd) ∙ sym (write_other r s o (write r p d) other)

  at_first : child s (write r p (write s o d)) ≡ child s (write s o (write r p d))
  at_first =
      write_other s r p (write s o d) other_back ∙ write_here s o d hd
      ∙ sym (ap₂ (λ k c. there s k o c) (write_sight r p d) (write_other s r p d other_back))
      ∙ sym (write_here s o (write r p d) (write_document r p d hd hp))

  at_each : (q : Segment) → child q (write r p (write s o d)) ≡ child q (write s o (write r p d))
  at_each q =
      ⊎_elim (λ (is : q ≡ r). rw is at_second)
      (λ (isnt : q ≡ r → ⊥).
      ⊎_elim (λ (is : q ≡ s). rw is at_first)
      (λ (not : q ≡ s → ⊥). write_other q r p (write s o d) isnt ∙ write_other q s o d not ∙ sym (write_other q r p d isnt) ∙ sym (write_other q s o (write r p d) not)) (step_cases q s))
      (step_cases q r)

  pub writes_swap : write r p (write s o d) ≡ write s o (write r p d)
  writes_swap =
      one_level (write r p (write s o d)) (write s o (write r p d))
      (write_document r p (write s o d) (write_document s o d hd ho) hp)
      (write_document s o (write r p d) (write_document r p d hd hp) ho)
      (write_sight r p (write s o d) ∙ write_sight s o d ∙ sym (write_sight r p d) ∙ sym (write_sight s o (write r p d)))
      at_each

-- two tokens name two steps
steps_differ : (d : Data) (t u : List ℕ) (s r : Segment) → (t ≡ u → ⊥) → segment_of d t ≡ Some s → segment_of d u ≡ Some r → r ≡ s → ⊥
steps_differ (object ms) t u s r other named more same = other cc
steps_differ (array ds) t u s r other named more same =
    option_map_some place (place_of t) s named (λ i is at.
    option_map_some place (place_of u) r more (λ j js bt.
    (let e : j ≡ i = (let f : place j ≡ place i = bt ∙ same ∙ sym at in cc) in
    other ((place_is_token t i).0 is ∙ sym ((place_is_token u i).0 (js ∙ ap Some e))))))
steps_differ d t u s r other named more same = search rules

-- ---- a change of the child at a token, as what it makes of it

-- what h makes of the child in d, written to n
abbrev pub onto : (Option Data → Option (Option Data)) → List ℕ → Data → Data → Option Data
onto h t d n = option_and_then (λ s. option_map (λ o. write s o n) (h (child s d))) (segment_of d t)

-- F changes the child at t alone, by what stands there alone
pub record IsLocal (t : List ℕ) (F : Data → Option Data) : Type 0 where
  pub h : Option Data → Option (Option Data)
  pub keeps : (c o : Option Data) → IfSome c IsDocument → h c ≡ Some o → IfSome o IsDocument
  pub is : (d : Data) → F d ≡ onto h t d d

record Made (h : Option Data → Option (Option Data)) (t : List ℕ) (d m : Data) : Type 0 where
  s : Segment
  o : Option Data
  named : segment_of d t ≡ Some s
  gives : h (child s d) ≡ Some o
  whole : m ≡ write s o d

made : (h : Option Data → Option (Option Data)) (t : List ℕ) (d m : Data) → onto h t d d ≡ Some m → Made h t d m
made h t d m is =
    option_and_then_some _ (segment_of d t) m is (λ s named more.
    option_map_some _ (h (child s d)) m more (λ o gives whole.
    record { s = s; o = o; named = named; gives = gives; whole = sym whole }))

onto_some : (h : Option Data → Option (Option Data)) (t : List ℕ) (d n : Data) (s : Segment) (o : Option Data) → segment_of d t ≡ Some s → h (child s d) ≡ Some o → onto h t d n ≡ Some (write s o n)
onto_some h t d n s o named gives = rw (named, gives) refl

child_whole : (s : Segment) (d : Data) (c : Option Data) → IsDocument d → child s d ≡ c → IfSome c IsDocument
child_whole s d None hd is = tt
child_whole s d (Some c) hd is = child_document s d c hd is

module _ (h k : Option Data → Option (Option Data)) (t u : List ℕ) (d n : Data) (other : t ≡ u → ⊥) (b : Made k u d n) where
  same_steps : segment_of n t ≡ segment_of d t
  same_steps = rw b.whole (write_step b.s b.o d t)

  kept_step : (x : Option Segment) → segment_of d t ≡ x → option_and_then (λ s. option_map (λ o. write s o n) (h (child s n))) x ≡ option_and_then (λ s. option_map (λ o. write s o n) (h (child s d))) x
  kept_step None is = refl
  kept_step (Some s) is =
      ap (λ c. option_map (λ o. write s o n) (h c))
      (ap (child s) b.whole ∙ write_other s b.s b.o d (λ e. steps_differ d u t b.s s (λ f. other (sym f)) b.named is e))

  kept : onto h t n n ≡ onto h t d n
  kept = ap (λ x. option_and_then (λ s. option_map (λ o. write s o n) (h (child s n))) x) same_steps ∙ kept_step (segment_of d t) refl

  -- what is found at t and below
  found_kept : (R : Pointer) → pointee n (t ∷ R) ≡ pointee d (t ∷ R)
  found_kept R = ap (λ x. option_and_then (λ s. option_and_then (λ c. pointee c R) (child s n)) x) same_steps ∙ below (segment_of d t) refl
    where
      below : (x : Option Segment) → segment_of d t ≡ x → option_and_then (λ s. option_and_then (λ c. pointee c R) (child s n)) x ≡ option_and_then (λ s. option_and_then (λ c. pointee c R) (child s d)) x
      below None is = refl
      below (Some s) is =
          ap (option_and_then (λ c. pointee c R))
          (ap (child s) b.whole ∙ write_other s b.s b.o d (λ e. steps_differ d u t b.s s (λ f. other (sym f)) b.named is e))

onto_none : (h : Option Data → Option (Option Data)) (t : List ℕ) (d n : Data) → onto h t d d ≡ None → onto h t d n ≡ None
onto_none h t d n is = at (segment_of d t) is
  where
    inner : (s : Segment) (a : Option (Option Data)) → option_map (λ o. write s o d) a ≡ None → option_map (λ o. write s o n) a ≡ None
    inner s a is = search rules

    at : (x : Option Segment) → option_and_then (λ s. option_map (λ o. write s o d) (h (child s d))) x ≡ None → option_and_then (λ s. option_map (λ o. write s o n) (h (child s d))) x ≡ None
    at None is = refl
    at (Some s) is = inner s (h (child s d)) is

-- ---- the two orders lead to one document, and what is refused first is refused second

abbrev pub Cross : (Data → Option Data) → (Data → Option Data) → Option Data → Option Data → Type 0
Cross F G (Some m) (Some n) = (e : Data) × (G m ≡ Some e) × (F n ≡ Some e)
Cross F G (Some m) None = G m ≡ None
Cross F G None (Some n) = F n ≡ None
Cross F G None None = Unit {0}

module _ (t u : List ℕ) (F G : Data → Option Data) (f : IsLocal t F) (g : IsLocal u G) (other : t ≡ u → ⊥) (d : Data) (hd : IsDocument d) where
  back : u ≡ t → ⊥
  back h = other (sym h)

  pub local_cross : (a b : Option Data) → F d ≡ a → G d ≡ b → Cross F G a b
  local_cross (Some m) (Some n) fa gb =
      let x : Made f.h t d m = made f.h t d m (sym (f.is d) ∙ fa) in
      let y : Made g.h u d n = made g.h u d n (sym (g.is d) ∙ gb) in
      let ho : IfSome x.o IsDocument = f.keeps (child x.s d) x.o (child_whole x.s d (child x.s d) hd refl) x.gives in
      let hp : IfSome y.o IsDocument = g.keeps (child y.s d) y.o (child_whole y.s d (child y.s d) hd refl) y.gives in
      let gm : onto g.h u d m ≡ Some (write y.s y.o m) = onto_some g.h u d m y.s y.o y.named y.gives in
      let fn : onto f.h t d n ≡ Some (write x.s x.o n) = onto_some f.h t d n x.s x.o x.named x.gives in
      let same : write y.s y.o (write x.s x.o d) ≡ write x.s x.o (write y.s y.o d) =
      writes_swap y.s x.s y.o x.o d hd hp ho (steps_differ d t u x.s y.s other x.named y.named) in (
        write y.s y.o m,
        g.is m ∙ kept g.h f.h u t d m back x ∙ gm,
        f.is n ∙ kept f.h g.h t u d n other y ∙ fn ∙ ap Some (ap (write x.s x.o) y.whole ∙ sym same ∙ ap (write y.s y.o) (sym x.whole)),
      )
  local_cross (Some m) None fa gb =
      let x : Made f.h t d m = made f.h t d m (sym (f.is d) ∙ fa) in
      g.is m ∙ kept g.h f.h u t d m back x ∙ onto_none g.h u d m (sym (g.is d) ∙ gb)
  local_cross None (Some n) fa gb =
      let y : Made g.h u d n = made g.h u d n (sym (g.is d) ∙ gb) in
      f.is n ∙ kept f.h g.h t u d n other y ∙ onto_none f.h t d n (sym (f.is d) ∙ fa)
  local_cross None None fa gb = tt

pub local_document : (t : List ℕ) (F : Data → Option Data) → IsLocal t F → (d m : Data) → IsDocument d → F d ≡ Some m → IsDocument m
local_document t F f d m hd fa =
    let x : Made f.h t d m = made f.h t d m (sym (f.is d) ∙ fa) in
    subst IsDocument (sym x.whole) (write_document x.s x.o d hd (f.keeps (child x.s d) x.o (child_whole x.s d (child x.s d) hd refl) x.gives))

-- what F makes is not seen at another token
pub local_found : (t u : List ℕ) (F : Data → Option Data) (f : IsLocal t F) → (t ≡ u → ⊥) → (d m : Data) (R : Pointer) → F d ≡ Some m → pointee m (u ∷ R) ≡ pointee d (u ∷ R)
local_found t u F f other d m R fa =
    let x : Made f.h t d m = made f.h t d m (sym (f.is d) ∙ fa) in
    found_kept f.h f.h u t d m (λ h. other (sym h)) x R

-- ---- at the end of the tokens that two pointers share

altered_found : (f : Data → Option Data) (d : Data) (S : Pointer) (p : Data) → pointee d S ≡ Some p → after_change f d S ≡ option_and_then (λ q. after_replace d S q) (f p)
altered_found f d S p at = altered_walks f d S ∙ ap (option_and_then (λ p. option_and_then (λ q. after_replace d S q) (f p))) at

-- f changes what stands at S, and m is left
record MadeAt (f : Data → Option Data) (d : Data) (S : Pointer) (m : Data) : Type 0 where
  p : Data
  q : Data
  at : pointee d S ≡ Some p
  gives : f p ≡ Some q
  puts : after_replace d S q ≡ Some m

made_at : (f : Data → Option Data) (d : Data) (S : Pointer) (m : Data) → after_change f d S ≡ Some m → MadeAt f d S m
made_at f d S m is =
    option_and_then_some _ (pointee d S) m (sym (altered_walks f d S) ∙ is) (λ p at more.
    option_and_then_some _ (f p) m more (λ q gives puts.
    record { p = p; q = q; at = at; gives = gives; puts = puts }))

-- nothing is left: nothing stands there, or f refuses it
none_at : (f : Data → Option Data) (d : Data) (S : Pointer) (p : Data) → IsDocument d → pointee d S ≡ Some p → after_change f d S ≡ None → f p ≡ None
none_at f d S p hd at is = on (f p) refl
  where
    on : (o : Option Data) → f p ≡ o → o ≡ None
    on None e = refl
    on (Some q) e =
        let x : (x : Data) × (after_replace d S q ≡ Some x) = some_replaced d S p hd at q in
        let y : after_change f d S ≡ Some x.0 = altered_found f d S p at ∙ ap (option_and_then (λ q. after_replace d S q)) e ∙ x.1 in cc

module _ (F G : Data → Option Data) (d : Data) (S : Pointer) (hd : IsDocument d) (keepF : (p q : Data) → IsDocument p → F p ≡ Some q → IsDocument q) (keepG : (p q : Data) → IsDocument p → G p ≡ Some q → IsDocument q)
    (cross : (p : Data) → IsDocument p → Cross F G (F p) (G p)) where
  -- after a change of p to q at S, another of q
  second : (H : Data → Option Data) (p q m : Data) → IsDocument q → after_replace d S q ≡ Some m → (e : Data) → IsDocument e → H q ≡ Some e → after_change H m S ≡ after_replace d S e
  second H p q m hq puts e he is =
      let r : Replaces d S q m = replaces d S q m hd hq puts in
      altered_found H m S q r.found_there ∙ ap (option_and_then (λ x. after_replace m S x)) is ∙ r.again e he

  second_none : (H : Data → Option Data) (q m : Data) → IsDocument q → after_replace d S q ≡ Some m → H q ≡ None → after_change H m S ≡ None
  second_none H q m hq puts is =
      let r : Replaces d S q m = replaces d S q m hd hq puts in
      altered_found H m S q r.found_there ∙ ap (option_and_then (λ x. after_replace m S x)) is

  crossed : (p : Data) (a b : Option Data) → IsDocument p → F p ≡ a → G p ≡ b → Cross F G a b
  crossed p a b hp fa gb = subst (λ x. Cross F G x b) fa (subst (λ x. Cross F G (F p) x) gb (cross p hp))

  pub along_cross : (a b : Option Data) → after_change F d S ≡ a → after_change G d S ≡ b → Cross (λ x. after_change F x S) (λ x. after_change G x S) a b
  along_cross (Some m) (Some n) fa gb =
      let x : MadeAt F d S m = made_at F d S m fa in
      let y : MadeAt G d S n = made_at G d S n gb in
      let one : y.p ≡ x.p = (let e : ◌≡◌ {A = Option Data} (Some y.p) (Some x.p) = sym y.at ∙ x.at in cc) in
      let hp : IsDocument x.p = found_document d S x.p hd x.at in
      let gy : G x.p ≡ Some y.q = ap G (sym one) ∙ y.gives in
      let hq : IsDocument x.q = keepF x.p x.q hp x.gives in
      let hr : IsDocument y.q = keepG x.p y.q hp gy in
      let c : (e : Data) × (G x.q ≡ Some e) × (F y.q ≡ Some e) = crossed x.p (Some x.q) (Some y.q) hp x.gives gy in
      let he : IsDocument c.0 = keepG x.q c.0 hq c.1 in
      let z : (z : Data) × (after_replace d S c.0 ≡ Some z) = some_replaced d S x.p hd x.at c.0 in
      (z.0, second G x.p x.q m hq x.puts c.0 he c.1 ∙ z.1, second F x.p y.q n hr y.puts c.0 he c.2 ∙ z.1)
  along_cross (Some m) None fa gb =
      let x : MadeAt F d S m = made_at F d S m fa in
      let hp : IsDocument x.p = found_document d S x.p hd x.at in
      second_none G x.q m (keepF x.p x.q hp x.gives) x.puts (crossed x.p (Some x.q) None hp x.gives (none_at G d S x.p hd x.at gb))
  along_cross None (Some n) fa gb =
      let y : MadeAt G d S n = made_at G d S n gb in
      let hp : IsDocument y.p = found_document d S y.p hd y.at in
      second_none F y.q n (keepG y.p y.q hp y.gives) y.puts (crossed y.p None (Some y.q) hp (none_at F d S y.p hd y.at fa) y.gives)
  along_cross None None fa gb = tt

-- ---- a change that is all at or below a pointer

-- cut anywhere before its end, it changes one child alone
pub record Acts (C : Data → Option Data) (P : Pointer) : Type 0 where
  pub at : (S : Pointer) (t : List ℕ) (A : Pointer) → P ≡ S ++ t ∷ A → (F : Data → Option Data) × IsLocal t F × ((d : Data) → C d ≡ after_change F d S)

-- two pointers that diverge, and the tokens that they share
pub record Fork (P Q : Pointer) : Type 0 where
  pub S : Pointer
  pub t : List ℕ
  pub u : List ℕ
  pub A : Pointer
  pub B : Pointer
  pub left : P ≡ S ++ t ∷ A
  pub right : Q ≡ S ++ u ∷ B
  pub other : t ≡ u → ⊥

pub acts_cross : (C D : Data → Option Data) (P Q : Pointer) → Acts C P → Acts D Q → Fork P Q → (d : Data) → IsDocument d → Cross C D (C d) (D d)
acts_cross C D P Q c e k d hd =
    let x : (F : Data → Option Data) × IsLocal k.t F × ((d : Data) → C d ≡ after_change F d k.S) = c.at k.S k.t k.A k.left in
    let y : (G : Data → Option Data) × IsLocal k.u G × ((d : Data) → D d ≡ after_change G d k.S) = e.at k.S k.u k.B k.right in
    along x.0 y.0 x.1 y.1 x.2 y.2
  where
    along : (F G : Data → Option Data) → IsLocal k.t F → IsLocal k.u G → ((d : Data) → C d ≡ after_change F d k.S) → ((d : Data) → D d ≡ after_change G d k.S) → Cross C D (C d) (D d)
    along F G f g cs ds =
        let one : (λ (z : Data). after_change F z k.S) ≡ C = λ i z. sym (cs z) i in
        let two : (λ (z : Data). after_change G z k.S) ≡ D = λ i z. sym (ds z) i in
        subst (λ (X : Data → Option Data). Cross X D (X d) (D d)) one
        (subst (λ (Y : Data → Option Data). Cross (λ (z : Data). after_change F z k.S) Y (after_change F d k.S) (Y d)) two
        (along_cross F G d k.S hd (local_document k.t F f) (local_document k.u G g)
        (λ p hp. local_cross k.t k.u F G f g k.other p hp (F p) (G p) refl refl) (after_change F d k.S) (after_change G d k.S) refl refl))

-- what is found at a pointer that diverges from where a change is made
pub acts_found : (C : Data → Option Data) (P Q : Pointer) → Acts C P → Fork P Q → (d m : Data) → IsDocument d → C d ≡ Some m → pointee m Q ≡ pointee d Q
acts_found C P Q c k d m hd is =
    let x : (F : Data → Option Data) × IsLocal k.t F × ((d : Data) → C d ≡ after_change F d k.S) = c.at k.S k.t k.A k.left in
    let y : MadeAt x.0 d k.S m = made_at x.0 d k.S m (sym (x.2 d) ∙ is) in
    let hp : IsDocument y.p = found_document d k.S y.p hd y.at in
    let r : Replaces d k.S y.q m = replaces d k.S y.q m hd (local_document k.t x.0 x.1 y.p y.q hp y.gives) y.puts in
    ap (pointee m) k.right ∙ found_under m k.S (k.u ∷ k.B) y.q r.found_there
    ∙ local_found k.t k.u x.0 x.1 k.other y.p y.q k.B y.gives
    ∙ sym (found_under d k.S (k.u ∷ k.B) y.p y.at) ∙ sym (ap (pointee d) k.right)

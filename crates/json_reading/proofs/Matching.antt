-- Members found by their names.
use Rattle.std.proofs.Common.{◌≡◌, ◌<◌, ◌≤◌, ◌+◌, ◌⊎◌, zero, suc, [], ◌∷◌, length, drop, get_or, arith, ◌↔◌, inl, inr, ⊎_elim, ℕ, List, Bool, true, false, cond, bytes_eq, Option, Some, None, option_map, refl, sym, ap, ap₂, ◌∙◌, subst}
use Rattle.std.proofs.lemmas.Bool.{cases_Bool, false≢true}
use Rattle.std.proofs.lemmas.List.{drop_more, drop_all}
use Rattle.std.proofs.lemmas.Option.{none-some, same_Some}
use Rattle.std.proofs.lemmas.Slice.Eq.{bytes_eq-Decides}
use Rattle.std.proofs.lemmas.Map.Text.{btree_map_updates_str, is_eq-slice_cmp}
use Rattle.std.specs.Bool.{Decides}
use Rattle.std.specs.Prelude.{IsTrue, IfOk, Result, Ok, Err}
use Rattle.std.specs.declared.alloc.AllocError.{AllocError}
use Rattle.std.specs.BTreeMap.{BTreeMap, UpdatesBy}
use Rattle.std.specs.Borrow.{Bor}
use Rattle.std.specs.Cmp.Lexicographic.{slice_cmp}
use Rattle.std.specs.Map.{lookup}
use Rattle.std.specs.Ordering.{nat_cmp, is_eq}
use Rattle.json.specs.Json.{Json, object, Members, no_members, member}
use Rattle.json.specs.Find.{get_member, later_or}
use Rattle.json.specs.Tree.{depth, items_depth, members_depth}
use Rattle.json.specs.Value.{value_view, items_view, members_view}
use Rattle.json.specs.declared.value.Value.{Value}
use Rattle.json_reading.specs.Matching.{stands, Matched, SameAt}
use Rattle.json_reading.specs.Same.{SameTree, EachIn, HasNames}

mapped : {A B : Type 0} (f : A → B) (b : Bool) (a : Option A) (o : Option A) → option_map f (cond b a o) ≡ cond b (option_map f a) (option_map f o)
mapped f true a o = refl
mapped f false a o = refl

-- after a change at one name
pub stands_after : {A : Type 0} (m n : BTreeMap (Bor (List ℕ)) (Bor (Value A))) (l : List ℕ) (w : Option (Bor (Value A))) → UpdatesBy (λ x y. slice_cmp nat_cmp x.now y.now) (λ k. slice_cmp nat_cmp l k.now) m n w
    → (k : List ℕ) → stands k n ≡ cond (bytes_eq l k) (option_map (λ v. value_view v.now) w) (stands k m)
stands_after m n l w h k = ap (option_map (λ v. value_view v.now)) (btree_map_updates_str l m n w h k) ∙ mapped (λ v. value_view v.now) (bytes_eq l k) w _

pub stands_same : {A : Type 0} (m n : BTreeMap (Bor (List ℕ)) (Bor (Value A))) → n.entries ≡ m.entries → (k : List ℕ) → stands k n ≡ stands k m
stands_same m n e k = ap (λ es. option_map (λ v. value_view v.now) (lookup (λ l. is_eq (slice_cmp nat_cmp k l.now)) es)) e

-- one member more is passed
pub member_passed : (k l : List ℕ) (j : Json) (ms : Members) (o : Option Json) → later_or (get_member k ms) (cond (bytes_eq l k) (Some j) o) ≡ later_or (get_member k (member l j ms)) o
member_passed k l j ms o = by (get_member k ms) (bytes_eq l k)
  where
    by : (later : Option Json) (b : Bool) → later_or later (cond b (Some j) o) ≡ later_or (later_or later (cond b (Some j) None)) o
    by None true = refl
    by None false = refl
    by (Some i) b = refl

-- ---- at each name

-- k stands in ns too, for a tree that is the same as i
abbrev One : List ℕ → Json → Members → Type 0
One k i ns = (j : Json) × (get_member k ns ≡ Some j) × SameTree i j

one_at : (k : List ℕ) (i : Json) (ms ns : Members) (o : Option Json) → get_member k ms ≡ Some i → get_member k ns ≡ o → SameAt (get_member k ms) o → One k i ns
one_at k i ms ns None e f h = absurd (subst (λ p. SameAt p None) e h)
one_at k i ms ns (Some j) e f h = (j, f, subst (λ p. SameAt p (Some j)) e h)

at_one : (k : List ℕ) (ms ns : Members) (o : Option Json) → get_member k ms ≡ o → ((i : Json) → o ≡ Some i → One k i ns) → HasNames ms ns → SameAt o (get_member k ns)
at_one k ms ns None e each names = subst (SameAt None) (sym (names k e)) tt
at_one k ms ns (Some i) e each names = let (j, there, same) = each i refl in subst (SameAt (Some i)) (sym there) same

first_here : (k : List ℕ) (i : Json) (ms : Members) → get_member k ms ≡ None → get_member k (member k i ms) ≡ Some i
first_here k i ms e = ap₂ (λ o b. later_or o (cond b (Some i) None)) e ((bytes_eq-Decides k k).1 refl)

later_here : (k l : List ℕ) (i j : Json) (ms : Members) → get_member k ms ≡ Some i → get_member k (member l j ms) ≡ Some i
later_here k l i j ms e = ap (λ o. later_or o (cond (bytes_eq l k) (Some j) None)) e

all_in : (ms ns : Members) → ((k : List ℕ) (i : Json) → get_member k ms ≡ Some i → One k i ns) → EachIn ms ns
all_in no_members ns h = tt
all_in (member k i ms) ns h = (λ none. h k i (first_here k i ms none), all_in ms ns (λ l j e. h l j (later_here l k j i ms e)))

one_in_step : (k l : List ℕ) (x i : Json) (ms ns : Members) (o : Option Json) (b : Bool) → get_member k ms ≡ o → bytes_eq l k ≡ b → later_or o (cond b (Some x) None) ≡ Some i
    → (get_member l ms ≡ None → One l x ns) → (get_member k ms ≡ Some i → One k i ns) → One k i ns
one_in_step k l x i ms ns (Some y) b at is e first rest = rest (at ∙ e)
one_in_step k l x i ms ns None true at is e first rest =
    let same : l ≡ k = (bytes_eq-Decides l k).0 is in
    subst (λ y. One k y ns) (same_Some x i e) (subst (λ n. One n x ns) same (first (ap (λ n. get_member n ms) same ∙ at)))
one_in_step k l x i ms ns None false at is e first rest = absurd (none-some i e)

one_in : (ms ns : Members) → EachIn ms ns → (k : List ℕ) (i : Json) → get_member k ms ≡ Some i → One k i ns
one_in no_members ns h k i at = absurd (none-some i at)
one_in (member l x ms) ns h k i at = one_in_step k l x i ms ns (get_member k ms) (bytes_eq l k) refl refl at h.0 (one_in ms ns h.1 k i)

names_in : (k : List ℕ) (ms ns : Members) → SameAt (get_member k ms) (get_member k ns) → get_member k ms ≡ None → get_member k ns ≡ None
names_in k ms ns h e = by (get_member k ns) (subst (λ o. SameAt o (get_member k ns)) e h)
  where
    by : (o : Option Json) → SameAt None o → o ≡ None
    by None h = refl
    by (Some j) h = absurd h

-- two objects are the same exactly where they are at each name
pub same_objects : (ms ns : Members) → (EachIn ms ns × HasNames ms ns) ↔ ((k : List ℕ) → SameAt (get_member k ms) (get_member k ns))
same_objects ms ns = (
  λ h k. at_one k ms ns (get_member k ms) refl (one_in ms ns h.0 k) h.1,
  λ h. (all_in ms ns (λ k i e. one_at k i ms ns (get_member k ns) e refl (h k)), λ k e. names_in k ms ns (h k) e),
)

-- ---- one name after another

pub begins : (ms ns : Members) (f g : List ℕ → Option Json) → ((k : List ℕ) → f k ≡ get_member k ms) → ((k : List ℕ) → g k ≡ get_member k ns) → Matched ms ns ms f g
begins ms ns f g a b = record { each = λ k. inl (a k, b k); ahead = λ k none. a k ∙ none }

still_ahead : (k l : List ℕ) (j : Json) (rest : Members) → bytes_eq l k ≡ false → get_member k rest ≡ None → get_member k (member l j rest) ≡ None
still_ahead k l j rest b e = ap₂ (λ o c. later_or o (cond c (Some j) None)) e b

module _ (ms ns rest : Members) (l : List ℕ) (j : Json) (f g : List ℕ → Option Json) (h : Matched ms ns (member l j rest) f g) where
  -- nothing is left at this name
  pub skipped : (f' : List ℕ → Option Json) → ((k : List ℕ) → f' k ≡ f k) → f l ≡ None → Matched ms ns rest f' g
  skipped f' same none = record {
    each = λ k. subst (λ o. ((o ≡ get_member k ms) × (g k ≡ get_member k ns)) ⊎ ((o ≡ None) × (g k ≡ None) × SameAt (get_member k ms) (get_member k ns))) (sym (same k)) (h.each k);
    ahead = λ k e. same k ∙ ⊎_elim (λ b. ap f (sym ((bytes_eq-Decides l k).0 b)) ∙ none) (λ b. h.ahead k (still_ahead k l j rest b e)) (cases_Bool (bytes_eq l k));
  }

  here_both : (x : Json) → f l ≡ Some x → (f l ≡ get_member l ms) × (g l ≡ get_member l ns)
  here_both x e = ⊎_elim (λ p. p) (λ p. absurd (none-some x (sym p.0 ∙ e))) (h.each l)

  -- both have the same at this name, and it is taken out of both
  pub met : (x y : Json) (f' g' : List ℕ → Option Json) → f l ≡ Some x → g l ≡ Some y → SameTree x y → ((k : List ℕ) → f' k ≡ cond (bytes_eq l k) None (f k)) → ((k : List ℕ) → g' k ≡ cond (bytes_eq l k) None (g k))
      → Matched ms ns rest f' g'
  met x y f' g' e d same a b = record {
    each = λ k. ⊎_elim
        (λ t. let is : l ≡ k = (bytes_eq-Decides l k).0 t in inr (
          a k ∙ ap (λ c. cond c None (f k)) t,
          b k ∙ ap (λ c. cond c None (g k)) t,
          subst (λ n. SameAt (get_member n ms) (get_member n ns)) is (let p = here_both x e in subst (λ o. SameAt o (get_member l ns)) (sym e ∙ p.0) (subst (SameAt (Some x)) (sym d ∙ p.1) same)),
        ))
        (λ t. let u : f' k ≡ f k = a k ∙ ap (λ c. cond c None (f k)) t in
        let w : g' k ≡ g k = b k ∙ ap (λ c. cond c None (g k)) t in
        ⊎_elim (λ p. inl (u ∙ p.0, w ∙ p.1)) (λ p. inr (u ∙ p.0, w ∙ p.1, p.2)) (h.each k))
        (cases_Bool (bytes_eq l k));
    ahead = λ k none. a k ∙ ⊎_elim (λ t. ap (λ c. cond c None (f k)) t) (λ t. ap (λ c. cond c None (f k)) t ∙ h.ahead k (still_ahead k l j rest t none)) (cases_Bool (bytes_eq l k));
  }

  pub missing : (x : Json) → f l ≡ Some x → g l ≡ None → ((k : List ℕ) → SameAt (get_member k ms) (get_member k ns)) → ⊥
  missing x e d all = let p = here_both x e in subst (SameAt (Some x)) (sym p.1 ∙ d) (subst (λ o. SameAt o (get_member l ns)) (sym p.0 ∙ e) (all l))

  pub differs : (x y : Json) → f l ≡ Some x → g l ≡ Some y → (SameTree x y → ⊥) → ((k : List ℕ) → SameAt (get_member k ms) (get_member k ns)) → ⊥
  differs x y e d out all = let p = here_both x e in out (subst (SameAt (Some x)) (sym p.1 ∙ d) (subst (λ o. SameAt o (get_member l ns)) (sym p.0 ∙ e) (all l)))

module _ (ms ns : Members) (f g : List ℕ → Option Json) (h : Matched ms ns no_members f g) where
  pub all_met : ((k : List ℕ) → g k ≡ None) → (k : List ℕ) → SameAt (get_member k ms) (get_member k ns)
  all_met none k = ⊎_elim
      (λ p. subst (λ o. SameAt o (get_member k ns)) (sym (sym p.0 ∙ h.ahead k refl)) (subst (SameAt None) (sym (sym p.1 ∙ none k)) tt))
      (λ p. p.2)
      (h.each k)

  pub one_left : (k : List ℕ) (y : Json) → g k ≡ Some y → ((k : List ℕ) → SameAt (get_member k ms) (get_member k ns)) → ⊥
  one_left k y e all = ⊎_elim
      (λ p. subst (SameAt None) (sym p.1 ∙ e) (subst (λ o. SameAt o (get_member k ns)) (sym p.0 ∙ h.ahead k refl) (all k)))
      (λ p. none-some y (sym p.1 ∙ e))
      (h.each k)

-- ---- the members ahead, and how deep they nest

pub next_member : {A : Type 0} (es : List (Bor (List ℕ) × Value A)) (i : ℕ) (e : Bor (List ℕ) × Value A) → i < length es → e ≡ get_or es i e → members_view (drop i es) ≡ member e.0.now (value_view e.1) (members_view (drop (i + 1) es))
next_member es i e h is = ap members_view (drop_more es i e h ∙ ap (λ x. x ∷ drop (i + 1) es) (sym is))

pub element_depth : {A : Type 0} (vs : List (Value A)) (i : ℕ) (v : Value A) → i < length vs → v ≡ get_or vs i v → depth (value_view v) ≤ items_depth (items_view vs)
element_depth [] i v h is = absurd (omega (arith, h))
element_depth (w ∷ vs) zero v h is = omega (arith, ap (λ x. depth (value_view x)) is)
element_depth (w ∷ vs) (suc i) v h is = omega (arith, element_depth vs i v (omega (arith, h)) is)

pub member_depth : (k : List ℕ) (i : Json) (ms : Members) → get_member k ms ≡ Some i → depth i ≤ members_depth ms
member_depth k i no_members e = absurd (none-some i e)
member_depth k i (member l j ms) e = by (get_member k ms) (bytes_eq l k) e (member_depth k i ms)
  where
    by : (o : Option Json) (b : Bool) → later_or o (cond b (Some j) None) ≡ Some i → (o ≡ Some i → depth i ≤ members_depth ms) → depth i ≤ members_depth (member l j ms)
    by (Some x) b at h = omega (arith, h at)
    by None true at h = omega (arith, ap depth (same_Some j i at))
    by None false at h = absurd (none-some i at)

-- ---- the same over the two maps

abbrev Names : Type 0 → Type 0
Names A = BTreeMap (Bor (List ℕ)) (Bor (Value A))

abbrev at_name : {A : Type 0} → List ℕ → Names A → Option (Bor (Value A))
at_name l m = lookup (λ k. is_eq (slice_cmp nat_cmp l k.now)) m.entries

abbrev Changes : {A : Type 0} → List ℕ → Names A → Names A → Type 0
Changes l m n = UpdatesBy (λ x y. slice_cmp nat_cmp x.now y.now) (λ k. slice_cmp nat_cmp l k.now) m n None

module _ {A : Type 0} (ms ns : Members) (m n : Names A) (es : List (Bor (List ℕ) × Value A)) (i : ℕ) (e : Bor (List ℕ) × Value A)
    (h : Matched ms ns (members_view (drop i es)) (λ k. stands k m) (λ k. stands k n)) (in_list : i < length es) (is : e ≡ get_or es i e) where
  next : Matched ms ns (member e.0.now (value_view e.1) (members_view (drop (i + 1) es))) (λ k. stands k m) (λ k. stands k n)
  next = subst (λ r. Matched ms ns r (λ k. stands k m) (λ k. stands k n)) (next_member es i e in_list is) h

  seen : {o : Option (Bor (Value A))} (b : Names A) → o ≡ at_name e.0.now b → stands e.0.now b ≡ option_map (λ v. value_view v.now) o
  seen b at = ap (option_map (λ v. value_view v.now)) (sym at)

  pub skips_name : (m' : Names A) → m'.entries ≡ m.entries → None ≡ at_name e.0.now m → Matched ms ns (members_view (drop (i + 1) es)) (λ k. stands k m') (λ k. stands k n)
  skips_name m' same none = skipped ms ns (members_view (drop (i + 1) es)) e.0.now (value_view e.1) (λ k. stands k m) (λ k. stands k n) next (λ k. stands k m') (stands_same m m' same) (seen m none)

  pub lacks_name : (x : Bor (Value A)) → Some x ≡ at_name e.0.now m → None ≡ at_name e.0.now n → ((k : List ℕ) → SameAt (get_member k ms) (get_member k ns)) → ⊥
  lacks_name x at none = missing ms ns (members_view (drop (i + 1) es)) e.0.now (value_view e.1) (λ k. stands k m) (λ k. stands k n) next (value_view x.now) (seen m at) (seen n none)

  pub differs_there : (x y : Bor (Value A)) → Some x ≡ at_name e.0.now m → Some y ≡ at_name e.0.now n → (SameTree (value_view x.now) (value_view y.now) → ⊥) → ((k : List ℕ) → SameAt (get_member k ms) (get_member k ns)) → ⊥
  differs_there x y at there = differs ms ns (members_view (drop (i + 1) es)) e.0.now (value_view e.1) (λ k. stands k m) (λ k. stands k n) next (value_view x.now) (value_view y.now) (seen m at) (seen n there)

  pub same_there : (x y : Bor (Value A)) (m' n' : Names A) → Some x ≡ at_name e.0.now m → Some y ≡ at_name e.0.now n → SameTree (value_view x.now) (value_view y.now) → Changes e.0.now m m' → Changes e.0.now n n'
      → Matched ms ns (members_view (drop (i + 1) es)) (λ k. stands k m') (λ k. stands k n')
  same_there x y m' n' at there same c d = met ms ns (members_view (drop (i + 1) es)) e.0.now (value_view e.1) (λ k. stands k m) (λ k. stands k n) next (value_view x.now) (value_view y.now) (λ k. stands k m') (λ k. stands k n') (seen m at) (seen n there) same
      (stands_after m m' e.0.now None c) (stands_after n n' e.0.now None d)

  pub no_deeper : (x : Bor (Value A)) → Some x ≡ at_name e.0.now m → depth (value_view x.now) ≤ members_depth ms
  no_deeper x at = member_depth e.0.now (value_view x.now) ms (sym (here_both ms ns (members_view (drop (i + 1) es)) e.0.now (value_view e.1) (λ k. stands k m) (λ k. stands k n) next (value_view x.now) (seen m at)).0 ∙ seen m at)

first_key : {A : Type 0} (es : List (Bor (List ℕ) × Bor (Value A))) → (length es ≡ 0 → ⊥) → (k : List ℕ) × (v : Bor (Value A)) × (lookup (λ l. is_eq (slice_cmp nat_cmp k l.now)) es ≡ Some v)
first_key [] out = absurd (out refl)
first_key ((k, v) ∷ es) out = (k.now, v, ap (λ b. cond b (Some v) (lookup (λ l. is_eq (slice_cmp nat_cmp k.now l.now)) es)) (is_eq-slice_cmp k.now k.now ∙ (bytes_eq-Decides k.now k.now).1 refl))

-- once all names are passed, the second map is empty exactly where the two are the same
pub decided : {A : Type 0} (ms ns : Members) (m n : Names A) (es : List (Bor (List ℕ) × Value A)) (i : ℕ) (b : Bool) → Matched ms ns (members_view (drop i es)) (λ k. stands k m) (λ k. stands k n) → length es ≤ i → (IsTrue b ↔ (length n.entries ≡ 0))
    → Decides b ((k : List ℕ) → SameAt (get_member k ms) (get_member k ns))
decided ms ns m n es i b h past tested =
    let done : Matched ms ns no_members (λ k. stands k m) (λ k. stands k n) = subst (λ r. Matched ms ns (members_view r) (λ k. stands k m) (λ k. stands k n)) (drop_all i es past) h in (
      λ yes. all_met ms ns (λ k. stands k m) (λ k. stands k n) done (λ k. ap (λ xs. option_map (λ v. value_view v.now) (lookup (λ l. is_eq (slice_cmp nat_cmp k l.now)) xs)) (none_left n.entries (tested.0 yes))),
      λ all. ⊎_elim (λ t. t) (λ f. let (k, v, at) = first_key n.entries (λ z. absurd (false≢true (sym f ∙ tested.1 z))) in absurd (one_left ms ns (λ k. stands k m) (λ k. stands k n) done k (value_view v.now) (ap (option_map (λ v. value_view v.now)) at) all)) (cases_Bool b),
    )
  where
    none_left : {B : Type 0} (xs : List B) → length xs ≡ 0 → xs ≡ []
    none_left [] z = refl
    none_left (x ∷ xs) z = absurd (omega (arith, z))

pub decides_objects : {A : Type 0} (a b : Value A) (ms ns : Members) (r : Result Bool AllocError) → value_view a ≡ object ms → value_view b ≡ object ns → IfOk r (λ s. Decides s ((k : List ℕ) → SameAt (get_member k ms) (get_member k ns)))
    → IfOk r (λ s. Decides s (SameTree (value_view a) (value_view b)))
decides_objects a b ms ns (Err e) f g h = tt
decides_objects a b ms ns (Ok s) f g h = rw (f, g) (λ t. (same_objects ms ns).1 (h.0 t), λ t. h.1 ((same_objects ms ns).0 t))

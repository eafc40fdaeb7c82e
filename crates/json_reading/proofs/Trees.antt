-- Two trees are the same, or some reading tells them apart.
use Rattle.std.proofs.Common.{◌≡◌, ◌≢◌, ◌⊎◌, ◌↔◌, inl, inr, ℕ, List, Option, Some, None, Bool, true, false, cond, bytes_eq, option_map, refl, sym, ap, ap₂, ◌∙◌, subst}
use Rattle.std.proofs.lemmas.Bool.{false≢true}
use Rattle.std.proofs.lemmas.Option.{none-some, same_Some}
use Rattle.std.proofs.lemmas.Slice.Eq.{bytes_eq-Decides}
use Rattle.json.specs.Json.{Json, null, boolean, number, string, array, object, Items, no_items, item, Members, no_members, member}
use Rattle.json.specs.Find.{get_member, later_or}
use Rattle.serde_json.specs.Data as value
use Rattle.serde_json.specs.Find as find
use Rattle.json_number.specs.Numbers.{SameNumber}
use Rattle.json_number.proofs.Same.{is_same, is_same-Decides}
use Rattle.json_patch_document.specs.Same.{AreSame}
use Rattle.json_patch_document.proofs.SameDocuments.{AreSame-document}
use Rattle.json_reading.specs.Reading.{Reading}
use Rattle.json_reading.specs.Trees.{data_of, elements_of}
use Rattle.json_reading.specs.Same.{SameTree, SameElements, EachIn, HasNames}
use Rattle.json_reading.proofs.Told.{some_reading, told_apart}
use Rattle.json_reading.proofs.Documents.{IsDocument-data_of, members_are, found, one_object}

-- ---- one name more

-- k stands in ns, for a tree that is the document of i
abbrev One : Reading → List ℕ → Json → Members → Type 0
One r k i ns = (j : Json) × (get_member k ns ≡ Some j) × (data_of r i ≡ data_of r j)

here : (b : Bool) (k l : List ℕ) → bytes_eq l k ≡ b → b ≡ true → l ≡ k
here b k l e t = (bytes_eq-Decides l k).0 (e ∙ t)

one_step : (r : Reading) (k l : List ℕ) (x i : Json) (ms ns : Members) (o : Option Json) (b : Bool) → get_member k ms ≡ o → bytes_eq l k ≡ b → later_or o (cond b (Some x) None) ≡ Some i
    → (get_member l ms ≡ None → One r l x ns) → (get_member k ms ≡ Some i → One r k i ns) → One r k i ns
one_step r k l x i ms ns (Some y) b at is e first rest = rest (at ∙ e)
one_step r k l x i ms ns None true at is e first rest =
    let same : l ≡ k = here true k l is refl in
    subst (λ y. One r k y ns) (same_Some x i e) (subst (λ n. One r n x ns) same (first (ap (λ n. get_member n ms) same ∙ at)))
one_step r k l x i ms ns None false at is e first rest = absurd (none-some i e)

-- the same at a name, from what is known of each that stands there
one_lookup : (r : Reading) (k : List ℕ) (ms ns : Members) (o : Option Json) → get_member k ms ≡ o → ((i : Json) → get_member k ms ≡ Some i → One r k i ns) → HasNames ms ns
    → option_map (data_of r) (get_member k ms) ≡ option_map (data_of r) (get_member k ns)
one_lookup r k ms ns None at each names = ap (option_map (data_of r)) (at ∙ sym (names k at))
one_lookup r k ms ns (Some i) at each names =
    let (j, there, same) = each i at in
    ap (option_map (data_of r)) at ∙ ap Some same ∙ sym (ap (option_map (data_of r)) there)

one_object_of : (r : Reading) (ms ns : Members) → ((k : List ℕ) (i : Json) → get_member k ms ≡ Some i → One r k i ns) → HasNames ms ns → data_of r (object ms) ≡ data_of r (object ns)
one_object_of r ms ns each names =
    one_object _ _ (members_are r ms) (members_are r ns) (λ k. found r k ms ∙ one_lookup r k ms ns (get_member k ms) refl (each k) names ∙ sym (found r k ns))

mutual
  pub one_document : (r : Reading) (i j : Json) → SameTree i j → data_of r i ≡ data_of r j
  one_document r null null h = refl
  one_document r (boolean b) (boolean c) h = ap value.boolean h
  one_document r (number s) (number t) h = ap value.number (r.alike s t h)
  one_document r (string s) (string t) h = ap value.string h
  one_document r (array js) (array ks) h = ap value.array (one_array r js ks h)
  one_document r (object ms) (object ns) h = one_object_of r ms ns (each_one r ms ns h.0) h.1
  one_document r _ _ h = absurd h

  one_array : (r : Reading) (js ks : Items) → SameElements js ks → elements_of r js ≡ elements_of r ks
  one_array r no_items no_items h = refl
  one_array r (item i js) (item j ks) h = ap₂ value.item (one_document r i j h.0) (one_array r js ks h.1)
  one_array r _ _ h = absurd h

  each_one : (r : Reading) (ms ns : Members) → EachIn ms ns → (k : List ℕ) (i : Json) → get_member k ms ≡ Some i → One r k i ns
  each_one r no_members ns h k i at = absurd (none-some i at)
  each_one r (member l x ms) ns h k i at =
      one_step r k l x i ms ns (get_member k ms) (bytes_eq l k) refl refl at (λ none. let (j, there, same) = h.0 none in (j, there, one_document r x j same)) (each_one r ms ns h.1 k i)

-- ---- told apart

abbrev Told : Json → Json → Type 0
Told i j = (r : Reading) × (data_of r i ≢ data_of r j)

abbrev ToldElements : Items → Items → Type 0
ToldElements js ks = (r : Reading) × (elements_of r js ≢ elements_of r ks)

-- a member of ms that ns has otherwise or not at all
abbrev ToldIn : Members → Members → Type 0
ToldIn ms ns = (r : Reading) × (k : List ℕ) × (i : Json) × (get_member k ms ≡ Some i) × (Some (data_of r i) ≢ option_map (data_of r) (get_member k ns))

abbrev HasFurther : Members → Members → Type 0
HasFurther ms ns = (k : List ℕ) × (j : Json) × (get_member k ms ≡ None) × (get_member k ns ≡ Some j)

abbrev Cases : Json → Json → Type 0
Cases i j = SameTree i j ⊎ Told i j

booleans : (b c : Bool) → (b ≡ c) ⊎ ((r : Reading) × (value.boolean b ≢ value.boolean c))
booleans true true = inl refl
booleans false false = inl refl
booleans true false = inr (some_reading, λ e. cc)
booleans false true = inr (some_reading, λ e. cc)

numbers : (s t : List ℕ) (b : Bool) → is_same s t ≡ b → SameNumber s t ⊎ ((r : Reading) × (value.number (r.of s) ≢ value.number (r.of t)))
numbers s t true e = inl ((is_same-Decides s t).0 e)
numbers s t false e =
    let (r, d) = told_apart s t (λ h. false≢true (sym e ∙ (is_same-Decides s t).1 h)) in
    inr (r, λ same. d cc)

strings : (s t : List ℕ) (b : Bool) → bytes_eq s t ≡ b → (s ≡ t) ⊎ ((r : Reading) × (value.string s ≢ value.string t))
strings s t true e = inl ((bytes_eq-Decides s t).0 e)
strings s t false e = inr (some_reading, λ same. false≢true (sym e ∙ (bytes_eq-Decides s t).1 cc))

arrays : (js ks : Items) → SameElements js ks ⊎ ToldElements js ks → SameElements js ks ⊎ Told (array js) (array ks)
arrays js ks (inl h) = inl h
arrays js ks (inr (r, d)) = inr (r, λ same. d cc)

elements_step : (i j : Json) (js ks : Items) → Cases i j → SameElements js ks ⊎ ToldElements js ks → (SameTree i j × SameElements js ks) ⊎ ToldElements (item i js) (item j ks)
elements_step i j js ks (inl h) (inl g) = inl (h, g)
elements_step i j js ks (inr (r, d)) g = inr (r, λ same. d cc)
elements_step i j js ks (inl h) (inr (r, d)) = inr (r, λ same. d cc)

-- what the members of two objects tell, from what one name does
object_lookup : (r : Reading) (k : List ℕ) (ms ns : Members) → data_of r (object ms) ≡ data_of r (object ns) → option_map (data_of r) (get_member k ms) ≡ option_map (data_of r) (get_member k ns)
object_lookup r k ms ns e = sym (found r k ms) ∙ ap (find.get k) e ∙ found r k ns

objects : (ms ns : Members) → EachIn ms ns ⊎ ToldIn ms ns → HasNames ms ns ⊎ HasFurther ms ns → (EachIn ms ns × HasNames ms ns) ⊎ Told (object ms) (object ns)
objects ms ns (inl h) (inl g) = inl (h, g)
objects ms ns (inr (r, k, i, at, d)) g = inr (r, λ same. d (sym (ap (option_map (data_of r)) at) ∙ object_lookup r k ms ns same))
objects ms ns (inl h) (inr (k, j, none, at)) =
    inr (some_reading, λ same. none-some _ (sym (ap (option_map (data_of some_reading)) none) ∙ object_lookup some_reading k ms ns same ∙ ap (option_map (data_of some_reading)) at))

itself : (k : List ℕ) → bytes_eq k k ≡ true
itself k = (bytes_eq-Decides k k).1 refl

first_named : (k : List ℕ) (i : Json) (ms : Members) → get_member k ms ≡ None → get_member k (member k i ms) ≡ Some i
first_named k i ms e = ap₂ (λ o b. later_or o (cond b (Some i) None)) e (itself k)

later_named : (k l : List ℕ) (i j : Json) (ms : Members) → get_member k ms ≡ Some i → get_member k (member l j ms) ≡ Some i
later_named k l i j ms e = ap (λ o. later_or o (cond (bytes_eq l k) (Some j) None)) e

-- the first member: hidden by a later one, or of a name that ns lacks, or both are compared
first_step : (k : List ℕ) (i : Json) (ms ns : Members) (o p : Option Json) → get_member k ms ≡ o → get_member k ns ≡ p → ((j : Json) → Cases i j)
    → (get_member k ms ≡ None → (j : Json) × (get_member k ns ≡ Some j) × SameTree i j) ⊎ ToldIn (member k i ms) ns
first_step k i ms ns (Some y) p e f compare = inl (λ none. absurd (none-some y (sym none ∙ e)))
first_step k i ms ns None None e f compare = inr (some_reading, k, i, first_named k i ms e, λ same. none-some _ (sym (same ∙ ap (option_map (data_of some_reading)) f)))
first_step k i ms ns None (Some j) e f compare = by (compare j)
  where
    by : Cases i j → (get_member k ms ≡ None → (j : Json) × (get_member k ns ≡ Some j) × SameTree i j) ⊎ ToldIn (member k i ms) ns
    by (inl s) = inl (λ none. (j, f, s))
    by (inr (r, d)) = inr (r, k, i, first_named k i ms e, λ same. d (same_Some _ _ (same ∙ ap (option_map (data_of r)) f)))

each_step : (k : List ℕ) (i : Json) (ms ns : Members) → (get_member k ms ≡ None → (j : Json) × (get_member k ns ≡ Some j) × SameTree i j) ⊎ ToldIn (member k i ms) ns → EachIn ms ns ⊎ ToldIn ms ns
    → EachIn (member k i ms) ns ⊎ ToldIn (member k i ms) ns
each_step k i ms ns (inl h) (inl g) = inl (h, g)
each_step k i ms ns (inr d) g = inr d
each_step k i ms ns (inl h) (inr (r, l, x, at, d)) = inr (r, l, x, later_named l k x i ms at, d)

names_step : (k : List ℕ) (j : Json) (ms ns : Members) (o : Option Json) → get_member k ms ≡ o → HasNames ms ns ⊎ HasFurther ms ns → HasNames ms (member k j ns) ⊎ HasFurther ms (member k j ns)
names_step k j ms ns o e (inr (l, x, none, at)) = inr (l, x, none, later_named l k x j ns at)
names_step k j ms ns None e (inl h) = inr (k, j, e, first_named k j ns (h k e))
names_step k j ms ns (Some x) e (inl h) = inl (λ l none. not_named l none (bytes_eq k l) refl)
  where
    not_named : (l : List ℕ) → get_member l ms ≡ None → (b : Bool) → bytes_eq k l ≡ b → later_or (get_member l ns) (cond b (Some j) None) ≡ None
    not_named l none true is = absurd (none-some x (sym none ∙ ap (λ n. get_member n ms) (sym (here true l k is refl)) ∙ e))
    not_named l none false is = ap (λ o. later_or o None) (h l none)

names_or_further : (ms ns : Members) → HasNames ms ns ⊎ HasFurther ms ns
names_or_further ms no_members = inl (λ k none. refl)
names_or_further ms (member k j ns) = names_step k j ms ns (get_member k ms) refl (names_or_further ms ns)

mutual
  pub same_or_told : (i j : Json) → Cases i j
  same_or_told null null = inl tt
  same_or_told (boolean b) (boolean c) = booleans b c
  same_or_told (number s) (number t) = numbers s t (is_same s t) refl
  same_or_told (string s) (string t) = strings s t (bytes_eq s t) refl
  same_or_told (array js) (array ks) = arrays js ks (elements_or_told js ks)
  same_or_told (object ms) (object ns) = objects ms ns (each_or_told ms ns) (names_or_further ms ns)
  same_or_told _ _ = inr (some_reading, λ e. cc)

  elements_or_told : (js ks : Items) → SameElements js ks ⊎ ToldElements js ks
  elements_or_told no_items no_items = inl tt
  elements_or_told (item i js) (item j ks) = elements_step i j js ks (same_or_told i j) (elements_or_told js ks)
  elements_or_told _ _ = inr (some_reading, λ e. cc)

  each_or_told : (ms ns : Members) → EachIn ms ns ⊎ ToldIn ms ns
  each_or_told no_members ns = inl tt
  each_or_told (member k i ms) ns =
      each_step k i ms ns (first_step k i ms ns (get_member k ms) (get_member k ns) refl refl (λ j. same_or_told i j)) (each_or_told ms ns)

-- ---- what is the same under each reading

are_same : (r : Reading) (i j : Json) → data_of r i ≡ data_of r j → AreSame (data_of r i) (data_of r j)
are_same r i j e = (AreSame-document (data_of r i) (data_of r j) (IsDocument-data_of r i)).1 e

are_one : (r : Reading) (i j : Json) → AreSame (data_of r i) (data_of r j) → data_of r i ≡ data_of r j
are_one r i j h = (AreSame-document (data_of r i) (data_of r j) (IsDocument-data_of r i)).0 h

pub told : (i j : Json) → ¬ SameTree i j → (r : Reading) × ¬ AreSame (data_of r i) (data_of r j)
told i j n = by (same_or_told i j)
  where
    by : Cases i j → (r : Reading) × ¬ AreSame (data_of r i) (data_of r j)
    by (inl s) = absurd (n s)
    by (inr (r, d)) = (r, λ h. d (are_one r i j h))

pub same_exactly : (i j : Json) → SameTree i j ↔ ((r : Reading) → AreSame (data_of r i) (data_of r j))
same_exactly i j = (λ s r. are_same r i j (one_document r i j s), λ h. by h (same_or_told i j))
  where
    by : ((r : Reading) → AreSame (data_of r i) (data_of r j)) → Cases i j → SameTree i j
    by h (inl s) = s
    by h (inr (r, d)) = absurd (d (are_one r i j (h r)))

-- On documents equality is `≡`, and what a comparison answers is what it says.
use Rattle.json_patch_document.proofs.Common.{◌≡◌, ◌↔◌, IsTrue, List, Bool, true, Option, Some, IfSome, sym, ap, subst, rules, Data, array, object, Items, item, Members, member, IsDocument, AreDocuments, AreMembers, ℕ, Ordering, Equal, nat_cmp, refl, slice_cmp, no_members, get_member, IsBelowMembers, Decides-at, Decides-like, same}
use Rattle.json_patch_document.specs.Same.{AreSame, AreSameItems, AreSameMembers, AreSameAt, AreInOrder}
use Rattle.json_patch_document.specs.SameLaws.{AreSame-refl, AreSame-sym, AreSame-trans, same-Decides}
use Rattle.json_patch_document.proofs.Members.{tied_same, less_back, below_more, below_absent, found_first}

mutual
  pub AreSame-is : (d e : Data) → IsDocument d → AreSame d e → d ≡ e
  AreSame-is (array ds) (array es) w h = ap array (items-is ds es w h)
  AreSame-is (object ms) (object ns) w h = ap object (members-is ms ns w h)
  AreSame-is d e w h = search rules

  items-is : (ds es : Items) → AreDocuments ds → AreSameItems ds es → ds ≡ es
  items-is (item d ds) (item e es) w h = rw (AreSame-is d e w.0 h.0, items-is ds es w.1 h.1)
  items-is ds es w h = search rules

  members-is : (ms ns : Members) → AreMembers ms → AreSameMembers ms ns → ms ≡ ns
  members-is (member k d ms) (member l e ns) w h = rw (h.0, AreSame-is d e w.1 h.1, members-is ms ns w.2 h.2)
  members-is ms ns w h = search rules

is-AreSame : (d e : Data) → d ≡ e → AreSame d e
is-AreSame d e is = subst (AreSame d) is (AreSame-refl d)

pub AreSame-document : (d e : Data) → IsDocument d → AreSame d e ↔ (d ≡ e)
AreSame-document d e w = (AreSame-is d e w, is-AreSame d e)

pub at-is : (o p : Option Data) → IfSome o IsDocument → AreSameAt o p → o ≡ p
at-is (Some d) (Some e) w h = ap Some (AreSame-is d e w h)
at-is o p w h = search rules

-- ---- what a comparison answers

pub same-is : (d e : Data) → IsDocument e → same d e ≡ true → d ≡ e
same-is d e w h = sym (AreSame-is e d w (AreSame-sym d e ((same-Decides d e).0 h)))

pub same-refl : (d : Data) → same d d ≡ true
same-refl d = (same-Decides d d).1 (AreSame-refl d)

pub same-says : (r : Bool) (d e : Data) → r ≡ same d e → IsTrue r ↔ AreSame d e
same-says r d e is = Decides-at r (same d e) is (same-Decides d e)

pub same-document : (r : Bool) (d e : Data) → r ≡ same d e → IsDocument d → IsTrue r ↔ (d ≡ e)
same-document r d e is w = Decides-like r (AreSame-is d e w) (is-AreSame d e) (same-says r d e is)

-- ---- objects whose members stand in order are the same where each name has the same in both

abbrev AreSameByName : Members → Members → Type 0
AreSameByName ms ns = (q : List ℕ) → AreSameAt (get_member q ms) (get_member q ns)

by_name : (ms ns : Members) → AreSameMembers ms ns → AreSameByName ms ns
by_name (member k d ms) (member l e ns) h q = search (rules, by_name ms ns)
by_name ms ns h q = search rules

module _ (k : List ℕ) (d e : Data) (ms ns : Members) (below : IsBelowMembers k ms) (under : IsBelowMembers k ns) (same : AreSameByName (member k d ms) (member k e ns)) where
  first_same : AreSame d e
  first_same = rw (found_first k d ms, found_first k e ns) at (same k)

  rest_at : (q : List ℕ) (o : Ordering) → slice_cmp nat_cmp q k ≡ o → AreSameAt (get_member q ms) (get_member q ns)
  rest_at q Equal is = let e : q ≡ k = tied_same q k is in rw (e, below_absent k ms below, below_absent k ns under) tt
  rest_at q o is = search rules

-- a name that is below all of ns is not in ns
left_alone : (k : List ℕ) (d : Data) (ms ns : Members) → IsBelowMembers k ns → AreSameAt (get_member k (member k d ms)) (get_member k ns) → ⊥
left_alone k d ms ns h same = rw (found_first k d ms, below_absent k ns h) at same

right_alone : (k : List ℕ) (e : Data) (ms ns : Members) → IsBelowMembers k ms → AreSameAt (get_member k ms) (get_member k (member k e ns)) → ⊥
right_alone k e ms ns h same = rw (found_first k e ns, below_absent k ms h) at same

step : (o : Ordering) (k l : List ℕ) (d e : Data) (ms ns : Members) → slice_cmp nat_cmp k l ≡ o → IsBelowMembers k ms → IsBelowMembers l ns
    → AreSameByName (member k d ms) (member l e ns) → (AreSameByName ms ns → AreSameMembers ms ns) → AreSameMembers (member k d ms) (member l e ns)
step Equal k l d e ms ns is below under same rest = search (rules, first_same k d e ms ns below, rest_at k d e ms ns below, tied_same k l is, first_same, rest_at, tied_same)
step o k l d e ms ns is below under same rest = search (rules, left_alone, below_more, less_back, right_alone)

in_turn : (ms ns : Members) → AreInOrder ms → AreInOrder ns → AreSameByName ms ns → AreSameMembers ms ns
in_turn no_members no_members h g same = tt
in_turn no_members (member l e ns) h g same = absurd (right_alone l e no_members ns tt (same l))
in_turn (member k d ms) no_members h g same = absurd (left_alone k d ms no_members tt (same k))
in_turn (member k d ms) (member l e ns) h g same =
    step (slice_cmp nat_cmp k l) k l d e ms ns refl h.0 g.0 same (λ s. in_turn ms ns h.1 g.1 s)

pub same_by_name : (ms ns : Members) → AreInOrder ms → AreInOrder ns
    → AreSame (object ms) (object ns) ↔ ((k : List ℕ) → AreSameAt (get_member k ms) (get_member k ns))
same_by_name ms ns h g = (by_name ms ns, in_turn ms ns h g)

-- what the laws of equality follow from
pub ruleset laws_of_equality = (AreSame-refl, AreSame-sym, AreSame-trans, AreSame-document)

-- Documents that look alike everywhere are equal.
use Rattle.json_patch_document.proofs.Common.{common_steps, ◌≡◌, ℕ, suc, List, [], ◌∷◌, Option, Ordering, Less, Equal, Greater}
use Rattle.json_patch_document.proofs.Common.{nat_cmp, refl, sym, ap, option_and_then, rules, arith, slice_cmp, Data, null}
use Rattle.json_patch_document.proofs.Common.{boolean, number, string, array, object, Items, no_items, item, Members, no_members}
use Rattle.json_patch_document.proofs.Common.{member, get_member, IsDocument, AreDocuments, AreMembers, IsBelowMembers, Segment}
use Rattle.json_patch_document.proofs.Common.{key, place, look, sight, sight_of, value_at, Sight}
use Rattle.json_patch_document.proofs.Members.{tied_same, less_back, below_more, below_absent, found_first}

pub something : (d : Data) → sight_of d ≡ Sight.nothing → ⊥
something d h = search rules

-- what is seen at R from o, which may be none
abbrev pub seen : Option Data → List Segment → Sight
seen o R = sight (option_and_then (λ e. value_at e R) o)

abbrev AreAlike : Members → Members → Type 0
AreAlike ms ns = (q : List ℕ) (R : List Segment) → seen (get_member q ms) R ≡ seen (get_member q ns) R

module _ (k : List ℕ) (d e : Data) (ms ns : Members) (below : IsBelowMembers k ms) (under : IsBelowMembers k ns) (same : AreAlike (member k d ms) (member k e ns)) where
  value_same : (R : List Segment) → look d R ≡ look e R
  value_same R = rw (found_first k d ms, found_first k e ns) at (same k R)

  rest_at : (q : List ℕ) (R : List Segment) (o : Ordering) → slice_cmp nat_cmp q k ≡ o → seen (get_member q ms) R ≡ seen (get_member q ns) R
  rest_at q R Less is = rw is at (same q R)
  rest_at q R Equal is = let e : q ≡ k = tied_same q k is in rw (e, below_absent k ms below, below_absent k ns under)
  rest_at q R Greater is = rw is at (same q R)

-- a name that is below all of ns is not in ns
apart : (k : List ℕ) (d : Data) (ms ns : Members) → IsBelowMembers k ns → seen (get_member k (member k d ms)) [] ≡ seen (get_member k ns) [] → ⊥
apart k d ms ns h same = something d (rw (found_first k d ms, below_absent k ns h) at same)

members_step : (o : Ordering) (k l : List ℕ) (d e : Data) (ms ns : Members) → slice_cmp nat_cmp k l ≡ o → IsBelowMembers k ms → IsBelowMembers l ns
    → AreAlike (member k d ms) (member l e ns) → (((R : List Segment) → look d R ≡ look e R) → d ≡ e) → (AreAlike ms ns → ms ≡ ns) → member k d ms ≡ member l e ns
members_step Less k l d e ms ns is below under same value rest = grind (arith, common_steps, apart k d ms (member l e ns) (is, below_more k l ns is under) (same k []), below_more k l ns is under)
members_step Equal k l d e ms ns is below under same value rest = grind (arith, common_steps, value_same k d e ms ns below, rest_at k d e ms ns below, tied_same k l is)
members_step Greater k l d e ms ns is below under same value rest = grind (arith, common_steps, less_back k l is, apart l e ns (member k d ms), below_more l k ms)

mutual
  pub alike : (d e : Data) → IsDocument d → IsDocument e → ((L : List Segment) → look d L ≡ look e L) → d ≡ e
  alike (array ds) (array es) hd he same = ap array (items_alike ds es hd he (λ i R. same (place i ∷ R)))
  alike (object ms) (object ns) hd he same = ap object (members_alike ms ns hd he (λ k R. same (key k ∷ R)))
  alike null null hd he same = refl
  alike (boolean b) (boolean c) hd he same = let h = same [] in cc
  alike (number m) (number n) hd he same = let h = same [] in cc
  alike (string s) (string t) hd he same = let h = same [] in cc
  alike d e hd he same = let h = same [] in cc

  items_alike : (ds es : Items) → AreDocuments ds → AreDocuments es → ((i : ℕ) (R : List Segment) → look (array ds) (place i ∷ R) ≡ look (array es) (place i ∷ R)) → ds ≡ es
  items_alike no_items no_items hd he same = refl
  items_alike no_items (item e es) hd he same = absurd (something e (sym (same 0 [])))
  items_alike (item d ds) no_items hd he same = absurd (something d (same 0 []))
  items_alike (item d ds) (item e es) hd he same =
      let a : d ≡ e = alike d e hd.0 he.0 (λ R. same 0 R) in
      let b : ds ≡ es = items_alike ds es hd.1 he.1 (λ i R. same (suc i) R) in cc

  members_alike : (ms ns : Members) → AreMembers ms → AreMembers ns → AreAlike ms ns → ms ≡ ns
  members_alike no_members no_members hd he same = refl
  members_alike no_members (member l e ns) hd he same = absurd (something e (rw (found_first l e ns) at (sym (same l []))))
  members_alike (member k d ms) no_members hd he same = absurd (something d (rw (found_first k d ms) at (same k [])))
  members_alike (member k d ms) (member l e ns) hd he same =
      members_step (slice_cmp nat_cmp k l) k l d e ms ns refl hd.0 he.0 same (λ s. alike d e hd.1 he.1 s) (λ s. members_alike ms ns hd.2 he.2 s)

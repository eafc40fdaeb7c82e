-- What is part of a document is no larger.
use Rattle.json_patch_document.proofs.Common.{◌≡◌, ℕ, suc, ◌≤◌, List, [], ◌∷◌, Option, Some, Ordering, Less, Equal, Greater, nat_cmp, refl, sym, ap, ◌∙◌, subst, arith, rules, length, slice_cmp, match_ordering}
use Rattle.json_patch_document.proofs.Common.{Data, null, boolean, number, string, array, object, Items, no_items, item, Members, no_members, member, get_member, get_item, IsDocument, AreDocuments, AreMembers, Segment, key, place, look, sight_of, Sight, without}
use Rattle.std.proofs.Common.{◌+◌, ◌≢◌}
use Rattle.json_patch_document.proofs.Members.{tied_same, found_first, skips, below_absent, get_without_other, without_members, member_document}
use Rattle.json_patch_document.proofs.Alike.{something}
use Rattle.json_merge_diff.specs.Leads.{IsPartOf}
use Rattle.json_merge_diff.specs.Least.{seen}
use Rattle.json_patch_limits.specs.OverLimits.{size, items_size, members_size}
use Rattle.json_merge_diff.proofs.Resetting.{found_below}

at_least_one : (q : Data) → 1 ≤ size q
at_least_one null = omega arith
at_least_one (boolean b) = omega arith
at_least_one (number n) = omega arith
at_least_one (string s) = omega arith
at_least_one (array ds) = omega arith
at_least_one (object ms) = omega arith

is_string : (q : Data) (s : List ℕ) → sight_of q ≡ Sight.string s → q ≡ string s
is_string q s h = search rules

is_array : (q : Data) → sight_of q ≡ Sight.array → (es : Items) × (q ≡ array es)
is_array (array es) h = (es, refl)
is_array q h = cc

is_object : (q : Data) → sight_of q ≡ Sight.object → (ns : Members) × (q ≡ object ns)
is_object (object ns) h = (ns, refl)
is_object q h = cc

taken_at : (o : Ordering) (k l : List ℕ) (d e : Data) (found : Option Data) (ns left : Members) → slice_cmp nat_cmp k l ≡ o → match_ordering o found (Some d) found ≡ Some e → (found ≡ Some e → members_size ns ≡ length k + (size e + members_size left))
    → length l + (size d + members_size ns) ≡ length k + (size e + members_size (match_ordering o (member l d left) ns (member l d left)))
taken_at Less k l d e found ns left is here more = let h = more here in omega arith
taken_at Equal k l d e found ns left is here more = let a : length k ≡ length l = ap length (tied_same k l is) in let same : d ≡ e = cc in let b : size d ≡ size e = ap size same in omega arith
taken_at Greater k l d e found ns left is here more = let h = more here in omega arith

taken : (k : List ℕ) (e : Data) (ns : Members) → get_member k ns ≡ Some e → members_size ns ≡ length k + (size e + members_size (without k ns))
taken k e no_members h = cc
taken k e (member l d ns) h = taken_at (slice_cmp nat_cmp k l) k l d e (get_member k ns) ns (without k ns) refl h (taken k e ns)

-- the first member of one is among those of the other, and the rest among the rest
module _ (k : List ℕ) (d : Data) (ms ns : Members) (below : IsDocument (object (member k d ms))) (h : (l : List ℕ) (R : List Segment) → seen (get_member l (member k d ms)) R ≢ Sight.nothing → seen (get_member l ns) R ≡ seen (get_member l (member k d ms)) R) where
  first_is : (R : List Segment) → seen (get_member k (member k d ms)) R ≡ look d R
  first_is R = ap (λ o. seen o R) (found_first k d ms)

  at_first : (R : List Segment) → look d R ≢ Sight.nothing → seen (get_member k ns) R ≡ look d R
  at_first R some = h k R (λ x. some (sym (first_is R) ∙ x)) ∙ first_is R

  pub first_there : (e : Data) × (get_member k ns ≡ Some e)
  first_there = found_below (get_member k ns) [] (λ none. something d (sym (at_first [] (something d)) ∙ none))

  pub first_part : (e : Data) → get_member k ns ≡ Some e → IsPartOf d e
  first_part e is R some = ap (λ o. seen o R) (sym is) ∙ at_first R some

  apart : (l : List ℕ) (R : List Segment) → seen (get_member l ms) R ≢ Sight.nothing → l ≢ k
  apart l R some = λ same. some (ap (λ x. seen (get_member x ms) R) same ∙ ap (λ o. seen o R) (below_absent k ms below.0))

  pub rest_part : (l : List ℕ) (R : List Segment) → seen (get_member l ms) R ≢ Sight.nothing → seen (get_member l (without k ns)) R ≡ seen (get_member l ms) R
  rest_part l R some =
      let other = apart l R some in
      let skip : seen (get_member l (member k d ms)) R ≡ seen (get_member l ms) R = ap (λ o. seen o R) (skips l k d ms other) in
      ap (λ o. seen o R) (get_without_other l k ns other) ∙ h l R (λ x. some (sym skip ∙ x)) ∙ skip

mutual
  pub part_size : (p q : Data) → IsDocument p → IsDocument q → IsPartOf p q → size p ≤ size q
  part_size null q hp hq h = at_least_one q
  part_size (boolean b) q hp hq h = at_least_one q
  part_size (number n) q hp hq h = at_least_one q
  part_size (string s) q hp hq h = let e : size q ≡ size (string s) = ap size (is_string q s (h [] (λ x. cc))) in omega arith
  part_size (array ds) q hp hq h =
      let e = is_array q (h [] (λ x. cc)) in
      let s : size q ≡ size (array e.0) = ap size e.1 in
      let hs : AreDocuments e.0 = subst IsDocument e.1 hq in
      let part : IsPartOf (array ds) (array e.0) = subst (IsPartOf (array ds)) e.1 h in
      let le : items_size ds ≤ items_size e.0 = items_part_size ds e.0 hp hs (λ i R some. part (place i ∷ R) some) in omega arith
  part_size (object ms) q hp hq h =
      let e = is_object q (h [] (λ x. cc)) in
      let s : size q ≡ size (object e.0) = ap size e.1 in
      let hs : AreMembers e.0 = subst IsDocument e.1 hq in
      let part : IsPartOf (object ms) (object e.0) = subst (IsPartOf (object ms)) e.1 h in
      let le : members_size ms ≤ members_size e.0 = members_part_size ms e.0 hp hs (λ l R some. part (key l ∷ R) some) in omega arith

  items_part_size : (ds es : Items) → AreDocuments ds → AreDocuments es → ((i : ℕ) (R : List Segment) → seen (get_item i ds) R ≢ Sight.nothing → seen (get_item i es) R ≡ seen (get_item i ds) R) → items_size ds ≤ items_size es
  items_part_size no_items es hd he h = omega arith
  items_part_size (item d ds) no_items hd he h = absurd (something d (sym (h 0 [] (something d))))
  items_part_size (item d ds) (item e es) hd he h =
      let a : size d ≤ size e = part_size d e hd.0 he.0 (λ R. h 0 R) in
      let b : items_size ds ≤ items_size es = items_part_size ds es hd.1 he.1 (λ i R. h (suc i) R) in omega arith

  members_part_size : (ms ns : Members) → AreMembers ms → AreMembers ns → ((l : List ℕ) (R : List Segment) → seen (get_member l ms) R ≢ Sight.nothing → seen (get_member l ns) R ≡ seen (get_member l ms) R) → members_size ms ≤ members_size ns
  members_part_size no_members ns hm hn h = omega arith
  members_part_size (member k d ms) ns hm hn h =
      let there = first_there k d ms ns hm h in
      let e = there.0 in
      let a : size d ≤ size e = part_size d e hm.1 (member_document k e ns hn there.1) (first_part k d ms ns hm h e there.1) in
      let b : members_size ms ≤ members_size (without k ns) = members_part_size ms (without k ns) hm.2 (without_members k ns hn) (rest_part k d ms ns hm h) in
      let t = taken k e ns there.1 in omega arith

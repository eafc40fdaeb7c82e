-- Either a least merge patch leads from one document to another, or a null is wanted; and either one merge patch does
-- what two do, or the first resets what the second changes.
use Rattle.json_patch_merge.proofs.Common.{◌≡◌, ◌≢◌, ℕ, List, ◌∷◌, [], ◌⊎◌, inl, inr, ⊎_elim, Option, Some, None, unwrap_or, refl, sym, ap, ◌∙◌, subst, rules, Bool, true, false, Ordering, nat_cmp, slice_cmp, match_ordering}
use Rattle.json_patch_merge.proofs.Common.{Data, Members, no_members, member, put, null, object, get_member, members_of, IsDocument, AreMembers, Sight, without, get_member-put, get_member-put_other}
use Rattle.std.proofs.Common.{option_map}
use Rattle.json_patch_document.specs.Document.{IsBelowMembers}
use Rattle.json_patch_document.specs.SameComputed.{same}
use Rattle.json_patch_document.specs.SameLaws.{same-Decides, AreSame-refl}
use Rattle.json_patch_document.proofs.SameDocuments.{AreSame-document}
use Rattle.json_patch_document.proofs.Members.{below_absent, found_first, skips, put_members, without_members, get_without, get_without_other, member_document}
use Rattle.json_patch_merge.proofs.Merges.{name_cases, null_cases, was_document}
use Rattle.json_patch_merge.specs.Merged.{IsMerged}
use Rattle.json_merge_diff.specs.Leads.{DoesBoth, IsPartOf, WantsNull, Resets, under}
use Rattle.json_merge_diff.proofs.Both.{resets_below}
use Rattle.json_merge_diff.proofs.Composing.{does}
use Rattle.json_merge_diff.proofs.Resetting.{never}
use Rattle.json_patch_document.proofs.Alike.{alike as all_alike}
use Rattle.json_patch_document.specs.Document.{look}
use Rattle.json_patch_document.specs.Same.{AreSame}
use Rattle.json_merge_diff.specs.Least.{IsLeast, IsLeastMember, replaces, by_key, keeps, goes, changes, seen, WantsNullAt}
use Rattle.json_merge_diff.specs.Composed.{IsComposed, IsComposedMember, first, second, both}
use Rattle.json_merge_diff.specs.Composed as c
use Rattle.json_merge_diff.proofs.Leading.{as_members, are_members, leads, part}
use Rattle.json_merge_diff.proofs.Changes.{null_wanted, wants_above, seen_at}

-- ---- members that one change after another gives

-- the members ps have what M asks at each name of ns
abbrev Fits : (Option Data → Option Data → Option Data → Type 0) → Members → Members → Members → Type 0
Fits M ms ns ps = AreMembers ps × ((k : List ℕ) → M (get_member k ms) (get_member k ns) (get_member k ps))

moved : (M : Option Data → Option Data → Option Data → Type 0) {was goal goal' has has' : Option Data} → goal ≡ goal' → has ≡ has' → M was goal' has' → M was goal has
moved M {goal = goal} {has = has} a b h = rw (a, b) h

module _ (M : Option Data → Option Data → Option Data → Type 0) (ms : Members) (l : List ℕ) (e : Data) (ns ps : Members) (below : IsBelowMembers l ns) (h : Fits M ms ns ps) where
  pub fits_put : (q : Data) → IsDocument q → M (get_member l ms) (Some e) (Some q) → Fits M ms (member l e ns) (put l q ps)
  fits_put q hq here = (
    put_members l q ps h.0 hq,
    λ k. ⊎_elim (λ (is : k ≡ l). subst (λ x. M (get_member x ms) (get_member x (member l e ns)) (get_member x (put l q ps))) (sym is) (moved M (found_first l e ns) (get_member-put l q ps) here))
        (λ (other : k ≢ l). moved M (skips k l e ns other) (get_member-put_other k l q ps other) (h.1 k)) (name_cases k l),
  )

  pub fits_without : M (get_member l ms) (Some e) None → Fits M ms (member l e ns) (without l ps)
  fits_without here = (
    without_members l ps h.0,
    λ k. ⊎_elim (λ (is : k ≡ l). subst (λ x. M (get_member x ms) (get_member x (member l e ns)) (get_member x (without l ps))) (sym is) (moved M (found_first l e ns) (get_without l ps h.0) here))
        (λ (other : k ≢ l). moved M (skips k l e ns other) (get_without_other k l ps other) (h.1 k)) (name_cases k l),
  )

-- ---- the removals

abbrev nulls : Members → Members
nulls no_members = no_members
nulls (member k d ms) = member k null (nulls ms)

nulls_below : (k : List ℕ) (ms : Members) → IsBelowMembers k ms → IsBelowMembers k (nulls ms)
nulls_below k no_members h = tt
nulls_below k (member l d ms) h = (h.0, nulls_below k ms h.1)

nulls_members : (ms : Members) → AreMembers ms → AreMembers (nulls ms)
nulls_members no_members h = tt
nulls_members (member k d ms) h = (nulls_below k ms h.0, tt, nulls_members ms h.2)

nulled : (o : Ordering) (has was : Option Data) (d : Data) → has ≡ option_map (λ x. null) was → match_ordering o has (Some null) has ≡ option_map (λ x. null) (match_ordering o was (Some d) was)
nulled o has was d is = search rules

get_nulls : (k : List ℕ) (ms : Members) → get_member k (nulls ms) ≡ option_map (λ x. null) (get_member k ms)
get_nulls k no_members = refl
get_nulls k (member l d ms) = nulled (slice_cmp nat_cmp k l) (get_member k (nulls ms)) (get_member k ms) d (get_nulls k ms)

goes_or_not : (was : Option Data) → IsLeastMember was None (option_map (λ x. null) was)
goes_or_not None = keeps
goes_or_not (Some d) = goes

-- ---- the least patch

by_test : (b : Bool) (d e : Data) → same d e ≡ b → IsDocument d → (d ≡ e) ⊎ (d ≢ e)
by_test true d e is hd = inl ((AreSame-document d e hd).0 ((same-Decides d e).0 is))
by_test false d e is hd = inr (λ h. let t = (same-Decides d e).1 (subst (λ x. AreSame d x) h (AreSame-refl d)) in cc)

some_same : {d e : Data} → Some d ≡ Some e → d ≡ e
some_same h = cc

alike : (was : Option Data) (e : Data) → ((d : Data) → was ≡ Some d → IsDocument d) → (was ≡ Some e) ⊎ (was ≢ Some e)
alike None e h = inr (λ is. cc)
alike (Some d) e h = ⊎_elim (λ (is : d ≡ e). inl (ap Some is)) (λ (other : d ≢ e). inr (λ is. other (some_same is))) (by_test (same d e) d e refl (h d refl))

wants_later : (ms : Members) (l : List ℕ) (e : Data) (ns : Members) → IsBelowMembers l ns → WantsNull (object ms) (object ns) → WantsNull (object ms) (object (member l e ns))
wants_later ms l e ns below w =
    let other : w.0 ≢ l = λ is. (let x : Sight.null ≡ Sight.nothing = sym w.2 ∙ ap (λ k. seen (get_member k ns) (under w.1)) is ∙ ap (λ o. seen o (under w.1)) (below_absent l ns below) in cc) in
    (w.0, w.1, ap (λ o. seen o (under w.1)) (skips w.0 l e ns other) ∙ w.2, w.3)

wants_whole : (d : Data) (ns : Members) → WantsNull (object (members_of d)) (object ns) → WantsNull d (object ns)
wants_whole d ns w = (w.0, w.1, w.2, λ h. w.3 (sym (seen_at (Some d) w.0 (under w.1)) ∙ h))

wants_within : (was : Option Data) (e : Data) → WantsNull (unwrap_or was null) e → WantsNullAt was e
wants_within None e w = (w.0 ∷ w.1, w.2, λ h. cc)
wants_within (Some d) e w = (w.0 ∷ w.1, w.2, w.3)

least_next : (l : List ℕ) (e : Data) (ns ms ps : Members) → AreMembers ms → AreMembers (member l e ns) → Fits IsLeastMember ms ns ps
    → ((q : Data) × IsDocument q × IsLeast (unwrap_or (get_member l ms) null) e q) ⊎ WantsNull (unwrap_or (get_member l ms) null) e
    → ((rs : Members) × Fits IsLeastMember ms (member l e ns) rs) ⊎ WantsNull (object ms) (object (member l e ns))
least_next l e ns ms ps hm hn fits found =
    let was = get_member l ms in
    let above = λ (w : WantsNullAt was e). wants_above l ms (member l e ns) was e refl (found_first l e ns) w in
    ⊎_elim (λ (is : was ≡ Some e). inl (without l ps, fits_without IsLeastMember ms l e ns ps hn.0 fits (subst (λ o. IsLeastMember o (Some e) None) (sym is) keeps)))
    (λ (apart : was ≢ Some e). ⊎_elim (λ (is : e ≡ null). inr (above (null_wanted was e is apart)))
    (λ (some : e ≢ null). ⊎_elim
    (λ (q : (q : Data) × IsDocument q × IsLeast (unwrap_or was null) e q). inl (put l q.0 ps, fits_put IsLeastMember ms l e ns ps hn.0 fits q.0 q.1 (changes apart some q.2)))
    (λ (w : WantsNull (unwrap_or was null) e). inr (above (wants_within was e w))) found) (null_cases e)) (alike was e (λ d is. member_document l d ms hm is))

mutual
  pub least_or_none : (e d : Data) → IsDocument d → IsDocument e → ((p : Data) × IsDocument p × IsLeast d e p) ⊎ WantsNull d e
  least_or_none (object ns) d hd he = ⊎_elim
      (λ (f : (ps : Members) × Fits IsLeastMember (members_of d) ns ps). inl (object f.0, f.1.0, by_key refl refl (λ k. subst (λ o. IsLeastMember o (get_member k ns) (get_member k f.0)) (as_members d k) (f.1.1 k))))
      (λ (w : WantsNull (object (members_of d)) (object ns)). inr (wants_whole d ns w)) (least_members ns (members_of d) (are_members d hd) he)
  least_or_none e d hd he = inl (e, he, replaces (λ h. cc))

  least_members : (ns ms : Members) → AreMembers ms → AreMembers ns → ((ps : Members) × Fits IsLeastMember ms ns ps) ⊎ WantsNull (object ms) (object ns)
  least_members no_members ms hm hn = inl (nulls ms, (nulls_members ms hm, λ k. subst (IsLeastMember (get_member k ms) None) (sym (get_nulls k ms)) (goes_or_not (get_member k ms))))
  least_members (member l e ns) ms hm hn = ⊎_elim
      (λ (f : (ps : Members) × Fits IsLeastMember ms ns ps). least_next l e ns ms f.0 hm hn f.1 (least_or_none e (unwrap_or (get_member l ms) null) (was_document l ms hm) hn.1))
      (λ (w : WantsNull (object ms) (object ns)). inr (wants_later ms l e ns hn.0 w)) (least_members ns ms hm hn.2)

-- ---- the patch that does both

resets_later : (ms : Members) (l : List ℕ) (e : Data) (ns : Members) → IsBelowMembers l ns → (ks : List (List ℕ)) → look (object ns) (under ks) ≡ Sight.object → look (object ms) (under ks) ≢ Sight.object → look (object ms) (under ks) ≢ Sight.nothing → Resets (object ms) (object (member l e ns))
resets_later ms l e ns below [] here other some = absurd (other refl)
resets_later ms l e ns below (k ∷ ks) here other some =
    let apart : k ≢ l = λ is. (let x : Sight.object ≡ Sight.nothing = sym here ∙ ap (λ k. seen (get_member k ns) (under ks)) is ∙ ap (λ o. seen o (under ks)) (below_absent l ns below) in cc) in
    (k ∷ ks, ap (λ o. seen o (under ks)) (skips k l e ns apart) ∙ here, other, some)

composed_next : (l : List ℕ) (e : Data) (ns ms rs : Members) (was : Option Data) → get_member l ms ≡ was → AreMembers ms → AreMembers (member l e ns) → Fits IsComposedMember ms ns rs
    → ((p : Data) → IsDocument p → ((r : Data) × IsDocument r × IsComposed p e r) ⊎ Resets p e)
    → ((rs : Members) × Fits IsComposedMember ms (member l e ns) rs) ⊎ Resets (object ms) (object (member l e ns))
composed_next l e ns ms rs None is hm hn fits found =
    inl (put l e rs, fits_put IsComposedMember ms l e ns rs hn.0 fits e hn.1 (subst (λ o. IsComposedMember o (Some e) (Some e)) (sym is) second))
composed_next l e ns ms rs (Some p) is hm hn fits found = ⊎_elim
    (λ (r : (r : Data) × IsDocument r × IsComposed p e r). inl (put l r.0 rs, fits_put IsComposedMember ms l e ns rs hn.0 fits r.0 r.1 (subst (λ o. IsComposedMember o (Some e) (Some r.0)) (sym is) (both r.2))))
    (λ (w : Resets p e). inr (resets_below l ms (member l e ns) (Some p) e (sym is) (found_first l e ns) w)) (found p (member_document l p ms hm is))

mutual
  pub composed_or_none : (q p : Data) → IsDocument p → IsDocument q → ((r : Data) × IsDocument r × IsComposed p q r) ⊎ Resets p q
  composed_or_none (object ns) (object ms) hp hq = ⊎_elim
      (λ (f : (rs : Members) × Fits IsComposedMember ms ns rs). inl (object f.0, f.1.0, c.by_key refl refl refl f.1.1))
      (λ (w : Resets (object ms) (object ns)). inr w) (composed_members ns ms hp hq)
  composed_or_none (object ns) p hp hq = inr ([], refl, λ h. cc, λ h. cc)
  composed_or_none q p hp hq = inl (q, hq, c.replaces (λ h. cc))

  composed_members : (ns ms : Members) → AreMembers ms → AreMembers ns → ((rs : Members) × Fits IsComposedMember ms ns rs) ⊎ Resets (object ms) (object ns)
  composed_members no_members ms hm hn = inl (ms, (hm, λ k. first))
  composed_members (member l e ns) ms hm hn = ⊎_elim
      (λ (f : (rs : Members) × Fits IsComposedMember ms ns rs). composed_next l e ns ms f.0 (get_member l ms) refl hm hn f.1 (λ p hp. composed_or_none e p hp hn.1))
      (λ (w : Resets (object ms) (object ns)). inr (resets_later ms l e ns hn.0 w.0 w.1 w.2 w.3)) (composed_members ns ms hm hn.2)

-- ---- as the laws say it

pub leads_or_wants : (d e : Data) → IsDocument d → IsDocument e → ((p : Data) × IsDocument p × IsMerged d p e × ((q : Data) → IsMerged d q e → IsPartOf p q)) ⊎ WantsNull d e
leads_or_wants d e hd he = ⊎_elim (λ (f : (p : Data) × IsDocument p × IsLeast d e p). inl (f.0, f.1, leads f.2, part f.2)) (λ (w : WantsNull d e). inr w) (least_or_none e d hd he)

pub does_or_resets : (p q : Data) → IsDocument p → IsDocument q → ((r : Data) × IsDocument r × DoesBoth p q r) ⊎ Resets p q
does_or_resets p q hp hq = ⊎_elim (λ (f : (r : Data) × IsDocument r × IsComposed p q r). inl (f.0, f.1, λ d c e hd hc he. does f.2)) (λ (w : Resets p q). inr w) (composed_or_none q p hp hq)

pub resets_none : (p q r : Data) → IsDocument p → IsDocument q → IsDocument r → Resets p q → DoesBoth p q r → ⊥
resets_none p q r hp hq hr w = never w.0 p q r hp hq hr w.1 w.2 w.3

nothing_or_not : (s : Sight) → (s ≡ Sight.nothing) ⊎ (s ≢ Sight.nothing)
nothing_or_not Sight.nothing = inl refl
nothing_or_not s = inr (λ h. cc)

pub part_of_each : (p q : Data) → IsDocument p → IsDocument q → IsPartOf p q → IsPartOf q p → p ≡ q
part_of_each p q hp hq h g = all_alike p q hp hq (λ L. ⊎_elim
    (λ (none : look p L ≡ Sight.nothing). ⊎_elim (λ (none' : look q L ≡ Sight.nothing). none ∙ sym none') (λ (some : look q L ≢ Sight.nothing). g L some) (nothing_or_not (look q L)))
    (λ (some : look p L ≢ Sight.nothing). sym (h L some)) (nothing_or_not (look p L)))

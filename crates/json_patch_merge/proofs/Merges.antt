-- What is computed for a merge patch is what it leaves, and that alone.
use Rattle.json_patch_merge.proofs.Common.{◌≡◌, ◌≢◌, ◌↔◌, ◌⊎◌, inl, inr, ⊎_elim, ℕ, List, Option, Some, None, unwrap_or, refl}
use Rattle.json_patch_merge.proofs.Common.{sym, ap, ◌∙◌, subst, rules, Data, null, boolean, number, string, array, object}
use Rattle.json_patch_merge.proofs.Common.{Members, no_members, member, put, get, get_member, get_member-put}
use Rattle.json_patch_merge.proofs.Common.{get_member-put_other, IsDocument, AreMembers, Segment, key, child, sight_of}
use Rattle.json_patch_merge.proofs.Common.{without, Sight, IsMerged, replaces, IsMergedMember, goes, merges, members_of}
use Rattle.json_patch_merge.proofs.Common.{after_merge, members_after_merge}
use Rattle.json_patch_merge.specs.Merged.{by_key, stays}
use Rattle.json_patch_document.proofs.Members.{put_members, without_members, member_document, get_without, get_without_other}
use Rattle.json_patch_document.proofs.Members.{below_absent, found_first, skips, child_document, step_cases}
use Rattle.json_patch_document.proofs.Children.{one_level}

-- ---- what is computed, one member of the patch after another

pub null_cases : (q : Data) → (q ≡ null) ⊎ (q ≢ null)
null_cases null = inl refl
null_cases q = inr (λ h. cc)

pub next_removed : (k : List ℕ) (q : Data) (ms ps : Members) → q ≡ null → members_after_merge ms (member k q ps) ≡ members_after_merge (without k ms) ps
next_removed k q ms ps is = rw is

pub next_merged : (k : List ℕ) (q : Data) (ms ps : Members) → q ≢ null → members_after_merge ms (member k q ps) ≡ members_after_merge (put k (after_merge (unwrap_or (get_member k ms) null) q) ms) ps
next_merged k null ms ps other = absurd (other refl)
next_merged k q ms ps other = refl

or_null_document : (o : Option Data) → ((d : Data) → o ≡ Some d → IsDocument d) → IsDocument (unwrap_or o null)
or_null_document o h = search rules

pub was_document : (k : List ℕ) (ms : Members) → AreMembers ms → IsDocument (unwrap_or (get_member k ms) null)
was_document k ms h = or_null_document (get_member k ms) (λ d is. member_document k d ms h is)

mutual
  pub merged_document : (p d : Data) → IsDocument d → IsDocument p → IsDocument (after_merge d p)
  merged_document (object ps) d hd hp = merged_are_members ps (members_of d) (search rules) hp
  merged_document p d hd hp = hp

  merged_are_members : (ps ms : Members) → AreMembers ms → AreMembers ps → AreMembers (members_after_merge ms ps)
  merged_are_members no_members ms h hp = h
  merged_are_members (member k q ps) ms h hp = search (rules, next_removed, without_members, next_merged, put_members, was_document, null_cases, merged_are_members ps, merged_document q)

-- ---- it is what IsMerged says

pub name_cases : (q k : List ℕ) → (q ≡ k) ⊎ (q ≢ k)
name_cases q k = ⊎_elim (λ (e : key q ≡ key k). inl cc) (λ (out : key q ≡ key k → ⊥). inr (λ h. out (ap key h))) (step_cases (key q) (key k))

-- a name that the patch has not keeps its member
unnamed : (k : List ℕ) (ps ms : Members) → get_member k ps ≡ None → get_member k (members_after_merge ms ps) ≡ get_member k ms
unnamed k no_members ms is = refl
unnamed k (member l q ps) ms is = search (rules, found_first, skips, next_removed, get_without_other, next_merged, get_member-put_other, null_cases, unnamed k ps)

along : {was was' named named' left left' : Option Data} → was ≡ was' → named ≡ named' → left ≡ left' → IsMergedMember was' named' left' → IsMergedMember was named left
along {left = left} a b c h = rw (a, b, c) h

-- one member of the patch, which takes the members ms to ns, and then the others
member_next : (k l : List ℕ) (q : Data) (ps ms ns : Members) → members_after_merge ms (member l q ps) ≡ members_after_merge ns ps → get_member l ps ≡ None → (k ≢ l → get_member k ns ≡ get_member k ms)
    → IsMergedMember (get_member l ms) (Some q) (get_member l ns) → IsMergedMember (get_member k ns) (get_member k ps) (get_member k (members_after_merge ns ps))
    → IsMergedMember (get_member k ms) (get_member k (member l q ps)) (get_member k (members_after_merge ms (member l q ps)))
member_next k l q ps ms ns next once keeps here later = search (rules, along refl (found_first l q ps) (ap (get_member l) next ∙ unnamed l ps ns once) here, found_first l q ps, unnamed l ps ns once, along, skips k l q ps, name_cases k l, found_first, unnamed, skips, name_cases)

mutual
  pub merged_is : (p d : Data) → IsDocument d → IsDocument p → IsMerged d p (after_merge d p)
  merged_is (object ps) d hd hp =
      by_key refl refl (λ k. along (sym (search rules)) refl refl (member_is ps (members_of d) k (search rules) hp))
  merged_is null d hd hp = replaces (λ h. cc)
  merged_is (boolean b) d hd hp = replaces (λ h. cc)
  merged_is (number n) d hd hp = replaces (λ h. cc)
  merged_is (string s) d hd hp = replaces (λ h. cc)
  merged_is (array ds) d hd hp = replaces (λ h. cc)

  member_is : (ps ms : Members) (k : List ℕ) → AreMembers ms → AreMembers ps → IsMergedMember (get_member k ms) (get_member k ps) (get_member k (members_after_merge ms ps))
  member_is no_members ms k h hp = stays
  member_is (member l q ps) ms k h hp =
      let w = unwrap_or (get_member l ms) null in
      let hw : IsDocument w = was_document l ms h in
      ⊎_elim
      (λ (is : q ≡ null). member_next k l q ps ms (without l ms) (next_removed l q ms ps is) (below_absent l ps hp.0) (get_without_other k l ms)
      (along refl (ap Some is) (get_without l ms h) goes) (member_is ps (without l ms) k (without_members l ms h) hp.2))
      (λ (other : q ≢ null). member_next k l q ps ms (put l (after_merge w q) ms) (next_merged l q ms ps other) (below_absent l ps hp.0) (get_member-put_other k l (after_merge w q) ms)
      (along refl refl (get_member-put l (after_merge w q) ms) (merges other (merged_is q w hw hp.1)))
      (member_is ps (put l (after_merge w q) ms) k (put_members l (after_merge w q) ms h (merged_document q w hw hp.1)) hp.2)) (null_cases q)

-- ---- merged again, and one document alone

mutual
  pub again : {d p e : Data} → IsMerged d p e → IsMerged e p e
  again (replaces other) = replaces other
  again (by_key named left each) = by_key named left (λ k. again_member (each k))

  again_member : {was named left : Option Data} → IsMergedMember was named left → IsMergedMember left named left
  again_member stays = stays
  again_member goes = goes
  again_member (merges other h) = merges other (again h)

same_children : (e f : Data) → sight_of e ≡ Sight.object → sight_of f ≡ Sight.object → ((k : List ℕ) → get k e ≡ get k f) → (r : Segment) → child r e ≡ child r f
same_children e f he hf each r = search rules

mutual
  pub one : {d p e : Data} (f : Data) → IsDocument e → IsDocument f → IsMerged d p e → IsMerged d p f → e ≡ f
  one f he hf (replaces other) (replaces _) = refl
  one f he hf (replaces other) (by_key named left each) = absurd (other named)
  one f he hf (by_key named left each) (replaces other) = absurd (other named)
  one f he hf (by_key {d} {p} {e} named left each) (by_key _ left' each') =
      one_level e f he hf (left ∙ sym left') (same_children e f left left' (λ k. one_member (get k f) (λ c is. child_document (key k) e c he is) (λ c is. child_document (key k) f c hf is) (each k) (each' k)))

  one_member : {was named x : Option Data} (y : Option Data) → ((c : Data) → x ≡ Some c → IsDocument c) → ((c : Data) → y ≡ Some c → IsDocument c) → IsMergedMember was named x → IsMergedMember was named y → x ≡ y
  one_member y hx hy stays stays = refl
  one_member y hx hy goes goes = refl
  one_member y hx hy goes (merges other h) = absurd (other refl)
  one_member y hx hy (merges other h) goes = absurd (other refl)
  one_member y hx hy (merges {e = a} other h) (merges {e = b} _ h') = ap Some (one b (hx a refl) (hy b refl) h h')

-- ---- the laws

pub merged_exactly : (d p e : Data) → IsDocument d → IsDocument p → IsDocument e → IsMerged d p e ↔ (after_merge d p ≡ e)
merged_exactly d p e hd hp he = (λ h. one e (merged_document p d hd hp) he (merged_is p d hd hp) h, λ is. subst (IsMerged d p) is (merged_is p d hd hp))

kept : {was named left : Option Data} → named ≡ None → IsMergedMember was named left → left ≡ was
kept is stays = refl
kept is goes = cc
kept is (merges other h) = cc

pub unnamed_stays : {d p e : Data} (k : List ℕ) → sight_of p ≡ Sight.object → IsMerged d p e → get k p ≡ None → get k e ≡ get k d
unnamed_stays k named h is = kept is (search rules)

pub exactly_one : (d p : Data) → IsDocument d → IsDocument p → (e : Data) × IsDocument e × IsMerged d p e × ((f : Data) → IsDocument f → IsMerged d p f → f ≡ e)
exactly_one d p hd hp = (after_merge d p, merged_document p d hd hp, merged_is p d hd hp, λ f hf h. one (after_merge d p) hf (merged_document p d hd hp) h (merged_is p d hd hp))

pub no_object : (d p e : Data) → sight_of p ≢ Sight.object → IsMerged d p e ↔ (e ≡ p)
no_object d p e other = ((search rules), λ is. subst (IsMerged d p) (sym is) (replaces other))

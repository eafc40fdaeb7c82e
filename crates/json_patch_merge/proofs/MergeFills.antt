-- A merge but for its removals, what takes it back, and the removals.
use Rattle.json_patch_merge.proofs.Common.{◌≡◌, ◌≢◌, ℕ, List, ◌∷◌, ⊎_elim, Option, Some, None, string_bytes, sym, ap, ◌∙◌}
use Rattle.json_patch_merge.proofs.Common.{subst, rules, lookup, remove_entry, set_value, Data, Members, member, put}
use Rattle.json_patch_merge.proofs.Common.{get_member, view, members_view, Value, Entry, get_member-put, get_member-put_other}
use Rattle.json_patch_merge.proofs.Common.{IsDocument, AreMembers, without, Vec, BTreeMap, String, Global, Result, Ok, Err}
use Rattle.json_patch_merge.proofs.Common.{IsOk, Bool, true, false, is_some, suc, ◌+◌, arith, [], ◌++◌, map}
use Rattle.json_patch_merge.proofs.Common.{unwrap_or, Ordering, nat_cmp, refl, map-append, slice_cmp, null, object}
use Rattle.json_patch_merge.proofs.Common.{no_members, get, as_null, as_object, Object, the_lemmas, members_view-insert_entry}
use Rattle.json_patch_merge.proofs.Common.{view-lookup, view-Object, sight_of, key, IsFilled, IsFilledMember, by_key, stays}
use Rattle.json_patch_merge.proofs.Common.{left, fills, Fills, FillsAt, LogsMember, IsPrunedMember, ArePruned, with_member}
use Rattle.json_patch_merge.proofs.Common.{former_value, restore_members, members_before, ⊤, AllocError, insert_entry}
use Rattle.json_patch_merge.proofs.Common.{match_ordering, Sight, Prunes, IsMerged, members_of, Filled, Replaced, Absent}
use Rattle.json_patch_merge.proofs.Common.{fold-Before, RemovesNothing, RemoveNothing}
use Rattle.std.proofs.Common.{string_cmp, IsErr}
use Rattle.json_patch_merge.specs.Filled.{replaces}
use Rattle.std.specs.Borrow.{Bor}
use Rattle.json_patch_merge.specs.declared.merging.Before.{Before, the_lemmas as of_formers}
use Rattle.json_patch_merge.specs.declared.merging.Before.TheOpen.{Before-F}
use Rattle.json_patch_document.proofs.Members.{below_absent, found_first, skips, put_members, without_members, get_without}
use Rattle.json_patch_document.proofs.Members.{get_without_other}
use Rattle.json_patch_document.proofs.Writes.{is_named, AreInOrder, members_view-remove_entry, members_view-set_value}
use Rattle.json_patch_document.proofs.Writes.{members_view-set_same}
use Rattle.json_patch_document.proofs.Children.{set_back, without_put}
use Rattle.json_patch_merge.proofs.Merges.{name_cases}
use Rattle.json_patch_merge.specs.Merged as m
use Rattle.json_patch_document.proofs.Writes.{found_at, found_document}
use Rattle.json_patch_document.proofs.Members.{without_absent}

-- ---- a loop over a patch's members, each of which changes the document's member of its name alone

-- `new` is `now` but for the name t, where o stands
pub record ChangesAt (t : List ℕ) (now new : Members) (o : Option Data) : Type 0 where
  pub document : AreMembers new
  pub others : (k : List ℕ) → k ≢ t → get_member k new ≡ get_member k now
  pub here : get_member t new ≡ o

pub changes_nothing : (t : List ℕ) (now new : Members) → AreMembers now → new ≡ now → ChangesAt t now new (get_member t now)
changes_nothing t now new h is = record { document = subst AreMembers (sym is) h; others = λ k other. ap (get_member k) is; here = ap (get_member t) is }

pub changes_put : (t : List ℕ) (d : Data) (now new : Members) → AreMembers now → IsDocument d → new ≡ put t d now → ChangesAt t now new (Some d)
changes_put t d now new h hd is = search (rules, put_members, get_member-put_other, get_member-put)

pub changes_written : (t : List ℕ) (es new : List Entry) (d w : Value) → AreInOrder es → Some d ≡ lookup (is_named t) es → new ≡ set_value (is_named t) es w → AreMembers (members_view es) → IsDocument (view w)
    → ChangesAt t (members_view es) (members_view new) (Some (view w))
changes_written t es new d w order found is h hw =
    changes_put t (view w) (members_view es) (members_view new) h hw (ap members_view is ∙ members_view-set_value t es w d order (sym found))

pub changes_removed : (t : List ℕ) (es new : List Entry) → new ≡ remove_entry (is_named t) es → AreMembers (members_view es) → ChangesAt t (members_view es) (members_view new) None
changes_removed t es new is h = let e : members_view new ≡ without t (members_view es) = ap members_view is ∙ members_view-remove_entry t es in search (rules, without_members, get_without_other, get_without)

-- of all the patch's members some are left: at the names of those, now is as at the start
pub record Passes (M : Option Data → Option Data → Option Data → Type 0) (start all now rest : Members) : Type 0 where
  pub members : AreMembers rest
  pub document : AreMembers now
  pub named : (k : List ℕ) (q : Data) → get_member k rest ≡ Some q → get_member k all ≡ Some q
  pub kept : (k : List ℕ) (q : Data) → get_member k rest ≡ Some q → get_member k now ≡ get_member k start
  pub passed : (k : List ℕ) → get_member k rest ≡ None → M (get_member k start) (get_member k all) (get_member k now)

module _ (M : Option Data → Option Data → Option Data → Type 0) (start all now new ps : Members) (l : List ℕ) (q : Data) (o : Option Data) (h : Passes M start all now (member l q ps)) (changes : ChangesAt l now new o) (here : M (get_member l now) (Some q) o) where
  apart : (k : List ℕ) (p : Data) → get_member k ps ≡ Some p → k ≢ l
  apart k p is same = let e : get_member k ps ≡ None = ap (λ x. get_member x ps) same ∙ below_absent l ps h.members.0 in cc

  at_l : M (get_member l start) (get_member l all) (get_member l new)
  at_l = rw (sym (h.kept l q (found_first l q ps)), h.named l q (found_first l q ps), changes.here) here

  at_other : (k : List ℕ) → get_member k ps ≡ None → k ≢ l → M (get_member k start) (get_member k all) (get_member k new)
  at_other k is other = subst (M (get_member k start) (get_member k all)) (sym (changes.others k other)) (h.passed k (skips k l q ps other ∙ is))

  pub steps : Passes M start all new ps
  steps = record {
    members = h.members.2;
    document = changes.document;
    named = λ k p is. h.named k p (skips k l q ps (apart k p is) ∙ is);
    kept = λ k p is. changes.others k (apart k p is) ∙ h.kept k p (skips k l q ps (apart k p is) ∙ is);
    passed = λ k is. ⊎_elim (λ (same : k ≡ l). subst (λ x. M (get_member x start) (get_member x all) (get_member x new)) (sym same) at_l) (at_other k is) (name_cases k l);
  }

pub starts : {M : Option Data → Option Data → Option Data → Type 0} → ((was : Option Data) → M was None was) → (start all rest : Members) → rest ≡ all → AreMembers start → AreMembers all → Passes M start all start rest
starts unnamed start all rest is h hp = rw is (search rules)

-- the entry e is next, and t is its name
pub steps_at : {M : Option Data → Option Data → Option Data → Type 0} {start all now new : Members} {items rest : List Entry} (e : Entry) (t : List ℕ)
    → items ≡ e ∷ rest → t ≡ string_bytes e.0 → Passes M start all now (members_view items)
    → (IsDocument (view e.1) → (o : Option Data) × ChangesAt t now new o × M (get_member t now) (Some (view e.1)) o) → Passes M start all new (members_view rest)
steps_at {M} {start} {all} {now} {new} {items} {rest} e t is_next named before step = search (rules, steps M start all now new (members_view rest) t (view e.1), steps)

pub next_document : (items rest : List Entry) (e : Entry) → items ≡ e ∷ rest → AreMembers (members_view items) → IsDocument (view e.1)
next_document items rest e is_next h = (subst (λ es. AreMembers (members_view es)) is_next h).1

-- ---- what is filled and then pruned is merged, and what was found leads back

pub null_here : (d : Data) (b : Bool) → b ≡ is_some (as_null d) → b ≡ true → d ≡ null
null_here d b is tested = search rules

pub other_here : (d : Data) (b : Bool) → b ≡ is_some (as_null d) → b ≡ false → d ≢ null
other_here d b is tested h = search rules

pub atom_here : (d : Data) (b : Bool) → b ≡ is_some (as_object d) → b ≡ false → sight_of d ≢ Sight.object
atom_here d b is tested h = search rules

-- ---- pruned

pub prunes_unnamed : (was : Option Data) → IsPrunedMember was None was
prunes_unnamed now was stays = m.stays

pub prunes_null : (now : Option Data) (q : Data) → q ≡ null → IsPrunedMember now (Some q) None
prunes_null now q is was h = rw is m.goes

-- an atom needs no step
pub prunes_atom : (q : Data) (now : Option Data) → q ≢ null → sight_of q ≢ Sight.object → IsPrunedMember now (Some q) now
prunes_atom q now other atom was left = absurd (other refl)
prunes_atom q now other atom was (fills o (replaces out)) = m.merges o (m.replaces out)
prunes_atom q now other atom was (fills o (by_key named held each)) = absurd (atom named)

pub prunes_found : (q w e : Data) (now : Option Data) → now ≡ Some w → q ≢ null → ((d : Data) → IsFilled d q w → IsMerged d q e) → IsPrunedMember now (Some q) (Some e)
prunes_found q w e now is other step was left = absurd (other refl)
prunes_found q w e now is other step was (fills {w = v} o h) = let same : v ≡ w = cc in m.merges o (step (unwrap_or was null) (subst (IsFilled (unwrap_or was null) q) same h))

-- what is filled with an object stands
pub prunes_missing : (q : Data) (now : Option Data) → now ≡ None → q ≢ null → IsPrunedMember now (Some q) now
prunes_missing q now is other was left = absurd (other refl)
prunes_missing q now is other was (fills o h) = cc

no_object : (d : Data) → None ≡ as_object d → sight_of d ≢ Sight.object
no_object d none is = search rules

pub other_value : (v : Value) → ((m : BTreeMap (String Global) Value) → v ≡ Object m → ⊥) → sight_of (view v) ≢ Sight.object
other_value v out = no_object (view v) (search (rules, the_lemmas, out))

pub pruned_other : {d p w : Data} → (sight_of p ≡ Sight.object → sight_of w ≢ Sight.object) → IsFilled d p w → IsMerged d p w
pruned_other out (replaces other) = m.replaces other
pruned_other out (by_key named held each) = absurd (out named held)

merged_members : (ps ms ns : Members) → ArePruned ms ps ns → (d : Data) → IsFilled d (object ps) (object ms) → IsMerged d (object ps) (object ns)
merged_members ps ms ns h d (replaces other) = absurd (other refl)
merged_members ps ms ns h d (by_key named held each) = m.by_key refl refl (λ k. h k (get k d) (each k))

-- ---- a patch that removes nothing

pub nothing_of_another : (p : Data) → sight_of p ≢ Sight.object → RemovesNothing p
nothing_of_another p other d w h = pruned_other (λ named. absurd (other named)) h

one_merged : (was now : Option Data) (q : Data) → q ≢ null → RemovesNothing q → IsFilledMember was (Some q) now → m.IsMergedMember was (Some q) now
one_merged was now q other none left = absurd (other refl)
one_merged was now q other none (fills {w = w} o h) = m.merges o (none _ w h)

named_so : {was o named now : Option Data} → o ≡ named → (IsFilledMember was named now → m.IsMergedMember was named now) → IsFilledMember was o now → m.IsMergedMember was o now
named_so {was} {o} {named} {now} is h f = subst (λ x. m.IsMergedMember was x now) (sym is) (h (subst (λ x. IsFilledMember was x now) is f))

each_merged : (k : List ℕ) (ps : Members) (was now : Option Data) → RemoveNothing ps → IsFilledMember was (get_member k ps) now → m.IsMergedMember was (get_member k ps) now
each_merged k no_members was now h stays = m.stays
each_merged k (member l q ps) was now h f = ⊎_elim
    (λ (same : k ≡ l). named_so (ap (λ x. get_member x (member l q ps)) same ∙ found_first l q ps) (one_merged was now q h.0 h.1) f)
    (λ other. named_so (skips k l q ps other) (each_merged k ps was now h.2) f)
    (name_cases k l)

pub nothing_of_members : (ps : Members) → RemoveNothing ps → RemovesNothing (object ps)
nothing_of_members ps h d w (replaces other) = absurd (other refl)
nothing_of_members ps h d w (by_key named held each) = m.by_key named held (λ k. each_merged k ps (get k d) (get k w) h (each k))

pub named_members : (p : Value) (ps : BTreeMap (String Global) Value) → p ≡ Object ps → members_of (view p) ≡ members_view ps.entries
named_members p ps is = ap members_of (ap view is ∙ view-Object ps)

pub nothing_of_object : (p : Value) (ps : BTreeMap (String Global) Value) → p ≡ Object ps → RemoveNothing (members_of (view p)) → RemovesNothing (view p)
nothing_of_object p ps is h = subst RemovesNothing (sym (ap view is ∙ view-Object ps)) (nothing_of_members (members_view ps.entries) (subst RemoveNothing (named_members p ps is) h))

pub pruned_object : (old new patch : Value) (m n ps : BTreeMap (String Global) Value) → old ≡ Object m → new ≡ Object n → patch ≡ Object ps
    → (AreMembers (members_view m.entries) → IsDocument (view patch) → Passes IsPrunedMember (members_view m.entries) (members_of (view patch)) (members_view n.entries) no_members) → Prunes (view old) (view patch) (view new)
pruned_object old new patch m n ps is after named = rw (is, after, named, view-Object m, view-Object n, view-Object ps) (λ h hm hp. let f = h hm hp in (f.document, merged_members (members_view ps.entries) (members_view m.entries) (members_view n.entries) (λ k. f.passed k refl)))

-- ---- taken back

pub back_at : (t : List ℕ) (d : Data) (o : Option Data) (ms : Members) → AreMembers ms → IsDocument d → get_member t ms ≡ o → with_member t o (put t d ms) ≡ ms
back_at t d None ms h hd is = ap members_of (without_put t d ms h hd is)
back_at t d (Some c) ms h hd is = ap members_of (set_back (key t) (object ms) c d h hd is)

restored_last : (log : List (Bor (List ℕ) × (Option Data → Option Data))) (e : Bor (List ℕ) × (Option Data → Option Data)) (ms : Members) → restore_members (log ++ e ∷ []) ms ≡ restore_members log (restore_members (e ∷ []) ms)
restored_last [] e ms = refl
restored_last (f ∷ log) e ms = ap (λ ns. with_member f.0.now (f.1 (get_member f.0.now ns)) ns) (restored_last log e ms)

pub before_last : (log : List (Bor (List ℕ) × Before)) (e : Bor (List ℕ) × Before) (ms : Members) → members_before (log ++ e ∷ []) ms ≡ members_before log (with_member e.0.now (former_value e.1 (get_member e.0.now ms)) ms)
before_last log e ms = ap (λ l. restore_members l ms) (map-append (λ (f : Bor (List ℕ) × Before). (f.0, former_value f.1)) log (e ∷ [])) ∙ restored_last (map (λ (f : Bor (List ℕ) × Before). (f.0, former_value f.1)) log) (e.0, former_value e.1) ms

-- ---- a member is put back

pub puts_back : (t : List ℕ) (es new : List Entry) (f : Before) (d w : Value) → AreInOrder es → Some d ≡ lookup (is_named t) es → new ≡ set_value (is_named t) es w → former_value f (Some (view d)) ≡ Some (view w)
    → members_view new ≡ with_member t (former_value f (get_member t (members_view es))) (members_view es)
puts_back t es new f d w order found is back = search (rules, view-lookup t es, members_view-set_value t es w d order (sym found), view-lookup, members_view-set_value)

pub puts_nothing_back : (t : List ℕ) (es new : List Entry) (f : Before) → None ≡ lookup (is_named t) es → new ≡ es → former_value f None ≡ None
    → members_view new ≡ with_member t (former_value f (get_member t (members_view es))) (members_view es)
puts_nothing_back t es new f found is back = search (rules, view-lookup, without_absent)

pub takes_out : (t : List ℕ) (es new : List Entry) (f : Before) → new ≡ remove_entry (is_named t) es → ((o : Option Data) → former_value f o ≡ None)
    → members_view new ≡ with_member t (former_value f (get_member t (members_view es))) (members_view es)
takes_out t es new f is back = ap members_view is ∙ members_view-remove_entry t es ∙ ap (λ o. with_member t o (members_view es)) (sym (back (get_member t (members_view es))))

pub restored_object : (log : Vec (Bor (List ℕ) × Before) Global) (old new : Value) (m n : BTreeMap (String Global) Value) → old ≡ Object m → new ≡ Object n → members_view n.entries ≡ members_before log.items (members_view m.entries)
    → former_value (Filled log) (Some (view old)) ≡ Some (view new)
restored_object log old new m n is after back = rw (is, after, view-Object m, view-Object n, back) (search (rules, of_formers))

-- ---- filled

on_cases : (o : Ordering) (found : Option Data) (q : Data) → IsFilledMember None found found → IsFilledMember None (Some q) (Some q) → IsFilledMember None (match_ordering o found (Some q) found) (match_ordering o found (Some q) found)
on_cases o found q later here = search rules

value_itself : (q : Data) → IsFilled null q q → IsFilledMember None (Some q) (Some q)
value_itself null h = left
value_itself q h = fills (λ h. cc) h

-- a value of the patch fills a name as it is: what the patch removes within it goes later
mutual
  pub filled_itself : (p d : Data) → (sight_of p ≡ Sight.object → sight_of d ≢ Sight.object) → IsFilled d p p
  filled_itself (object ps) d other = by_key refl refl (λ k. subst (λ o. IsFilledMember o (get_member k ps) (get_member k ps)) (sym (search rules)) (member_itself k ps))
  filled_itself p d other = replaces (λ h. cc)

  member_itself : (k : List ℕ) (ps : Members) → IsFilledMember None (get_member k ps) (get_member k ps)
  member_itself k no_members = stays
  member_itself k (member l q ps) = on_cases (slice_cmp nat_cmp k l) (get_member k ps) q (member_itself k ps) (value_itself q (filled_itself q null (λ h. λ e. cc)))

pub filled_whole : (target patch dest former : Value) → (sight_of (view patch) ≡ Sight.object → sight_of (view target) ≢ Sight.object) → view dest ≡ view patch → former ≡ target → IsDocument (view patch)
    → IsFilled (view target) (view patch) (view dest) × IsDocument (view dest) × (former_value (Replaced former) (Some (view dest)) ≡ Some (view target))
filled_whole target patch dest former other is was hp = (subst (IsFilled (view target) (view patch)) (sym is) (filled_itself (view patch) (view target) other), subst IsDocument (sym is) hp, rw was (search (rules, of_formers)))

pub of_objects : (r : Result Before AllocError) (old new patch : Value) (m n ps : BTreeMap (String Global) Value) → old ≡ Object m → new ≡ Object n → patch ≡ Object ps
    → Fills r (object (members_view m.entries)) (object (members_view ps.entries)) (object (members_view n.entries)) → Fills r (view old) (view patch) (view new)
of_objects r old new patch m n ps is after named h = rw (is, after, named, view-Object m, view-Object n, view-Object ps) h

pub fills_found : (r : Result Before AllocError) (t name : List ℕ) (es new : List Entry) (d w : Value) (q : Data) → name ≡ t → AreInOrder es → Some d ≡ lookup (is_named name) es → new ≡ set_value (is_named name) es w
    → Fills r (view d) q (view w) → FillsAt r t (members_view es) q (members_view new)
fills_found (Ok former) t name es new d w q named order found is step = subst (λ k. FillsAt (Ok former) k (members_view es) q (members_view new)) named (λ h hq. let f = step (found_document name es d found h) hq in search (rules, found_at, members_view-set_value, unwrap_or))
fills_found (Err e) t name es new d w q named order found is step = subst (λ k. FillsAt (Err e) k (members_view es) q (members_view new)) named (λ h hq. let f = step (found_document name es d found h) hq in search (rules, found_at, members_view-set_value, members_view-set_same))

pub fills_missing : (t : List ℕ) (es new : List Entry) (k : String Global) (w : Value) (q : Data) → None ≡ lookup (is_named t) es → string_bytes k ≡ t → new ≡ insert_entry string_cmp es k w → view w ≡ q
    → FillsAt (Ok Absent) t (members_view es) q (members_view new)
fills_missing t es new k w q found named is same h hq =
    let here = found_at t es None found in (
      q,
      ap members_view is ∙ members_view-insert_entry es k w ∙ ap (λ x. put x (view w) (members_view es)) named ∙ ap (λ d. put t d (members_view es)) same,
      subst (λ o. IsFilled (unwrap_or o null) q q) (sym here) (filled_itself q null (λ h. λ e. cc)),
      hq,
      search (rules, of_formers) ∙ sym here,
    )

pub logs_nothing : (r : Result ⊤ AllocError) (t : List ℕ) (was now : List (Bor (List ℕ) × Before)) (P : Result Before AllocError → Type 0) → IsErr r → now ≡ was → ((e : AllocError) → P (Err e)) → LogsMember r t was now P
logs_nothing (Ok done) t was now P bad is h = search rules
logs_nothing (Err e) t was now P bad is h = (is, h e)

-- one more change
pub fills_back : (r : Result ⊤ AllocError) (t : List ℕ) (was now : List (Bor (List ℕ) × Before)) (ms ns : Members) (q : Data) → LogsMember r t was now (λ x. FillsAt x t ms q ns) → AreMembers ms → IsDocument q
    → members_before now ns ≡ members_before was ms
fills_back (Ok done) t was now ms ns q h hm hq = let f = h.4 hm hq in rw (h.3, f.1, sym h.2) (search (rules, before_last, get_member-put, back_at))
fills_back (Err e) t was now ms ns q h hm hq = search rules

pub fills_step : (r : Result ⊤ AllocError) (t : List ℕ) (was now : List (Bor (List ℕ) × Before)) (ms ns : Members) (q : Data) → LogsMember r t was now (λ x. FillsAt x t ms q ns) → AreMembers ms → IsDocument q → IsOk r → q ≢ null
    → (o : Option Data) × ChangesAt t ms ns o × IsFilledMember (get_member t ms) (Some q) o
fills_step (Ok done) t was now ms ns q h hm hq ok other = let f = h.4 hm hq in (Some f.0, changes_put t f.0 ms ns hm f.3 f.1, fills other f.2)
fills_step (Err e) t was now ms ns q h hm hq ok other = search rules

-- ---- a log ends

abbrev total : List (Bor (List ℕ) × ℕ) → ℕ
total [] = 0
total (e ∷ es) = suc (e.1 + total es)

abbrev weight_step : Before-F ℕ → ℕ
weight_step Before-F.Absent = 0
weight_step (Before-F.Replaced v) = 0
weight_step (Before-F.Filled log) = suc (total log.items)

abbrev pub weight : Before → ℕ
weight = fold-Before ℕ weight_step

abbrev pub weights : List (Bor (List ℕ) × Before) → ℕ
weights log = total (map (λ e. (e.0, weight e.1)) log)

pub weights_last : (log : List (Bor (List ℕ) × Before)) (e : Bor (List ℕ) × Before) → weights (log ++ e ∷ []) ≡ suc (weight e.1 + weights log)
weights_last [] e = refl
weights_last (f ∷ log) e = rw (weights_last log e) (omega arith)

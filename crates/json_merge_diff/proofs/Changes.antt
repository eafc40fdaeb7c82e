-- What changes at one name.
use Rattle.json_patch_merge.proofs.Common.{◌≡◌, ◌≢◌, ℕ, List, ◌∷◌, [], Option, Some, None, unwrap_or, string_bytes, refl, sym, ap, ◌∙◌, subst, rules, Bool, true, false}
use Rattle.json_patch_merge.proofs.Common.{Data, Members, no_members, member, null, object, get_member, view, members_view, members_of, Value, Entry, IsDocument, AreMembers, sight_of, Sight, key}
use Rattle.std.proofs.Common.{option_map, option_and_then, IfSome, length, arith, IsTrue, is_some, ◌↔◌}
use Rattle.std.specs.Borrow.{Bor}
use Rattle.std.specs.Prelude.{MatchOption}
use Rattle.serde_json.specs.Find.{as_object}
use Rattle.json_patch_document.specs.Document.{Segment, look}
use Rattle.json_patch_document.proofs.Members.{found_first, member_document}
use Rattle.json_patch_document.proofs.Children.{one_level}
use Rattle.json_merge_diff.specs.Leads.{WantsNull, under}
use Rattle.json_merge_diff.specs.Least.{IsLeast, IsLeastMember, AreLeast, replaces, by_key, keeps, goes, changes, seen, WantsNullAt}
use Rattle.json_merge_diff.proofs.Leading.{as_members, are_members, same_children, null_seen}
use Rattle.json_patch_merge.proofs.MergeFills.{next_document}
use Rattle.json_merge_diff.proofs.Walks.{Walks}
use Rattle.json_patch_merge.proofs.Common.{BTreeMap, String, Global, Object, lookup, view-lookup, view-Object}
use Rattle.serde_json.proofs.Views.{view_of_ref}
use Rattle.json_patch_document.proofs.Writes.{is_named}

-- ---- the members of what was there

abbrev pub members_at : Option Data → Members
members_at was = members_of (unwrap_or was null)

pub seen_at : (was : Option Data) (k : List ℕ) (R : List Segment) → seen was (key k ∷ R) ≡ look (object (members_at was)) (key k ∷ R)
seen_at None k R = refl
seen_at (Some null) k R = refl
seen_at (Some d) k R = search rules

pub an_object : (was : Option Data) (ms : Members) → Some ms ≡ option_and_then as_object was → was ≡ Some (object ms)
an_object was ms is = search rules

pub no_object : (was : Option Data) (ns : Members) → None ≡ option_and_then as_object was → was ≢ Some (object ns)
no_object was ns is = λ h. let e : None ≡ Some ns = is ∙ ap (option_and_then as_object) h in cc

-- ---- the members are changed

kept_same : {was goal : Option Data} → IsLeastMember was goal None → was ≡ goal
kept_same keeps = refl

never_itself : {was goal : Option Data} {q : Data} → IsLeastMember was goal (Some q) → was ≢ goal
never_itself goes = λ e. cc
never_itself (changes apart other h) = apart

pub nothing_changed : (ms ns ps : Members) → AreMembers ms → AreMembers ns → ((k : List ℕ) → IsLeastMember (get_member k ms) (get_member k ns) (get_member k ps)) → ps ≡ no_members → object ms ≡ object ns
nothing_changed ms ns ps hm hn each none =
    one_level (object ms) (object ns) hm hn refl
    (same_children (object ms) (object ns) refl refl (λ k. kept_same (subst (λ x. IsLeastMember (get_member k ms) (get_member k ns) (get_member k x)) none (each k))))

pub something_changed : (ms ns ps : Members) → ((k : List ℕ) → IsLeastMember (get_member k ms) (get_member k ns) (get_member k ps)) → ps ≢ no_members → ms ≢ ns
something_changed ms ns no_members each some = absurd (some refl)
something_changed ms ns (member k q ps) each some = λ same. never_itself (subst (IsLeastMember (get_member k ms) (get_member k ns)) (found_first k q ps) (each k)) (ap (get_member k) same)

pub changed_to : (was : Option Data) (ns ps : Members) → ((k : List ℕ) → IsLeastMember (get_member k (members_at was)) (get_member k ns) (get_member k ps)) → was ≢ Some (object ns) → IsLeastMember was (Some (object ns)) (Some (object ps))
changed_to was ns ps each apart =
    changes apart (λ h. cc) (by_key refl refl (λ k. subst (λ o. IsLeastMember o (get_member k ns) (get_member k ps)) (as_members (unwrap_or was null) k) (each k)))

pub wants_below : (was : Option Data) (ns : Members) → WantsNull (object (members_at was)) (object ns) → WantsNullAt was (object ns)
wants_below was ns w = (w.0 ∷ w.1, w.2, λ h. w.3 (sym (seen_at was w.0 (under w.1)) ∙ h))

-- ---- what is found at a name

got : (r : Option (Bor Value)) (t name : List ℕ) (es : List Entry) → t ≡ name → option_map (λ v. v.now) r ≡ lookup (is_named t) es → option_map (λ v. view v.now) r ≡ get_member name (members_view es)
got r t name es named is = view_of_ref r ∙ ap (option_map view) is ∙ view-lookup t es ∙ ap (λ k. get_member k (members_view es)) named

got_document : (r : Option (Bor Value)) (g : Option Data) → option_map (λ v. view v.now) r ≡ g → ((d : Data) → g ≡ Some d → IsDocument d) → IfSome r (λ v. IsDocument (view v.now))
got_document None g is h = tt
got_document (Some x) g is h = h (view x.now) (sym is)

pub was_document : (r : Option (Bor Value)) → IfSome r (λ v. IsDocument (view v.now)) → IsDocument (unwrap_or (option_map (λ v. view v.now) r) null)
was_document None h = tt
was_document (Some x) h = h

pub keeps_it : (was goal : Option Data) (e : Data) → goal ≡ Some e → was ≡ Some e → IsLeastMember was goal None
keeps_it was goal e found same = rw (found, same) keeps

pub changes_it : (was at goal : Option Data) (e q : Data) → goal ≡ Some e → was ≡ at → IsLeastMember was (Some e) (Some q) → IsLeastMember at goal (Some q)
changes_it was at goal e q found same h = rw (found, ← same) h

pub wants_above : (t : List ℕ) (ms ns : Members) (was : Option Data) (e : Data) → was ≡ get_member t ms → get_member t ns ≡ Some e → WantsNullAt was e → WantsNull (object ms) (object ns)
wants_above t ms ns was e found next w = (t, w.0, ap (λ o. seen o (under w.0)) next ∙ w.1, λ h. w.2 (ap (λ o. seen o (under w.0)) found ∙ h))

-- ---- a value that is no object, at a name or whole

pub replaced_at : (was : Option Data) (e q : Data) → sight_of e ≢ Sight.object → e ≢ null → q ≡ e → IsDocument e → was ≢ Some e → IsLeastMember was (Some e) (Some q) × IsDocument q
replaced_at was e q other some is he apart = rw is (changes apart some (replaces other), he)

null_at : (was : Option Data) → seen was [] ≡ Sight.null → was ≡ Some null
null_at None h = cc
null_at (Some d) h = ap Some (null_seen d h)

pub null_wanted : (was : Option Data) (e : Data) → e ≡ null → was ≢ Some e → WantsNullAt was e
null_wanted was e is apart = ([], ap sight_of is, λ h. apart (null_at was h ∙ ap Some (sym is)))

pub replaced_whole : (d e p : Data) → sight_of e ≢ Sight.object → p ≡ e → IsDocument e → IsLeast d e p × IsDocument p
replaced_whole d e p other is he = rw is (replaces other, he)

-- ---- objects

pub changed_whole : (d : Data) (to p : Value) (n ps : BTreeMap (String Global) Value) (ms : Members) → to ≡ Object n → p ≡ Object ps → ms ≡ members_of d → AreLeast ms (members_view n.entries) (Some ps) → IsLeast d (view to) (view p) × IsDocument (view p)
changed_whole d to p n ps ms is made from h =
    rw (is, made, view-Object n, view-Object ps) (
      by_key refl refl (λ k. subst (λ o. IsLeastMember o (get_member k (members_view n.entries)) (get_member k (members_view ps.entries))) (ap (get_member k) from ∙ as_members d k) (h.1 k)),
      h.0,
    )

pub wanted_whole : (d : Data) (to : Value) (n : BTreeMap (String Global) Value) (ms : Members) → to ≡ Object n → ms ≡ members_of d → AreLeast ms (members_view n.entries) None → WantsNull d (view to)
wanted_whole d to n ms is from w = rw (is, view-Object n) (w.0, w.1, w.2, λ h. w.3 (ap (λ x. look (object x) (key w.0 ∷ under w.1)) from ∙ sym (seen_at (Some d) w.0 (under w.1)) ∙ h))

-- ---- the next member of the walk

-- what is found among these entries at its name, and what a call of both says
pub told : {T : Type 0} {P : List ℕ → Option Data → Type 0} {all now : Members} {items rest : List Entry} (e : Entry) (r : Option (Bor Value)) (t : List ℕ) (es : List Entry)
    → items ≡ e ∷ rest → Walks P all now (members_view items) → AreMembers (members_view es) → t ≡ string_bytes e.0 → option_map (λ v. v.now) r ≡ lookup (is_named t) es
    → (IfSome r (λ v. IsDocument (view v.now)) → IsDocument (view e.1) → T) → (option_map (λ v. view v.now) r ≡ get_member (string_bytes e.0) (members_view es)) × T
told {items = items} {rest = rest} e r t es next w hm named is says =
    let name = string_bytes e.0 in
    let found = got r t name es named is in
    (found, says (got_document r _ found (λ d h. member_document name d _ hm h)) (next_document items rest e next w.members))

pub next_named : {P : List ℕ → Option Data → Type 0} {all now : Members} {items rest : List Entry} (e : Entry) → items ≡ e ∷ rest → Walks P all now (members_view items) → get_member (string_bytes e.0) all ≡ Some (view e.1)
next_named {P} {all} {now} {items} {rest} e is h = let w = subst (λ es. Walks P all now (members_view es)) is h in w.named (string_bytes e.0) (view e.1) (found_first (string_bytes e.0) (view e.1) (members_view rest))

-- ---- the members of what was there, as the code finds them

not_there : (was : Option Data) → None ≡ option_and_then as_object was → no_members ≡ members_at was
not_there None h = refl
not_there (Some d) h = search rules

there : (was : Option Data) (ms : Members) → Some ms ≡ option_and_then as_object was → ms ≡ members_at was
there was ms h = search rules

pub olds_are : (o : Option (Bor (BTreeMap (String Global) Value))) (x r : Bor (BTreeMap (String Global) Value)) (was : Option Data) → option_map (λ m. members_view m.now.entries) o ≡ option_and_then as_object was → x.now.entries ≡ [] → r ≡ unwrap_or o x
    → members_view r.now.entries ≡ members_at was
olds_are None x r was found empty is = ap (λ m. members_view m.now.entries) is ∙ ap members_view empty ∙ not_there was found
olds_are (Some m) x r was found empty is = ap (λ m. members_view m.now.entries) is ∙ there was (members_view m.now.entries) found

some_same : {d e : Data} → Some d ≡ Some e → d ≡ e
some_same h = cc

pub differs : (r : Option (Bor Value)) (x : Bor Value) (e : Data) (b : Bool) → r ≡ Some x → IfSome r (λ v. IsDocument (view v.now)) → (IsDocument (view x.now) → (IsTrue b ↔ (view x.now ≡ e))) → b ≡ false → option_map (λ v. view v.now) r ≢ Some e
differs r x e b is h tells unlike same = let t : IsTrue b = (tells (rw is at h)).1 (some_same (rw is at same)) in search rules

-- ---- an object at a name

abbrev pub Members_of : Type 0
Members_of = BTreeMap (String Global) Value

pub found_members : (o : Option (Bor Value)) (r : Option (Bor Members_of)) → MatchOption o (r ≡ None) (λ x. option_map (λ m. members_view m.now.entries) r ≡ as_object (view x.now))
    → option_map (λ m. members_view m.now.entries) r ≡ option_and_then as_object (option_map (λ v. view v.now) o)
found_members None r is = rw is refl
found_members (Some x) r is = is

pub an_object_was : (o : Option (Bor Members_of)) (was : Option Data) (b : Bool) → option_map (λ m. members_view m.now.entries) o ≡ option_and_then as_object was → b ≡ is_some o → b ≡ true → was ≡ Some (object (members_at was))
an_object_was None was b found tests is = cc
an_object_was (Some m) was b found tests is = let e = an_object was (members_view m.now.entries) found in e ∙ ap (λ x. Some (object x)) (there was (members_view m.now.entries) found)

pub no_object_was : (o : Option (Bor Members_of)) (was : Option Data) (b : Bool) (ns : Members) → option_map (λ m. members_view m.now.entries) o ≡ option_and_then as_object was → b ≡ is_some o → b ≡ false → was ≢ Some (object ns)
no_object_was None was b ns found tests is = no_object was ns found
no_object_was (Some m) was b ns found tests is = λ h. cc

pub of_object : (v : Value) (m : Members_of) → v ≡ Object m → IsDocument (view v) → AreMembers (members_view m.entries)
of_object v m is h = subst IsDocument (ap view is ∙ view-Object m) h

pub members_were : (o : Option (Bor Value)) (ms : Members) → ms ≡ members_at (option_map (λ v. view v.now) o) → IfSome o (λ v. IsDocument (view v.now)) → AreMembers ms
members_were o ms is h = subst AreMembers (sym is) (are_members (unwrap_or (option_map (λ v. view v.now) o) null) (was_document o h))

no_entries : (es : List Entry) → length es ≡ 0 → members_view es ≡ no_members
no_entries [] h = refl
no_entries (e ∷ es) h = absurd (omega arith)

some_entries : (es : List Entry) → (length es ≡ 0 → ⊥) → members_view es ≢ no_members
some_entries [] h = absurd (h refl)
some_entries (e ∷ es) h = λ is. cc

pub wants_here : (was : Option Data) (new : Value) (n : Members_of) (ms : Members) → new ≡ Object n → ms ≡ members_at was → AreLeast ms (members_view n.entries) None → WantsNullAt was (view new)
wants_here was new n ms is from w = rw (is, view-Object n) (wants_below was (members_view n.entries) (subst (λ x. WantsNull (object x) (object (members_view n.entries))) from w))

pub nothing_here : (was : Option Data) (new : Value) (n ps : Members_of) (ms : Members) → new ≡ Object n → ms ≡ members_at was → was ≡ Some (object (members_at was)) → AreMembers ms → AreMembers (members_view n.entries) → AreLeast ms (members_view n.entries) (Some ps) → length ps.entries ≡ 0
    → was ≡ Some (view new)
nothing_here was new n ps ms is from an hm hn h none =
    an ∙ ap (λ x. Some (object x)) (sym from) ∙ ap Some (nothing_changed ms (members_view n.entries) (members_view ps.entries) hm hn h.1 (no_entries ps.entries none)) ∙ ap Some (sym (ap view is ∙ view-Object n))

pub another_here : (was : Option Data) (n ps : Members_of) (ms : Members) → ms ≡ members_at was → AreLeast ms (members_view n.entries) (Some ps) → (length ps.entries ≡ 0 → ⊥) → was ≢ Some (object (members_view n.entries))
another_here was n ps ms from h some =
    λ is. something_changed ms (members_view n.entries) (members_view ps.entries) h.1 (some_entries ps.entries some) (from ∙ ap members_at is)

pub changes_here : (was : Option Data) (new p : Value) (n ps : Members_of) (ms : Members) → new ≡ Object n → p ≡ Object ps → ms ≡ members_at was → AreLeast ms (members_view n.entries) (Some ps) → was ≢ Some (object (members_view n.entries))
    → IsLeastMember was (Some (view new)) (Some (view p)) × IsDocument (view p)
changes_here was new p n ps ms is made from h apart =
    rw (is, made, view-Object n, view-Object ps) (
      changed_to was (members_view n.entries) (members_view ps.entries) (λ k. subst (λ x. IsLeastMember (get_member k x) (get_member k (members_view n.entries)) (get_member k (members_view ps.entries))) from (h.1 k)) apart,
      h.0,
    )

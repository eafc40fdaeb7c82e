-- What a merge patch does with other numbers is what it does, with other numbers: a merge compares none. And how deep one nests.
use Rattle.std.proofs.Common.{◌≡◌, ◌≢◌, ◌<◌, ◌≤◌, ◌-◌, ℕ, List, [], ◌∷◌, Option, Some, None, option_map, option_and_then, max, refl, sym, ap, ◌∙◌, subst, arith}
use Rattle.std.specs.Prelude.{unwrap_or}
use Rattle.std.proofs.lemmas.Option.{none-some}
use Rattle.serde_json.specs.Data.{Num, Data, null, boolean, number, string, array, object, Members, no_members, member, depth, members_depth}
use Rattle.serde_json.specs.Find.{get, get_member}
use Rattle.json_patch_document.specs.Document.{IsDocument, AreMembers, Segment, key, child, value_at, sight, sight_of, look}
use Rattle.json_patch_document.specs.Sight.{Sight}
use Rattle.json_patch_document.proofs.Members.{below_absent, child_document, found_first, skips}
use Rattle.json_patch_limits.proofs.Depths.{member_depth}
use Rattle.json_patch_merge.specs.Merged.{IsMerged, IsMergedMember, replaces, by_key, stays, goes, merges}
use Rattle.json_merge_diff.specs.Composed as composed
use Rattle.json_merge_diff.specs.Composed.{IsComposed, IsComposedMember}
use Rattle.json_merge_diff.specs.Leads.{Resets, WantsNull, under}
use Rattle.json_diff_text.specs.Renumbered.{renumbered}
use Rattle.json_diff_text.proofs.Renumbering.{child_is, over}

-- ---- what is seen

seen_as : (Num → Num) → Sight → Sight
seen_as f Sight.nothing = Sight.nothing
seen_as f Sight.null = Sight.null
seen_as f (Sight.boolean b) = Sight.boolean b
seen_as f (Sight.number n) = Sight.number (f n)
seen_as f (Sight.string s) = Sight.string s
seen_as f Sight.array = Sight.array
seen_as f Sight.object = Sight.object

abbrev IsNoNumber : Sight → Type 0
IsNoNumber s = (n : Num) → s ≢ Sight.number n

sight_is : (f : Num → Num) (o : Option Data) → sight (option_map (renumbered f) o) ≡ seen_as f (sight o)
unfolding seen_as
sight_is f None = refl
sight_is f (Some null) = refl
sight_is f (Some (boolean b)) = refl
sight_is f (Some (number n)) = refl
sight_is f (Some (string s)) = refl
sight_is f (Some (array ds)) = refl
sight_is f (Some (object ms)) = refl

forth : (f : Num → Num) (s : Sight) → IsNoNumber s → seen_as f s ≡ s
unfolding seen_as
forth f Sight.nothing h = refl
forth f Sight.null h = refl
forth f (Sight.boolean b) h = refl
forth f (Sight.number n) h = absurd (h n refl)
forth f (Sight.string s) h = refl
forth f Sight.array h = refl
forth f Sight.object h = refl

back : (f : Num → Num) (s t : Sight) → IsNoNumber t → seen_as f s ≡ t → s ≡ t
unfolding seen_as
back f Sight.nothing t h e = e
back f Sight.null t h e = e
back f (Sight.boolean b) t h e = e
back f (Sight.number n) t h e = absurd (h (f n) (sym e))
back f (Sight.string s) t h e = e
back f Sight.array t h e = e
back f Sight.object t h e = e

kept : (f : Num → Num) (o : Option Data) (t : Sight) → IsNoNumber t → sight o ≡ t → sight (option_map (renumbered f) o) ≡ t
kept f o t n h = sight_is f o ∙ ap (seen_as f) h ∙ forth f t n

kept_back : (f : Num → Num) (o : Option Data) (t : Sight) → IsNoNumber t → sight (option_map (renumbered f) o) ≡ t → sight o ≡ t
kept_back f o t n h = back f (sight o) t n (sym (sight_is f o) ∙ h)

nothing_none : IsNoNumber Sight.nothing
nothing_none n e = cc

null_none : IsNoNumber Sight.null
null_none n e = cc

object_none : IsNoNumber Sight.object
object_none n e = cc

stands_is : (f : Num → Num) (d : Data) (L : List Segment) → value_at (renumbered f d) L ≡ option_map (renumbered f) (value_at d L)
stands_is f d [] = refl
stands_is f d (s ∷ L) = ap (option_and_then (λ e. value_at e L)) (child_is f s d) ∙ over f (λ e. value_at e L) (λ e. value_at e L) (child s d) (λ e. stands_is f e L)

look_kept : (f : Num → Num) (d : Data) (L : List Segment) (t : Sight) → IsNoNumber t → look d L ≡ t → look (renumbered f d) L ≡ t
look_kept f d L t n h = ap sight (stands_is f d L) ∙ kept f (value_at d L) t n h

look_back : (f : Num → Num) (d : Data) (L : List Segment) (t : Sight) → IsNoNumber t → look (renumbered f d) L ≡ t → look d L ≡ t
look_back f d L t n h = kept_back f (value_at d L) t n (sym (ap sight (stands_is f d L)) ∙ h)

pub wants_is : (f : Num → Num) (d e : Data) → WantsNull d e → WantsNull (renumbered f d) (renumbered f e)
wants_is f d e (k, ks, is, other) = (k, ks, look_kept f e (under (k ∷ ks)) Sight.null null_none is, λ h. other (look_back f d (under (k ∷ ks)) Sight.null null_none h))

pub resets_is : (f : Num → Num) (p q : Data) → Resets p q → Resets (renumbered f p) (renumbered f q)
resets_is f p q (ks, is, other, some) =
    (ks, look_kept f q (under ks) Sight.object object_none is, λ h. other (look_back f p (under ks) Sight.object object_none h), λ h. some (look_back f p (under ks) Sight.nothing nothing_none h))

-- ---- merged and composed

name_is : (f : Num → Num) (k : List ℕ) (d : Data) → get k (renumbered f d) ≡ option_map (renumbered f) (get k d)
name_is f k d = child_is f (key k) d

null_back : (f : Num → Num) (q : Data) → renumbered f q ≡ null → q ≡ null
null_back f null e = refl
null_back f (boolean b) e = cc
null_back f (number n) e = cc
null_back f (string s) e = cc
null_back f (array ds) e = cc
null_back f (object ms) e = cc

or_null : (f : Num → Num) (o : Option Data) → renumbered f (unwrap_or o null) ≡ unwrap_or (option_map (renumbered f) o) null
or_null f None = refl
or_null f (Some d) = refl

merged_along : {was was' named named' now now' : Option Data} → was ≡ was' → named ≡ named' → now ≡ now' → IsMergedMember was' named' now' → IsMergedMember was named now
merged_along a b c h = rw (a, b, c) h

composed_along : {was was' named named' now now' : Option Data} → was ≡ was' → named ≡ named' → now ≡ now' → IsComposedMember was' named' now' → IsComposedMember was named now
composed_along a b c h = rw (a, b, c) h

mutual
  pub merged_is : {d p e : Data} (f : Num → Num) → IsMerged d p e → IsMerged (renumbered f d) (renumbered f p) (renumbered f e)
  merged_is {p = p} f (replaces other) = replaces (λ h. other (kept_back f (Some p) Sight.object object_none h))
  merged_is {d = d} {p = p} {e = e} f (by_key named left each) =
      by_key (kept f (Some p) Sight.object object_none named) (kept f (Some e) Sight.object object_none left) (λ k. merged_along (name_is f k d) (name_is f k p) (name_is f k e) (member_merged f (each k)))

  member_merged : {was named now : Option Data} (f : Num → Num) → IsMergedMember was named now → IsMergedMember (option_map (renumbered f) was) (option_map (renumbered f) named) (option_map (renumbered f) now)
  member_merged f stays = stays
  member_merged f goes = goes
  member_merged {was = was} f (merges {q = q} {e = e} other h) =
      merges (λ is. other (null_back f q is)) (subst (λ d. IsMerged d (renumbered f q) (renumbered f e)) (or_null f was) (merged_is f h))

mutual
  pub composed_is : {p q r : Data} (f : Num → Num) → IsComposed p q r → IsComposed (renumbered f p) (renumbered f q) (renumbered f r)
  composed_is {q = q} f (composed.replaces other) = composed.replaces (λ h. other (kept_back f (Some q) Sight.object object_none h))
  composed_is {p = p} {q = q} {r = r} f (composed.by_key one then shape each) =
      composed.by_key (kept f (Some p) Sight.object object_none one) (kept f (Some q) Sight.object object_none then) (kept f (Some r) Sight.object object_none shape)
      (λ k. composed_along (name_is f k p) (name_is f k q) (name_is f k r) (member_composed f (each k)))

  member_composed : {a b o : Option Data} (f : Num → Num) → IsComposedMember a b o → IsComposedMember (option_map (renumbered f) a) (option_map (renumbered f) b) (option_map (renumbered f) o)
  member_composed f composed.first = composed.first
  member_composed f composed.second = composed.second
  member_composed f (composed.both h) = composed.both (composed_is f h)

-- ---- how deep they nest

within_names : (ms : Members) (n : ℕ) → AreMembers ms → ((k : List ℕ) (c : Data) → get_member k ms ≡ Some c → depth c ≤ n) → members_depth ms ≤ n
within_names no_members n h each = omega arith
within_names (member l d ms) n h each =
    let here = each l d (found_first l d ms) in
    let more = within_names ms n h.2 (λ k c at. each k c (skips k l d ms (λ same. none-some c (sym (ap (λ x. get_member x ms) same ∙ below_absent l ms h.0) ∙ at)) ∙ at)) in
    omega (arith, here, more)

some_level : (d : Data) → sight_of d ≡ Sight.object → 1 ≤ depth d
some_level null is = cc
some_level (boolean b) is = cc
some_level (number n) is = cc
some_level (string s) is = cc
some_level (array ds) is = cc
some_level (object ms) is = omega arith

within : (d : Data) (n : ℕ) → sight_of d ≡ Sight.object → IsDocument d → 1 ≤ n → ((k : List ℕ) (c : Data) → get k d ≡ Some c → depth c < n) → depth d ≤ n
within null n is h some each = cc
within (boolean b) n is h some each = cc
within (number x) n is h some each = cc
within (string s) n is h some each = cc
within (array ds) n is h some each = cc
within (object ms) n is h some each =
    let more : members_depth ms ≤ n - 1 = within_names ms (n - 1) h (λ k c at. let low : depth c < n = each k c at in omega (arith, low, some)) in
    omega (arith, more, some)

below_name : (d : Data) (k : List ℕ) (c : Data) → get k d ≡ Some c → depth c < depth d
below_name null k c at = cc
below_name (boolean b) k c at = cc
below_name (number n) k c at = cc
below_name (string s) k c at = cc
below_name (array ds) k c at = cc
below_name (object ms) k c at = let low : depth c ≤ members_depth ms = member_depth k c ms at in omega (arith, low)

same_depth : (c d : Data) → c ≡ d → depth c ≡ depth d
same_depth c d is = ap depth is

mutual
  -- a merge patch nests no deeper than what it leaves
  pub merged_low : {d p e : Data} → IsDocument p → IsMerged d p e → depth p ≤ depth e
  merged_low h (replaces other) = omega arith
  merged_low {p = p} {e = e} h (by_key named left each) = within p (depth e) named h (some_level e left) (λ k c at. member_low c (depth e) (child_document (key k) p c h at) at (below_name e k) (some_level e left) (each k))

  member_low : {was named now : Option Data} (c : Data) (n : ℕ) → IsDocument c → named ≡ Some c → ((x : Data) → now ≡ Some x → depth x < n) → 1 ≤ n → IsMergedMember was named now → depth c < n
  member_low c n h at low some stays = cc
  member_low c n h at low some goes = let is : null ≡ c = cc in let same : depth null ≡ depth c = same_depth null c is in omega (arith, same, some)
  member_low c n h at low some (merges {q = q} {e = e} other m) =
      let is : q ≡ c = cc in
      let same : depth q ≡ depth c = same_depth q c is in
      let more : depth q ≤ depth e = merged_low (subst IsDocument (sym is) h) m in
      let there : depth e < n = low e refl in
      omega (arith, same, more, there)

mutual
  -- one that does what two do nests no deeper than the deeper of the two
  pub composed_low : {p q r : Data} → IsDocument r → IsComposed p q r → depth r ≤ max (depth p) (depth q)
  composed_low h (composed.replaces other) = omega arith
  composed_low {p = p} {q = q} {r = r} h (composed.by_key one then shape each) =
      let some : 1 ≤ depth p = some_level p one in
      within r (max (depth p) (depth q)) shape h (omega (arith, some)) (λ k c at. composed_member_low c (depth p) (depth q) (child_document (key k) r c h at) at (below_name p k) (below_name q k) (each k))

  composed_member_low : {a b o : Option Data} (c : Data) (m n : ℕ) → IsDocument c → o ≡ Some c → ((x : Data) → a ≡ Some x → depth x < m) → ((x : Data) → b ≡ Some x → depth x < n) → IsComposedMember a b o → depth c < max m n
  composed_member_low c m n h at low other composed.first = let there : depth c < m = low c at in omega (arith, there)
  composed_member_low c m n h at low other composed.second = let there : depth c < n = other c at in omega (arith, there)
  composed_member_low c m n h at low other (composed.both {p = p} {q = q} {r = r} x) =
      let is : r ≡ c = cc in
      let same : depth r ≡ depth c = same_depth r c is in
      let more : depth r ≤ max (depth p) (depth q) = composed_low (subst IsDocument (sym is) h) x in
      let one : depth p < m = low p refl in
      let two : depth q < n = other q refl in
      omega (arith, same, more, one, two)

-- A merge of trees, name by name, under each reading.
use Rattle.std.proofs.Common.{◌≡◌, ◌≢◌, ℕ, List, Option, Some, None, option_map, unwrap_or, refl, sym, ap, subst}
use Rattle.json.specs.Find.{as_object, get_member}
use Rattle.json.specs.Json as json
use Rattle.json.specs.Json.{Json}
use Rattle.serde_json.specs.Data.{Data, null}
use Rattle.serde_json.specs.Find.{get}
use Rattle.json_merge_text.specs.Merged.{IsMergedTree}
use Rattle.json_patch_document.specs.Document.{sight_of}
use Rattle.json_patch_document.specs.Sight.{Sight}
use Rattle.json_patch_merge.specs.Merged.{IsMerged, IsMergedMember, replaces, by_key, stays, goes, merges}
use Rattle.json_reading.specs.Reading.{Reading}
use Rattle.json_reading.specs.Same.{SameTree}
use Rattle.json_reading.specs.Trees.{data_of}
use Rattle.json_reading.proofs.Documents.{found}
use Rattle.json_reading.proofs.Trees.{one_document}

-- of what stood at a name, what the patch has there and what stands there now
abbrev pub MergedAt : Option Json → Option Json → Option Json → Type 0
MergedAt was named now = (r : Reading) → IsMergedMember (option_map (data_of r) was) (option_map (data_of r) named) (option_map (data_of r) now)

along : {was was' named named' now now' : Option Data} → was ≡ was' → named ≡ named' → now ≡ now' → IsMergedMember was' named' now' → IsMergedMember was named now
along {now = now} a b c h = rw (a, b, c) h

-- ---- merged into itself as into nothing

mutual
  into_nothing : {d p e : Data} (c : Data) → d ≡ p → ((k : List ℕ) → get k c ≡ None) → IsMerged d p e → IsMerged c p e
  into_nothing c same none (replaces other) = replaces other
  into_nothing c same none (by_key named left each) = by_key named left (λ k. member_into_nothing (get k c) (none k) (ap (get k) same) (each k))

  member_into_nothing : {was named now : Option Data} (o : Option Data) → o ≡ None → was ≡ named → IsMergedMember was named now → IsMergedMember o named now
  member_into_nothing o none same stays = along none refl same stays
  member_into_nothing o none same goes = goes
  member_into_nothing o none same (merges other h) =
      merges other (into_nothing (unwrap_or o null) (ap (λ x. unwrap_or x null) same) (λ k. ap (λ x. get k (unwrap_or x null)) none) h)

-- ---- trees

pub no_object : (r : Reading) (p : Json) → as_object p ≡ None → sight_of (data_of r p) ≢ Sight.object
no_object r json.null e = λ h. cc
no_object r (json.boolean b) e = λ h. cc
no_object r (json.number s) e = λ h. cc
no_object r (json.string s) e = λ h. cc
no_object r (json.array js) e = λ h. cc
no_object r (json.object ms) e = cc

no_members : (r : Reading) (i : Json) (k : List ℕ) → as_object i ≡ None → get k (data_of r i) ≡ None
no_members r json.null k e = refl
no_members r (json.boolean b) k e = refl
no_members r (json.number s) k e = refl
no_members r (json.string s) k e = refl
no_members r (json.array js) k e = refl
no_members r (json.object ms) k e = cc

pub not_null : (r : Reading) (q : Json) → q ≢ json.null → data_of r q ≢ null
not_null r json.null other = absurd (other refl)
not_null r (json.boolean b) other = λ h. cc
not_null r (json.number s) other = λ h. cc
not_null r (json.string s) other = λ h. cc
not_null r (json.array js) other = λ h. cc
not_null r (json.object ms) other = λ h. cc

-- ---- what is no object

pub same_merged : (i p : Json) → as_object p ≡ None → SameTree i p → IsMergedTree i p i
same_merged i p none same r = subst (IsMerged (data_of r i) (data_of r p)) (sym (one_document r i p same)) (replaces (no_object r p none))

pub put_merged : (i p : Json) → as_object p ≡ None → IsMergedTree i p p
put_merged i p none r = replaces (no_object r p none)

-- ---- objects

pub names_merged : (is ps ns : json.Members) → ((k : List ℕ) → MergedAt (get_member k is) (get_member k ps) (get_member k ns)) → IsMergedTree (json.object is) (json.object ps) (json.object ns)
names_merged is ps ns h r = by_key refl refl (λ k. along (found r k is) (found r k ps) (found r k ns) (h k r))

pub object_merged : (i : Json) (ps ns : json.Members) → as_object i ≡ None → IsMergedTree (json.object ps) (json.object ps) (json.object ns) → IsMergedTree i (json.object ps) (json.object ns)
object_merged i ps ns none h r = into_nothing (data_of r i) refl (λ k. no_members r i k none) (h r)

-- ---- at a name

pub removed_at : (was : Option Json) → MergedAt was (Some json.null) None
removed_at was r = goes

pub added_at : (q j : Json) → q ≢ json.null → IsMergedTree q q j → MergedAt None (Some q) (Some j)
added_at q j other h r = merges (not_null r q other) (into_nothing null refl (λ k. refl) (h r))

pub merged_at : (i q j : Json) → q ≢ json.null → IsMergedTree i q j → MergedAt (Some i) (Some q) (Some j)
merged_at i q j other h r = merges (not_null r q other) (h r)

pub unnamed_at : (was now : Option Json) → now ≡ was → MergedAt was None now
unnamed_at was now same r = along refl refl (ap (option_map (data_of r)) same) stays

left_so : {was named now : Option Data} → named ≡ None → IsMergedMember was named now → now ≡ was
left_so e stays = refl
left_so e goes = cc
left_so e (merges other h) = cc

-- and then no more is named there
pub then_unnamed : (was named mid now : Option Json) → MergedAt was named mid → MergedAt mid None now → MergedAt was named now
then_unnamed was named mid now h g r = along refl refl (left_so refl (g r)) (h r)

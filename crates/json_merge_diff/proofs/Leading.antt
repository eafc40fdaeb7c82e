-- The least merge patch leads there, is part of each that does, and where a null is wanted none does.
use Rattle.std.proofs.Common.{◌≡◌, ◌≢◌, ◌↔◌, ℕ, List, [], ◌∷◌, Option, Some, None, unwrap_or, refl, sym, ap, ◌∙◌, subst, rules}
use Rattle.serde_json.specs.Data.{Data, null, object, no_members, member}
use Rattle.serde_json.specs.Find.{get}
use Rattle.json_patch_document.specs.Document.{Segment, key, place, child, IsDocument, AreMembers, look, sight_of}
use Rattle.json_patch_document.specs.Sight.{Sight}
use Rattle.json_patch_document.proofs.Members.{found_first}
use Rattle.json_patch_document.proofs.Children.{one_level}
use Rattle.json_patch_document.proofs.Alike.{something}
use Rattle.json_patch_merge.specs.Merged.{IsMerged, IsMergedMember}
use Rattle.json_patch_merge.specs.Merged as m
use Rattle.json_patch_merge.specs.MergedComputed.{members_of}
use Rattle.json_merge_diff.specs.Leads.{IsPartOf, under}
use Rattle.json_merge_diff.specs.Least.{IsLeast, IsLeastMember, replaces, by_key, keeps, goes, changes, seen}

-- ---- it leads there

not_null : {d e q : Data} → IsLeast d e q → e ≢ null → q ≢ null
not_null (replaces other) h = h
not_null (by_key goal shape each) h = λ is. let e : Sight.null ≡ Sight.object = ap sight_of (sym is) ∙ shape in cc

mutual
  pub leads : {d e p : Data} → IsLeast d e p → IsMerged d p e
  leads (replaces other) = m.replaces other
  leads (by_key goal shape each) = m.by_key shape goal (λ k. leads_at (each k))

  leads_at : {was goal has : Option Data} → IsLeastMember was goal has → IsMergedMember was has goal
  leads_at keeps = m.stays
  leads_at goes = m.goes
  leads_at (changes apart other h) = m.merges (not_null h other) (leads h)

-- ---- it is part of each that does

-- of two objects: at each name
pub parts : (p q : Data) → sight_of p ≡ Sight.object → sight_of q ≡ Sight.object → ((k : List ℕ) (R : List Segment) → seen (get k p) R ≢ Sight.nothing → seen (get k q) R ≡ seen (get k p) R) → IsPartOf p q
parts p q hp hq each [] h = hq ∙ sym hp
parts p q hp hq each (key k ∷ R) h = each k R h
parts (object ps) q hp hq each (place i ∷ R) h = absurd (h refl)
parts p q hp hq each (place i ∷ R) h = search rules

mutual
  pub part : {d e p : Data} → IsLeast d e p → (q : Data) → IsMerged d q e → IsPartOf p q
  part (replaces other) q (m.replaces _) L h = refl
  part (replaces other) q (m.by_key named left each) L h = absurd (other left)
  part (by_key goal shape each) q (m.replaces other) L h = absurd (other goal)
  part (by_key {p = p} goal shape each) q (m.by_key named left each') L h = parts p q shape named (λ k. part_at (each k) (each' k)) L h

  part_at : {was goal has other : Option Data} → IsLeastMember was goal has → IsMergedMember was other goal → (R : List Segment) → seen has R ≢ Sight.nothing → seen other R ≡ seen has R
  part_at keeps h R some = absurd (some refl)
  part_at goes m.goes R some = refl
  part_at (changes apart other h) m.stays R some = absurd (apart refl)
  part_at (changes apart other h) (m.merges {q = q} _ h') R some = part h q h' R some

-- ---- where a null is wanted none leads

-- what has something below a name is an object
holder : (d : Data) (k : List ℕ) (R : List Segment) → look d (key k ∷ R) ≡ Sight.null → sight_of d ≡ Sight.object
holder d k R h = search rules

seen_below : (was : Option Data) (k : List ℕ) (R : List Segment) → seen was (key k ∷ R) ≢ Sight.null → look (unwrap_or was null) (key k ∷ R) ≢ Sight.null
seen_below None k R h = h
seen_below (Some d) k R h = h

pub null_seen : (e : Data) → sight_of e ≡ Sight.null → e ≡ null
null_seen e h = search rules

null_by : {d q e : Data} → IsMerged d q e → sight_of e ≡ Sight.null → q ≡ null
null_by {e = e} (m.replaces other) h = null_seen e h
null_by (m.by_key named left each) h = let x : Sight.null ≡ Sight.object = sym h ∙ left in cc

mutual
  pub none_leads : {d q e : Data} (k : List ℕ) (ks : List (List ℕ)) → IsMerged d q e → look e (key k ∷ under ks) ≡ Sight.null → look d (key k ∷ under ks) ≢ Sight.null → ⊥
  none_leads {e = e} k ks (m.replaces other) here out = other (holder e k (under ks) here)
  none_leads k ks (m.by_key named left each) here out = none_at ks (each k) here out

  none_at : {was has goal : Option Data} (ks : List (List ℕ)) → IsMergedMember was has goal → seen goal (under ks) ≡ Sight.null → seen was (under ks) ≢ Sight.null → ⊥
  none_at ks m.stays here out = out here
  none_at ks m.goes here out = cc
  none_at [] (m.merges other h) here out = other (null_by h here)
  none_at {was} (k ∷ ks) (m.merges other h) here out = none_leads k ks h here (seen_below was k (under ks) out)

-- ---- it is empty where nothing changes

stays_at : {was goal : Option Data} → IsMergedMember was None goal → goal ≡ was
stays_at m.stays = refl

pub stays_as : {d e : Data} → IsMerged d (object no_members) e → (k : List ℕ) → get k e ≡ get k d
stays_as (m.replaces other) k = absurd (other refl)
stays_as {d} {e} (m.by_key named left each) k = stays_at (each k)

pub as_members : (d : Data) (k : List ℕ) → get k (object (members_of d)) ≡ get k d
as_members d k = search rules

pub are_members : (d : Data) → IsDocument d → AreMembers (members_of d)
are_members d h = search rules

leaves_object : {d e : Data} → IsMerged d (object no_members) e → sight_of e ≡ Sight.object
leaves_object (m.replaces other) = absurd (other refl)
leaves_object (m.by_key named left each) = left

pub same_children : (e f : Data) → sight_of e ≡ Sight.object → sight_of f ≡ Sight.object → ((k : List ℕ) → get k e ≡ get k f) → (r : Segment) → child r e ≡ child r f
same_children e f he hf each r = search rules

pub nothing_leads : (d e : Data) → IsDocument d → IsDocument e → IsMerged d (object no_members) e → e ≡ object (members_of d)
nothing_leads d e hd he h =
    one_level e (object (members_of d)) he (are_members d hd) (leaves_object h) (same_children e (object (members_of d)) (leaves_object h) refl (λ k. stays_as h k ∙ sym (as_members d k)))

pub leads_by_nothing : (d e : Data) → e ≡ object (members_of d) → IsMerged d (object no_members) e
leads_by_nothing d e is = subst (IsMerged d (object no_members)) (sym is) (m.by_key refl refl (λ k. subst (λ o. IsMergedMember (get k d) None o) (sym (as_members d k)) m.stays))

pub no_part : (p : Data) → IsPartOf p (object no_members) → p ≡ object no_members
no_part (object no_members) h = refl
no_part (object (member k d ms)) h =
    let e : look (object (member k d ms)) (key k ∷ []) ≡ sight_of d = ap (λ o. seen o []) (found_first k d ms) in
    absurd (something d (sym e ∙ sym (h (key k ∷ []) (λ x. something d (sym e ∙ x)))))
no_part p h = let e : Sight.object ≡ sight_of p = h [] (something p) in cc

pub empty_exactly : (d e p : Data) → IsDocument d → IsDocument e → IsLeast d e p → (p ≡ object no_members) ↔ (e ≡ object (members_of d))
empty_exactly d e p hd he h = (λ is. nothing_leads d e hd he (subst (λ x. IsMerged d x e) is (leads h)), λ is. no_part p (part h (object no_members) (leads_by_nothing d e is)))

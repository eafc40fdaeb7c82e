-- A merge that changes nothing has no changes.
use Rattle.std.proofs.Common.{◌≡◌, ◌≢◌, ⊎_elim, ℕ, List, [], ◌∷◌, ◌++◌, Option, Some, None, option_map, unwrap_or, refl, sym, ap, ap₂, ◌∙◌, subst}
use Rattle.std.specs.Prelude.{MatchOption}
use Rattle.std.proofs.lemmas.Option.{none-some, same_Some}
use Rattle.json.specs.Find.{as_object, get_member}
use Rattle.json.specs.Json as json
use Rattle.json.specs.Json.{Json, Members, no_members, member}
use Rattle.jsonptr.specs.Text.{Pointer}
use Rattle.serde_json.specs.Data.{Data, null}
use Rattle.serde_json.specs.Find.{get}
use Rattle.json_merge_text.specs.Changes.{AreMade, TextChange, add, remove, replace}
use Rattle.json_merge_text.specs.Merged.{IsMergedAlready, IsMergedText, IsMergedTree}
use Rattle.json_merge_text.specs.Merging.{InTurn, MergesInto, MergesMember, MergesObject, PutsIn}
use Rattle.json_merge_text.proofs.Documents.{MergedAt, no_object, not_null}
use Rattle.json_merge_text.proofs.Merges.{first_named, null_or, other_into, other_member, shadowed, skips}
use Rattle.json_patch_document.specs.Document.{sight_of}
use Rattle.json_patch_document.specs.Sight.{Sight}
use Rattle.json_patch_document.proofs.SameDocuments.{AreSame-document}
use Rattle.json_patch_merge.specs.Merged.{IsMerged, IsMergedMember, replaces, by_key, stays, goes, merges}
use Rattle.json_patch_merge.proofs.Merges as merge
use Rattle.json_reading.specs.Same.{SameTree}
use Rattle.json_reading.specs.Trees.{data_of}
use Rattle.json_reading.proofs.Documents.{IsDocument-data_of, found}
use Rattle.json_reading.proofs.Told.{some_reading}
use Rattle.json_reading.proofs.Trees.{same_exactly}
use Rattle.json_lexemes.proofs.Nests.{one_tree}

-- ---- documents

-- what is merged into a member and leaves one
left_merged : {was named now : Option Data} (d q e : Data) → was ≡ Some d → named ≡ Some q → now ≡ Some e → q ≢ null → IsMergedMember was named now → IsMerged d q e
left_merged d q e a b c other stays = cc
left_merged d q e a b c other goes = cc
left_merged d q e a b c other (merges {was = was} {q = p} {e = n} apart h) =
    subst (λ x. IsMerged x q e) (ap (λ o. unwrap_or o null) a) (subst (λ x. IsMerged (unwrap_or was null) x e) (same_Some p q b) (subst (IsMerged (unwrap_or was null) p) (same_Some n e c) h))

-- null leaves nothing, and anything else leaves something
null_leaves : {was named now : Option Data} (e : Data) → named ≡ Some null → now ≡ Some e → IsMergedMember was named now → ⊥
null_leaves e a b stays = cc
null_leaves e a b goes = cc
null_leaves e a b (merges {q = q} other h) = other (same_Some q null a)

other_leaves : {was named now : Option Data} (q : Data) → named ≡ Some q → q ≢ null → now ≡ None → IsMergedMember was named now → ⊥
other_leaves q a other b stays = cc
other_leaves q a other b goes = other (same_Some q null (sym a))
other_leaves q a other b (merges apart h) = cc

key_of : {d p e : Data} → sight_of p ≡ Sight.object → IsMerged d p e → (sight_of e ≡ Sight.object) × ((k : List ℕ) → IsMergedMember (get k d) (get k p) (get k e))
key_of named (replaces other) = absurd (other named)
key_of named (by_key is left each) = (left, each)

-- ---- trees

-- at each name, where merging an object leaves what it was
names_left : (is ps : Members) → IsMergedTree (json.object is) (json.object ps) (json.object is) → (k : List ℕ) → MergedAt (get_member k is) (get_member k ps) (get_member k is)
names_left is ps h k r =
    subst (λ o. IsMergedMember o (option_map (data_of r) (get_member k ps)) o) (found r k is)
    (subst (λ o. IsMergedMember (get k (data_of r (json.object is))) o (get k (data_of r (json.object is)))) (found r k ps) ((key_of refl (h r)).1 k))

-- each member of ps that counts leaves what stands at its name
abbrev Leaves : Members → Members → Type 0
Leaves is ps = (k : List ℕ) (q : Json) → get_member k ps ≡ Some q → MergedAt (get_member k is) (Some q) (get_member k is)

same_left : (i p : Json) → as_object p ≡ None → IsMergedTree i p i → SameTree i p
same_left i p none h = (same_exactly i p).1 (λ r. (AreSame-document (data_of r i) (data_of r p) (IsDocument-data_of r i)).1 ((merge.no_object (data_of r i) (data_of r p) (data_of r i) (no_object r p none)).0 (h r)))

-- what `nothing` proves of a value, and of members
abbrev NothingInto : List ℕ → Json → Type 0
NothingInto patch q = (P : Pointer) (i : Json) (cs : List TextChange) → MergesInto patch P i q cs → IsMergedTree i q i → cs ≡ []

abbrev NothingIn : List ℕ → Members → Type 0
NothingIn patch ps = (P : Pointer) (is : Members) (cs : List TextChange) → MergesObject patch P is ps cs → Leaves is ps → cs ≡ []

nothing_other : (patch : List ℕ) (q : Json) → as_object q ≡ None → NothingInto patch q
nothing_other patch q none P i cs h left =
    ⊎_elim (λ (c : SameTree i q × (cs ≡ [])). c.1) (λ (c : (SameTree i q → ⊥) × PutsIn patch P (replace P) (λ rest. rest ≡ []) cs). absurd (c.0 (same_left i q none left))) (other_into patch P i q cs none h)

-- into what is no object an object is always put in
no_object_left : (i : Json) (ps : Members) → as_object i ≡ None → IsMergedTree i (json.object ps) i → ⊥
no_object_left i ps none h = no_object some_reading i none (key_of refl (h some_reading)).0

nothing_object : (patch : List ℕ) (ps : Members) → NothingIn patch ps → NothingInto patch (json.object ps)
nothing_object patch ps within P (json.object is) cs h left = within P is cs h (λ k q e. subst (λ o. MergedAt (get_member k is) o (get_member k is)) e (names_left is ps left k))
nothing_object patch ps within P json.null cs h left = absurd (no_object_left json.null ps refl left)
nothing_object patch ps within P (json.boolean b) cs h left = absurd (no_object_left (json.boolean b) ps refl left)
nothing_object patch ps within P (json.number s) cs h left = absurd (no_object_left (json.number s) ps refl left)
nothing_object patch ps within P (json.string s) cs h left = absurd (no_object_left (json.string s) ps refl left)
nothing_object patch ps within P (json.array js) cs h left = absurd (no_object_left (json.array js) ps refl left)

nothing_null : (P : Pointer) (was : Option Json) (cs : List TextChange) → MatchOption was (cs ≡ []) (λ i. cs ≡ remove P ∷ []) → MergedAt was (Some json.null) was → cs ≡ []
nothing_null P None cs h left = h
nothing_null P (Some i) cs h left = absurd (null_leaves (data_of some_reading i) refl refl (left some_reading))

nothing_found : (patch : List ℕ) (P : Pointer) (was : Option Json) (q : Json) (cs : List TextChange) → NothingInto patch q → q ≢ json.null → MatchOption was (PutsIn patch P (add P) (MergesInto patch P q q) cs) (λ i. MergesInto patch P i q cs)
    → MergedAt was (Some q) was → cs ≡ []
nothing_found patch P None q cs into other h left = absurd (other_leaves (data_of some_reading q) refl (not_null some_reading q other) refl (left some_reading))
nothing_found patch P (Some i) q cs into other h left = into P i cs h (λ r. left_merged (data_of r i) (data_of r q) (data_of r i) refl refl refl (not_null r q other) (left r))

nothing_member : (patch : List ℕ) (P : Pointer) (was : Option Json) (q : Json) (cs : List TextChange) → NothingInto patch q → MergesMember patch P was q (λ i. MergesInto patch P i q) cs → MergedAt was (Some q) was → cs ≡ []
nothing_member patch P was q cs into h left = ⊎_elim
    (λ (is : q ≡ json.null). nothing_null P was cs (subst (λ x. MergesMember patch P was x (λ i. MergesInto patch P i x) cs) is h) (subst (λ x. MergedAt was (Some x) was) is left))
    (λ (other : q ≢ json.null). nothing_found patch P was q cs into other (other_member patch P was q cs other h) left)
    (null_or q)

nothing_next : (patch : List ℕ) (k : List ℕ) (q : Json) (ps : Members) → NothingInto patch q → NothingIn patch ps → NothingIn patch (member k q ps)
nothing_next patch k q ps into within P is cs h left = by (get_member k ps) refl h
  where
    by : (o : Option Json) → get_member k ps ≡ o → MatchOption o (InTurn (MergesMember patch (P ++ k ∷ []) (get_member k is) q (λ i. MergesInto patch (P ++ k ∷ []) i q)) (MergesObject patch P is ps) cs) (λ later. MergesObject patch P is ps cs) → cs ≡ []
    by (Some later) e h = within P is cs h (λ l x f. left l x (shadowed k q later ps e l ∙ f))
    by None e (first, rest, one, more, both) =
        both ∙ ap₂ (λ a b. a ++ b)
        (nothing_member patch (P ++ k ∷ []) (get_member k is) q first into one (left k q (first_named k q ps e)))
        (within P is rest more (λ l x f. left l x (skips l k q ps (λ same. none-some x (sym (ap (λ n. get_member n ps) same ∙ e) ∙ f)) ∙ f)))

mutual
  pub nothing_into : (patch : List ℕ) (q : Json) → NothingInto patch q
  nothing_into patch json.null = nothing_other patch json.null refl
  nothing_into patch (json.boolean b) = nothing_other patch (json.boolean b) refl
  nothing_into patch (json.number s) = nothing_other patch (json.number s) refl
  nothing_into patch (json.string s) = nothing_other patch (json.string s) refl
  nothing_into patch (json.array js) = nothing_other patch (json.array js) refl
  nothing_into patch (json.object ps) = nothing_object patch ps (nothing_in patch ps)

  nothing_in : (patch : List ℕ) (ps : Members) → NothingIn patch ps
  nothing_in patch no_members = λ P is cs h left. h
  nothing_in patch (member k q ps) = nothing_next patch k q ps (nothing_into patch q) (nothing_in patch ps)

-- ---- texts

pub nothing_changed : (text patch new : List ℕ) → IsMergedText text patch new → IsMergedAlready text patch → new ≡ text
nothing_changed text patch new (i, p, said, read, (cs, are, made)) (a, q, b, text_says, patch_says, again, merged) =
    let left : IsMergedTree i p i =
    subst (λ x. IsMergedTree i p x) (one_tree text b i again said)
    (subst (λ x. IsMergedTree i x b) (one_tree patch q p patch_says read)
    (subst (λ x. IsMergedTree x q b) (one_tree text a i text_says said) merged)) in
    subst (λ x. AreMade text x new) (nothing_into patch p [] i cs are left) made

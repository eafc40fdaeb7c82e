-- A value is a document, or it isn't.
use Rattle.json_patch_document.proofs.Common.{ℕ, List, ◌⊎◌, inl, inr, ⊎_elim, rules, Data, array, object, Items, no_items, item, Members, no_members, member, IsDocument, AreDocuments, AreMembers, IsBelowMembers}

both_or_not : {A B : Type 0} → A ⊎ (A → ⊥) → B ⊎ (B → ⊥) → (A × B) ⊎ (A × B → ⊥)
both_or_not a b = ⊎_elim (λ x. ⊎_elim (λ y. inl (x, y)) (λ n. inr (λ h. n h.1)) b) (λ n. inr (λ h. n h.0)) a

below_or_not : (k : List ℕ) (ms : Members) → IsBelowMembers k ms ⊎ (IsBelowMembers k ms → ⊥)
below_or_not k no_members = inl tt
below_or_not k (member l d ms) = both_or_not (search rules) (below_or_not k ms)

mutual
  pub document_or_not : (d : Data) → IsDocument d ⊎ (IsDocument d → ⊥)
  document_or_not (array ds) = documents_or_not ds
  document_or_not (object ms) = members_or_not ms
  document_or_not d = search rules

  documents_or_not : (ds : Items) → AreDocuments ds ⊎ (AreDocuments ds → ⊥)
  documents_or_not no_items = inl tt
  documents_or_not (item d ds) = both_or_not (document_or_not d) (documents_or_not ds)

  members_or_not : (ms : Members) → AreMembers ms ⊎ (AreMembers ms → ⊥)
  members_or_not no_members = inl tt
  members_or_not (member k d ms) = search (rules, below_or_not, members_or_not ms, document_or_not d)

-- What is seen of a marked document.
use Rattle.json_patch_edit.proofs.Common.{◌≡◌, [], ◌∷◌, false, Some, option_and_then_some, segment_of, child, refl, ap}
use Rattle.json_patch_edit.proofs.Common.{subst, rules, Data, array, object, Items, no_items, item, Members, no_members}
use Rattle.json_patch_edit.proofs.Common.{member, pointee, Pointer, IsDocument, AreDocuments, AreMembers}
use Rattle.json_patch_edit.proofs.Marked.{shown_some, child_marked}
use Rattle.json_patch_edit.specs.Marked.{is_mark, shown, seen, seen_items, seen_members, IsMarked, AreMarkedItems}
use Rattle.json_patch_edit.specs.Marked.{AreMarkedMembers, IsValue}

-- ---- documents have no marks

pub document_is : (d : Data) → IsDocument d → is_mark d ≡ false
document_is d h = search rules

mutual
  pub document_seen : (d : Data) → IsDocument d → seen d ≡ d
  document_seen (array ds) h = ap array (documents_seen ds h)
  document_seen (object ms) h = ap object (members_document_seen ms h)
  document_seen d h = refl

  documents_seen : (ds : Items) → AreDocuments ds → seen_items ds ≡ ds
  documents_seen no_items h = refl
  documents_seen (item d ds) h = rw (document_is d h.0, document_seen d h.0, documents_seen ds h.1) refl

  members_document_seen : (ms : Members) → AreMembers ms → seen_members ms ≡ ms
  members_document_seen no_members h = refl
  members_document_seen (member k d ms) h = rw (document_is d h.1, document_seen d h.1, members_document_seen ms h.2) refl

mutual
  pub document_marked : (d : Data) → IsDocument d → IsMarked d
  document_marked (array ds) h = documents_marked ds h
  document_marked (object ms) h = members_document_marked ms h
  document_marked d h = tt

  documents_marked : (ds : Items) → AreDocuments ds → AreMarkedItems ds
  documents_marked no_items h = tt
  documents_marked (item d ds) h = (document_marked d h.0, λ so. (let e : is_mark d ≡ false = document_is d h.0 in cc), documents_marked ds h.1)

  members_document_marked : (ms : Members) → AreMembers ms → AreMarkedMembers ms
  members_document_marked no_members h = tt
  members_document_marked (member k d ms) h = (h.0, document_marked d h.1, members_document_marked ms h.2)

pub document_value : (v : Data) → IsDocument v → IsValue v
document_value v h = (document_marked v h, document_is v h)

-- ---- what is shown

pointee_marked : (p c : Data) (P : Pointer) → IsMarked p → pointee p P ≡ Some c → IsMarked c
pointee_marked p c [] hp is = let e : p ≡ c = cc in subst IsMarked e hp
pointee_marked p c (t ∷ P) hp is =
    option_and_then_some _ (segment_of p t) c is (λ s named more. option_and_then_some _ (child s p) c more (λ b stands rest. pointee_marked b c P (child_marked s p b hp stands) rest))

-- what is shown at a pointer is a value
pub found_value : (p v : Data) (P : Pointer) → IsMarked p → shown (pointee p P) ≡ Some v → IsValue v
found_value p v P hp is = let h = shown_some (pointee p P) v is in (pointee_marked p v P hp h.0, h.1)

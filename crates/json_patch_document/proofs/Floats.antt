-- A document has no float, and a value with none that a program holds is a document: what a map's order and a number's
-- range give.
use Rattle.json_patch_document.proofs.Common.{◌≡◌, List, ◌∷◌, false, refl, ◌∙◌, subst, rules, Data, array, object, Items}
use Rattle.json_patch_document.proofs.Common.{no_items, item, Members, no_members, member, view, members_view, Entry, IsDocument}
use Rattle.json_patch_document.proofs.Common.{AreDocuments, AreMembers, has_float, items_have_float, members_have_float}
use Rattle.std.specs.List.Sorted.{IsStrictlySortedBy}
use Rattle.json_patch_document.proofs.Writes.{AreInOrder, below}

mutual
  pub no_float : (d : Data) → IsDocument d → has_float d ≡ false
  no_float (array ds) h = items_no_float ds h
  no_float (object ms) h = members_no_float ms h
  no_float d h = search rules

  items_no_float : (ds : Items) → AreDocuments ds → items_have_float ds ≡ false
  items_no_float no_items h = refl
  items_no_float (item d ds) h = rw (no_float d h.0) (items_no_float ds h.1)

  members_no_float : (ms : Members) → AreMembers ms → members_have_float ms ≡ false
  members_no_float no_members h = refl
  members_no_float (member k d ms) h = rw (no_float d h.1) (members_no_float ms h.2)

-- ---- a value that a program holds

-- what the members that are left tell of a value
pub record TellsOf (d : Data) (left : List Entry) : Type 0 where
  pub order : AreInOrder left
  pub float : has_float d ≡ members_have_float (members_view left)
  pub document : AreMembers (members_view left) → IsDocument d

pub one_less : (e : Entry) (es left : List Entry) (d : Data) → left ≡ e ∷ es → has_float (view e.1) ≡ false → IsDocument (view e.1) → TellsOf d left → TellsOf d es
unfolding IsStrictlySortedBy
one_less e es left d is none here tells =
    let t = subst (TellsOf d) is tells in
    record { order = t.order.1; float = t.float ∙ rw none refl; document = λ later. t.document (below e.0 es t.order.0, here, later) }

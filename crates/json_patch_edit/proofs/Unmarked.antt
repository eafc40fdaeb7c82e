-- `Remove` in a document, which has no mark.
use Rattle.json_patch_edit.proofs.Common.{◌≡◌, ℕ, List, [], ◌∷◌, Option, Some, None, refl, sym, ap, ◌∙◌, get_or, vec_len, view, members_view, view-Array, view-Object, Vec, Global, String, Value, Entry, lookup, remove_entry, BTreeMap, Array, Object, Data, object, Segment, key, place, child, pointee, without, IsDocument}
use Rattle.json_patch_edit.specs.declared.edits.Edit.{Edit}
use Rattle.json_patch_edit.specs.declared.edits.Edit.TheVariants.{Remove}
use Rattle.json_patch_edit.specs.Exchange.{IsUnmarkedFor, remove_marked}
use Rattle.json_patch_edit.proofs.Containers.{IsItem, member_child, item_child, found_member}
use Rattle.json_patch_document.proofs.Members.{child_document, without_absent}
use Rattle.json_patch_edit.proofs.MarkedRuns.{document_is}
use Rattle.json_patch_document.proofs.Writes.{is_named, members_view-remove_entry, found_at, found_document}

-- ---- in an object

gone : (t : List ℕ) (es new : List Entry) → new ≡ remove_entry (is_named t) es → object (members_view new) ≡ object (without t (members_view es))
gone t es new is = ap object (ap members_view is ∙ members_view-remove_entry t es)

pub removes_nothing : (t : List ℕ) (es new : List Entry) → None ≡ lookup (is_named t) es → new ≡ remove_entry (is_named t) es
    → (remove_marked t (object (members_view es)) ≡ None) × (object (members_view new) ≡ object (members_view es))
removes_nothing t es new is left = (rw (found_at t es None is) refl, gone t es new left ∙ ap object (without_absent t (members_view es) (found_at t es None is)))

pub removes_value : (t : List ℕ) (es new : List Entry) (x : Value) → IsDocument (object (members_view es)) → Some x ≡ lookup (is_named t) es → new ≡ remove_entry (is_named t) es
    → (remove_marked t (object (members_view es)) ≡ Some (object (members_view new))) × (pointee (object (members_view es)) (t ∷ []) ≡ Some (view x))
removes_value t es new x h is left = (rw (found_at t es (Some x) is, document_is (view x) (found_document t es x is h)) (ap Some (sym (gone t es new left))), found_member t es (Some x) x refl is)

-- ---- on the way down

below : (s : Segment) (edit : Edit) (d c : Data) → IsUnmarkedFor edit d → child s d ≡ Some c → IsUnmarkedFor edit c
below s Remove d c h is = child_document s d c h is
below s edit d c h is = tt

pub unmarked_at_member : (edit : Edit) (t : List ℕ) (old : Value) (m : BTreeMap (String Global) Value) (o : Option Value) (v : Value) → IsUnmarkedFor edit (view old) → old ≡ Object m → o ≡ lookup (is_named t) m.entries → o ≡ Some v
    → IsUnmarkedFor edit (view v)
unmarked_at_member edit t old m o v h is got some = below (key t) edit (view old) (view v) h (rw (is, view-Object m) (member_child t m.entries o v some got))

pub unmarked_at_item : (edit : Edit) (t : List ℕ) (old : Value) (m : Vec Value Global) (len i : ℕ) (v : Value) → IsUnmarkedFor edit (view old) → old ≡ Array m → len ≡ vec_len m → IsItem t len i → v ≡ get_or m.items i v
    → IsUnmarkedFor edit (view v)
unmarked_at_item edit t old m len i v h is e at got = below (place i) edit (view old) (view v) h (rw (is, view-Array m) (item_child t m len i v e at got))

-- ---- of a log

pub unmarked_whole : (edit : Edit) (d : Data) → IsDocument d → IsUnmarkedFor edit d
unmarked_whole Remove d h = h
unmarked_whole edit d h = tt

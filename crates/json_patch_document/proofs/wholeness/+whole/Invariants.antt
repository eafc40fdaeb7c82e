use Rattle.json_patch_document.proofs.Common.{◌≡◌, ◌↔◌, drop, view, items_view, IsDocument, AreDocuments, has_float}
use Rattle.json_patch_document.proofs.Common.{items_have_float}
use Rattle.json_patch_document.proofs.Floats.{TellsOf}
use Rattle.json_patch_document.proofs.wholeness.+whole.Given as goal

abbrev pub invariant-loop-item : goal.invariant-loop-item
invariant-loop-item l =
    (has_float (view l.value) ≡ items_have_float (items_view (drop l.item-index l.item-items)))
    × (IsDocument (view l.value) ↔ AreDocuments (items_view (drop l.item-index l.item-items)))

abbrev pub invariant-loop-name : goal.invariant-loop-name
invariant-loop-name l = TellsOf (view l.value) l._name-iterator

use Rattle.json_patch_operation.proofs.Common.{◌≡◌, ℕ, List, [], ◌++◌, drop, items_view, members_view, printed_items}
use Rattle.json_patch_operation.proofs.Common.{printed_members, HasWritten, IsPlainFormatter, Utf8, shadow}
use Rattle.json_patch_operation.proofs.printing.+printing.Given as goal

-- what is written, and the elements that are left, are all the elements
abbrev pub invariant-write_items-items : goal.invariant-write_items-items
invariant-write_items-items g l =
    shadow (Utf8 l.comma)
    × (IsPlainFormatter l.initial.f → (done : List ℕ) × HasWritten g.W.Write.write_str_gives l.initial.f done l.f
    × (done ++ printed_items l.comma (items_view (drop l.item-index l.item-items)) ≡ printed_items [] (items_view l.item-items)))

abbrev pub invariant-write_members-members : goal.invariant-write_members-members
invariant-write_members-members g l =
    shadow (Utf8 l.comma)
    × (IsPlainFormatter l.initial.f → (done : List ℕ) × HasWritten g.W.Write.write_str_gives l.initial.f done l.f
    × (done ++ printed_members l.comma (members_view l.name-iterator) ≡ printed_members [] (members_view l.members.entries)))

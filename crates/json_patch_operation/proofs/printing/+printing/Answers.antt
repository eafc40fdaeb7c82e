use Rattle.json_patch_operation.proofs.Common.{◌≡◌, [], ◌∷◌, ◌++◌, ◌+◌, codes, drop, string_bytes, rules, sym, ap, ◌∙◌, arith}
use Rattle.json_patch_operation.proofs.Common.{drop_more, drop_all, is_ok, item, no_items, member, view, items_view, members_view}
use Rattle.json_patch_operation.proofs.Common.{quote, value_text, printed_items, printed_members, has_written_append}
use Rattle.json_patch_operation.proofs.Common.{has_written_of_eq}
use Rattle.json_patch_operation.proofs.Texts.{printed_items_more, printed_items_end, printed_members_more, printed_members_end}
use Rattle.json_patch_operation.proofs.printing.+printing.Goals as goal

pub write_items-items-preserved : goal.write_items-items-preserved
write_items-items-preserved g c c' =
    let l = c'.items in
    let xs = c'.deref-item-items.result.now in
    let x = c'.item-item.result in (
      search rules,
      λ plain.
          let (done, wrote, whole) = l.invariant.1 plain in
          let one = c'.write_str-in-items.ensures.writes wrote.plain (ap is_ok c'.in_ok-write_str-2.was) in
          let two = c'.write_value.ensures one.plain (ap is_ok c'.in_ok-write_value.was) in
          let step : items_view (drop l.item-index xs) ≡ item (view x) (items_view (drop (l.item-index + 1) xs)) =
          ap items_view (drop_more xs l.item-index x (omega arith) ∙ ap (λ y. y ∷ drop (l.item-index + 1) xs) (sym c'.item-item.is)) in (
            (done ++ l.comma.now) ++ value_text (view x),
            has_written_append _ _ _ _ _ _ (has_written_append _ _ _ _ _ _ wrote one) two,
            printed_items_more done l.comma.now _ _ _ (view x) step whole,
          ),
    )

pub write_items-returns : goal.write_items-returns
write_items-returns g c c' plain ok =
    let l = c'.items in
    let xs = c'.deref-item-items.result.now in
    let opened = c'.write_str.ensures.writes plain (ap is_ok c'.in_ok-write_str.was) in
    let (done, wrote, whole) = l.invariant.1 opened.plain in
    let closed = c'.write_str-2.ensures.writes wrote.plain ok in
    let none : items_view (drop l.item-index xs) ≡ no_items = ap items_view (drop_all l.item-index xs (omega arith)) in
    let all = printed_items_end done l.comma.now (printed_items [] (items_view xs)) (items_view (drop l.item-index xs)) none whole ∙ ap (λ ys. printed_items [] (items_view ys)) c'.deref-item-items.ensures.value in
    has_written_of_eq _ _ _ _ _ (ap (λ l. 91 ∷ (l ++ 93 ∷ [])) all) (has_written_append _ _ _ _ _ _ (has_written_append _ _ _ _ _ _ opened wrote) closed)

pub write_members-members-init : goal.write_members-members-init
write_members-members-init g c c' =
    let same : c'.into_iter-name-iterator.result ≡ c'.args.members.now.entries = c'.into_iter-name-iterator.ensures.into_iter_gives ∙ c'.iter-name-items.ensures.rest in
    (search rules, λ plain. ([], search rules, ap (λ es. printed_members [] (members_view es)) same))

pub write_members-members-preserved : goal.write_members-members-preserved
write_members-members-preserved g c c' =
    let l = c'.members in
    let k = c'.as_str.result.now in
    let named : string_bytes c'.in-Some.name.now ≡ k = search rules in
    let d = view c'.in-Some.member.now in (
      search rules,
      λ plain.
          let (done, wrote, whole) = l.invariant.1 plain in
          let one = c'.write_str-in-members.ensures.writes wrote.plain (ap is_ok c'.in_ok-write_str-2.was) in
          let two = c'.write_name.ensures one.plain (ap is_ok c'.in_ok-write_name.was) in
          let three = c'.write_value.ensures two.plain (ap is_ok c'.in_ok-write_value.was) in
          let step : members_view l.name-iterator ≡ member k d (members_view c'.next.new.self) = ap members_view c'.in-Some.ensures.steps ∙ ap (λ n. member n d (members_view c'.next.new.self)) named in (
            ((done ++ l.comma.now) ++ (quote k ++ codes ":")) ++ value_text d,
            has_written_append _ _ _ _ _ _ (has_written_append _ _ _ _ _ _ (has_written_append _ _ _ _ _ _ wrote one) two) three,
            printed_members_more done l.comma.now _ k _ _ d step whole,
          ),
    )

pub write_members-returns : goal.write_members-returns
write_members-returns g c c' plain ok =
    let l = c'.members in
    let opened = c'.write_str.ensures.writes plain (ap is_ok c'.in_ok-write_str.was) in
    let (done, wrote, whole) = l.invariant.1 opened.plain in
    let closed = c'.write_str-2.ensures.writes wrote.plain ok in
    let all = printed_members_end done l.comma.now (printed_members [] (members_view c'.args.members.now.entries)) (members_view l.name-iterator) (ap members_view c'.in-None.ensures.steps.0) whole in
    has_written_of_eq _ _ _ _ _ (ap (λ l. 123 ∷ (l ++ 125 ∷ [])) all) (has_written_append _ _ _ _ _ _ (has_written_append _ _ _ _ _ _ opened wrote) closed)

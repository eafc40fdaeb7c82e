use Rattle.std.proofs.Common.{◌∙◌, ap, arith, drop, rules}
use Rattle.std.proofs.lemmas.List.{drop_all}
use Rattle.json.specs.Tree.{items_depth, members_depth}
use Rattle.json.specs.Value.{items_view, members_view, value_view}
use Rattle.json.specs.declared.value.Value.{the_lemmas}
use Rattle.serde_json.specs.declared.value.Value.{the_lemmas as document_lemmas}
use Rattle.json_diff_text.specs.Tables.{table}
use Rattle.json_diff_text.proofs.Coded.{documents_more, grows_more, grows_not, item_depth, item_has, items_all, items_begin, member_depth, member_has, members_next, members_put, next_of, no_documents, stands_as, items_next}
use Rattle.json_diff_text.proofs.coding.+coding.Goals as goal

pub coded-returns-in_ok-code-in-Number-clause-stands :
    goal.coded-returns-in_ok-code-in-Number-clause-stands
coded-returns-in_ok-code-in-Number-clause-stands t c =
    stands_as (table c.code.new.self) _ _ c.in_ok-code-in-Number.field-0 c.in-Number.text.now (search (rules, document_lemmas, c.from.ensures)) (ap value_view c.in-Number.is ∙ search (rules, the_lemmas)) c.in_ok-code-in-Number.ensures.stands

pub coded_items-loop-item-init : goal.coded_items-loop-item-init
coded_items-loop-item-init t c = record {
  far = items_begin (table c.args.numerals.now) c.in_ok-values.values.items c.deref-item-items.result.now c.args.items.now.items c.in_ok-values.ensures.items c.deref-item-items.ensures.value;
  documents = no_documents c.in_ok-values.values.items c.in_ok-values.ensures.items;
  grows = grows_not (table c.args.numerals.now);
  numbers = c.requires.numbers;
}

pub coded_items-coded-requires : goal.coded_items-coded-requires
coded_items-coded-requires t c = (
  omega (arith, item_depth c.deref-item-items.result.now c.loop-item.item-index c.item-item.result (omega (arith, c.loop-item-test.true)) c.item-item.is, ap (λ vs. items_depth (items_view vs)) c.deref-item-items.ensures.value),
  (c.loop-item.invariant.numbers, item_has c.deref-item-items.result.now c.loop-item.item-index c.item-item.result (omega (arith, c.loop-item-test.true)) c.item-item.is (rw c.deref-item-items.ensures.value c.requires.written)),
)

pub coded_items-loop-item-preserved : goal.coded_items-loop-item-preserved
coded_items-loop-item-preserved t c = record {
  far = items_next (table c.loop-item.numerals) (table c.coded.new.numerals) c.loop-item.values.items c.in_ok-coded.field-0 c.push.new.self.items c.item-item.result (drop c.loop-item.item-index c.deref-item-items.result.now) _ (items_view c.args.items.now.items) c.in_ok-coded.ensures.grows c.in_ok-push.ensures.items
      (next_of c.deref-item-items.result.now c.loop-item.item-index c.item-item.result (omega (arith, c.loop-item-test.true)) c.item-item.is) c.loop-item.invariant.far c.in_ok-coded.ensures.stands;
  documents = documents_more c.loop-item.values.items c.push.new.self.items c.in_ok-coded.field-0 c.in_ok-push.ensures.items c.loop-item.invariant.documents c.in_ok-coded.ensures.document;
  grows = grows_more (table c.args.numerals.now) (table c.loop-item.numerals) (table c.coded.new.numerals) c.loop-item.invariant.grows c.in_ok-coded.ensures.grows;
  numbers = c.in_ok-coded.ensures.numbers;
}

pub coded_items-returns-clause-stand : goal.coded_items-returns-clause-stand
coded_items-returns-clause-stand t c =
    items_all (table c.loop-item.numerals) _ (drop c.loop-item.item-index c.deref-item-items.result.now) (items_view c.args.items.now.items) (drop_all c.loop-item.item-index c.deref-item-items.result.now (omega (arith, c.loop-item-test.false))) c.loop-item.invariant.far

pub coded_members-coded-requires : goal.coded_members-coded-requires
coded_members-coded-requires t c = (
  omega (arith, member_depth c.deref-name-items.result.now c.loop-name.name-index c.loop-name-item.result (omega (arith, c.loop-name-test.true)) c.loop-name-item.is, ap (λ vs. members_depth (members_view vs)) c.deref-name-items.ensures.value),
  (c.loop-name.invariant.numbers, member_has c.deref-name-items.result.now c.loop-name.name-index c.loop-name-item.result (omega (arith, c.loop-name-test.true)) c.loop-name-item.is (rw c.deref-name-items.ensures.value c.requires.written)),
)

pub coded_members-loop-name-preserved : goal.coded_members-loop-name-preserved
coded_members-loop-name-preserved t c = record {
  far = members_next (table c.loop-name.numerals) (table c.coded.new.numerals) c.loop-name.map.entries c.insert.new.self.entries c.in_ok-from_str.field-0 c.in_ok-value.value c.loop-name-item.result (drop c.loop-name.name-index c.deref-name-items.result.now) _ (members_view c.args.members.now.items) c.in_ok-value.ensures.grows
      (next_of c.deref-name-items.result.now c.loop-name.name-index c.loop-name-item.result (omega (arith, c.loop-name-test.true)) c.loop-name-item.is) c.in_ok-from_str.ensures.ok c.in_ok-insert.ensures.entries c.loop-name.invariant.far c.in_ok-value.ensures.stands;
  members = members_put c.loop-name.map.entries c.insert.new.self.entries c.in_ok-from_str.field-0 c.in_ok-value.value c.in_ok-insert.ensures.entries c.loop-name.invariant.members c.in_ok-value.ensures.document;
  grows = grows_more (table c.args.numerals.now) (table c.loop-name.numerals) (table c.coded.new.numerals) c.loop-name.invariant.grows c.in_ok-value.ensures.grows;
  numbers = c.in_ok-value.ensures.numbers;
}

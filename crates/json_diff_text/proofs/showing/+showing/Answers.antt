use Rattle.std.proofs.Common.{arith, drop, rules}
use Rattle.std.proofs.lemmas.List.{drop_all}
use Rattle.json_diff_text.specs.Tables.{numerals_in}
use Rattle.json_diff_text.proofs.Coded.{next_of}
use Rattle.json_diff_text.proofs.Shown.{items_all, items_begin, items_next, members_all, members_begin, members_next}
use Rattle.json_diff_text.proofs.showing.+showing.Goals as goal

pub shown_items-loop-item-init : goal.shown_items-loop-item-init
shown_items-loop-item-init t c = items_begin (numerals_in c.args.texts.now.items) c.in_ok-trees.trees.items c.deref-item-items.result.now c.args.items.now.items c.in_ok-trees.ensures.items c.deref-item-items.ensures.value

pub shown_items-loop-item-preserved : goal.shown_items-loop-item-preserved
shown_items-loop-item-preserved t c =
    items_next (numerals_in c.args.texts.now.items) c.loop-item.trees.items c.in_ok-shown.field-0 c.push.new.self.items c.item-item.result (drop c.loop-item.item-index c.deref-item-items.result.now) _ _ c.in_ok-push.ensures.items
    (next_of c.deref-item-items.result.now c.loop-item.item-index c.item-item.result (omega (arith, c.loop-item-test.true)) c.item-item.is) c.in_ok-shown.ensures c.loop-item.invariant

pub shown_items-returns : goal.shown_items-returns
shown_items-returns t c =
    items_all (numerals_in c.args.texts.now.items) c.loop-item.trees.items (drop c.loop-item.item-index c.deref-item-items.result.now) _ (drop_all c.loop-item.item-index c.deref-item-items.result.now (omega (arith, c.loop-item-test.false))) c.loop-item.invariant

pub shown_members-loop-name-init : goal.shown_members-loop-name-init
shown_members-loop-name-init t c = members_begin (numerals_in c.args.texts.now.items) c.in_ok-trees.trees.items _ c.args.members.now.entries c.in_ok-trees.ensures.items (search rules)

pub shown_members-loop-name-preserved : goal.shown_members-loop-name-preserved
shown_members-loop-name-preserved t c =
    members_next (numerals_in c.args.texts.now.items) c.loop-name.trees.items _ c.push.new.self.items (c.in-Some.name.now, c.in-Some.member.now) c.loop-name.name-iterator _ _ c.in_ok-push.ensures.items c.in-Some.ensures.steps c.as_str.ensures.value c.in_ok-shown.ensures c.loop-name.invariant

pub shown_members-returns : goal.shown_members-returns
shown_members-returns t c = members_all (numerals_in c.args.texts.now.items) c.loop-name.trees.items c.loop-name.name-iterator _ c.in-None.ensures.steps.0 c.loop-name.invariant

use Rattle.std.proofs.Common.{◌∙◌, ap, arith, rules}
use Rattle.std.proofs.lemmas.Bool.{false≢true}
use Rattle.json.specs.Tree.{items_depth}
use Rattle.json.specs.Value.{value_view, items_view, members_view}
use Rattle.json.specs.declared.value.Value.{the_lemmas}
use Rattle.json_reading.proofs.Matching.{skips_name, lacks_name, differs_there, same_there, no_deeper, element_depth, decided, decides_objects}
use Rattle.json_reading.proofs.equality.+same.Goals as goal

pub same_elements-same_values-requires : goal.same_elements-same_values-requires
same_elements-same_values-requires t c =
    omega (arith, element_depth c.deref-x-items.result.now c.loop-x.x-index c.x-item.result (omega (arith, c.loop-x-test.true)) c.x-item.is, ap (λ vs. items_depth (items_view vs)) c.deref-x-items.ensures.value)

pub same_members-loop-name-preserved-in_default : goal.same_members-loop-name-preserved-in_default
same_members-loop-name-preserved-in_default t c =
    skips_name (members_view c.args.xs.now.items) (members_view c.args.ys.now.items) c.loop-name.ours c.loop-name.theirs c.deref-name-items.result.now c.loop-name.name-index c.loop-name-item.result c.loop-name.invariant (omega (arith, c.loop-name-test.true)) c.loop-name-item.is c.remove.new.self c.in_default.ensures.unchanged c.in_default.ensures.value

pub same_members-returns-in_default-remove : goal.same_members-returns-in_default-remove
same_members-returns-in_default-remove t c = (
  λ b. absurd (false≢true b),
  λ all. absurd (lacks_name (members_view c.args.xs.now.items) (members_view c.args.ys.now.items) c.loop-name.ours c.loop-name.theirs c.deref-name-items.result.now c.loop-name.name-index c.loop-name-item.result c.loop-name.invariant (omega (arith, c.loop-name-test.true)) c.loop-name-item.is
      c.in-Some.x c.in-Some.ensures.value c.in_default-remove.ensures.value all),
)

pub same_members-same_values-requires : goal.same_members-same_values-requires
same_members-same_values-requires t c =
    omega (arith, no_deeper (members_view c.args.xs.now.items) (members_view c.args.ys.now.items) c.loop-name.ours c.loop-name.theirs c.deref-name-items.result.now c.loop-name.name-index c.loop-name-item.result c.loop-name.invariant (omega (arith, c.loop-name-test.true)) c.loop-name-item.is c.in-Some.x c.in-Some.ensures.value)

pub same_members-returns-then-not-branch : goal.same_members-returns-then-not-branch
same_members-returns-then-not-branch t c = (
  λ b. absurd (false≢true b),
  λ all. absurd (differs_there (members_view c.args.xs.now.items) (members_view c.args.ys.now.items) c.loop-name.ours c.loop-name.theirs c.deref-name-items.result.now c.loop-name.name-index c.loop-name-item.result c.loop-name.invariant (omega (arith, c.loop-name-test.true)) c.loop-name-item.is
      c.in-Some.x c.in-Some-remove.y c.in-Some.ensures.value c.in-Some-remove.ensures.value (λ s. search (rules, c.in_ok-same_values.ensures.1 s)) all),
)

pub same_members-loop-name-preserved : goal.same_members-loop-name-preserved
same_members-loop-name-preserved t c =
    same_there (members_view c.args.xs.now.items) (members_view c.args.ys.now.items) c.loop-name.ours c.loop-name.theirs c.deref-name-items.result.now c.loop-name.name-index c.loop-name-item.result c.loop-name.invariant (omega (arith, c.loop-name-test.true)) c.loop-name-item.is
    c.in-Some.x c.in-Some-remove.y c.remove.new.self c.remove-in-loop-name.new.self c.in-Some.ensures.value c.in-Some-remove.ensures.value (c.in_ok-same_values.ensures.0 (search rules)) c.in-Some.ensures.updates c.in-Some-remove.ensures.updates

pub same_members-returns : goal.same_members-returns
same_members-returns t c =
    decided (members_view c.args.xs.now.items) (members_view c.args.ys.now.items) c.loop-name.ours c.loop-name.theirs c.deref-name-items.result.now c.loop-name.name-index c.is_empty.result c.loop-name.invariant (omega (arith, c.loop-name-test.false)) c.is_empty.ensures

pub same_values-returns-in-Object-Object : goal.same_values-returns-in-Object-Object
same_values-returns-in-Object-Object t c =
    decides_objects c.args.a.now c.args.b.now (members_view c.in-Object-Object.xs.items) (members_view c.in-Object-Object.ys.items) c.same_members.result (ap value_view c.in-Object-Object.is-0 ∙ search (rules, the_lemmas)) (ap value_view c.in-Object-Object.is-1 ∙ search (rules, the_lemmas)) c.same_members.ensures

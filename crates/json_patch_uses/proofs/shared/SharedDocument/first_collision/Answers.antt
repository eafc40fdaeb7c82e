use Rattle.std.proofs.Common.{[], arith, rules}
use Rattle.std.proofs.lemmas.Grind.{common_steps}
use Rattle.std.proofs.lemmas.List.Elements.{AllWithin-more, AllWithin-none, at_read}
use Rattle.json_patch.specs.Apart.{AreApart}
use Rattle.json_patch.specs.Operation.{operations}
use Rattle.json_patch_uses.specs.History.{patch_of}
use Rattle.json_patch_uses.proofs.SharedChanges.{apart_since}
use Rattle.json_patch_uses.proofs.shared.SharedDocument.first_collision.Goals as goal

pub loop-n-init : goal.loop-n-init
loop-n-init c = AllWithin-none (λ x. AreApart (operations c.args.patch.now) (patch_of x)) c.args.self.now.changes.items _

pub loop-n-preserved : goal.loop-n-preserved
loop-n-preserved c =
    AllWithin-more (λ x. AreApart (operations c.args.patch.now) (patch_of x)) _ _ _ c.loop-n.invariant
    (at_read c.args.self.now.changes.items (λ x. AreApart (operations c.args.patch.now) (patch_of x)) c.loop-n.n c.index.result.now (grind (arith, common_steps)) c.index.ensures (search rules))

pub returns-then-not-are_apart-clause-some : goal.returns-then-not-are_apart-clause-some
returns-then-not-are_apart-clause-some c = record {
  since = search rules;
  made = grind (arith, common_steps);
  before = c.loop-n.invariant;
  there = at_read c.args.self.now.changes.items (λ x. AreApart (operations c.args.patch.now) (patch_of x) → ⊥) c.loop-n.n c.index.result.now (grind (arith, common_steps)) c.index.ensures (search rules);
}

pub returns-clause-none : goal.returns-clause-none
returns-clause-none c = apart_since c.apart.ensures.apart_joined _ (c.apart.ensures.apart_both_ways [] _ tt) _ _ (λ j d le lt. c.loop-n.invariant j d le (grind (arith, common_steps)))

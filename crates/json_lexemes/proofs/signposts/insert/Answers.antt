use Rattle.std.proofs.Common.{◌-◌, ◌∙◌, arith}
use Rattle.std.proofs.lemmas.List.{length-set}
use Rattle.json_lexemes.specs.Signposts.{IsPassed}
use Rattle.json_lexemes.proofs.Following.{set_known}
use Rattle.json_lexemes.proofs.signposts.insert.Goals as goal

pub loop-at-preserved : goal.loop-at-preserved
loop-at-preserved c =
    let at = c.loop-at.at in
    record {
      low = omega (arith, c.loop-at.invariant.low);
      size = length-set c.loop-at.spans at _ ∙ c.loop-at.invariant.size;
      known = λ t a k d l n.
          let f = c.loop-at.invariant.known t a in
          set_known (IsPassed t) c.loop-at.spans at c.args.count _ (omega (arith, c.loop-at.invariant.size, c.loop-at.invariant.low, c.requires)) (f (at - 1) _ (omega (arith, c.loop-at.invariant.low)) (λ z. omega (arith, z, c.loop-at-test.true))) f k d l;
    }

pub returns : goal.returns
returns c = λ t a s k d l. set_known (IsPassed t) c.loop-at.spans c.loop-at.at c.args.count _ (omega (arith, c.loop-at.invariant.size, c.loop-at.invariant.low, c.requires)) s (c.loop-at.invariant.known t a) k d (omega (arith, l))

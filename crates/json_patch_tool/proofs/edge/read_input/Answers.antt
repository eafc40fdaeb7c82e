use Rattle.std.proofs.Common.{◌∙◌, rules, arith, refl}
use Rattle.std.proofs.lemmas.Grind.{common_steps}
use Rattle.json_patch_tool.proofs.MovedBytes.{taken_more, taken_all}
use Rattle.json_patch_tool.proofs.edge.read_input.Goals as goal
use Rattle.json_patch_tool.proofs.edge.read_input.Goals.{in-Ok+else-n-len+else-is_err, in-Err+else-ne}

pub returns-then-n-len-clause-taken : goal.returns-then-n-len-clause-taken
returns-then-n-len-clause-taken g c =
    let (all, consumed, count) = taken_more _ _ _ c.loop.input.items _ _ c.loop.invariant.0 c.in-Ok.ensures.bytes.0 c.in-Ok.ensures.bound.1 in
    (all, consumed, (λ _. omega arith, λ _. refl))

pub returns-then-is_err-clause-taken : goal.returns-then-is_err-clause-taken
returns-then-is_err-clause-taken g c =
    let (all, consumed, count) = taken_more _ _ _ c.loop.input.items _ _ c.loop.invariant.0 c.in-Ok.ensures.bytes.0 c.in-Ok.ensures.bound.1 in
    (all, consumed, (λ e. cc, λ more. absurd (omega arith)))

pub returns-in-Ok-eq0-clause-whole : goal.returns-in-Ok-eq0-clause-whole
returns-in-Ok-eq0-clause-whole g c =
    taken_all _ _ _ c.loop.input.items _ c.in-Ok-eq0.field-0 c.loop.invariant.0 c.in-Ok-eq0.ensures.bytes.0 c.in-Ok-eq0.field-0-test (search rules)

pub loop-preserved : goal.loop-preserved
loop-preserved g c = elim c.match-read.branch [
  | in-Ok+else-n-len+else-is_err w ↦
      let saw = w.in-Ok.ensures.saw in
      (grind (arith, common_steps), search rules, search rules, saw.2 (omega arith) ∙ c.loop.invariant.3, saw.0 ∙ c.loop.invariant.4)
  | in-Err+else-ne w ↦
      let saw = w.in-Err.ensures.saw in
      (grind (arith, common_steps), search rules, search rules, saw.0 ∙ c.loop.invariant.3, saw.1 (search rules) ∙ c.loop.invariant.4)
]

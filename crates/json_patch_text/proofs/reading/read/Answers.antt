use Rattle.std.proofs.Common.{◌∙◌, arith, rules, subst, sym}
use Rattle.json_patch_operation.specs.PatchValue.{OfRefusal, RefusesPatch}
use Rattle.json_reading.specs.Reading.{Reading}
use Rattle.json_reading.specs.Trees.{data_of}
use Rattle.std.proofs.lemmas.List.{drop_all}
use Rattle.json_patch_text.proofs.Readings.{none_read, element_read, numbered_refusal, all_read}
use Rattle.json_patch_text.proofs.reading.read.Goals.{in-Array, in_default}
use Rattle.json_patch_text.proofs.reading.read.Goals as goal

pub loop-number-init : goal.loop-number-init
loop-number-init c = λ p h. elim c.match-matches.branch [
  | in-Array w ↦ none_read c.args.text.now p c.in_ok-texts.texts.items c.new-operations.result.items h (sym (c.of.ensures p h.0) ∙ w.in-Array.is) (c.in_ok-texts.ensures.texts p h.0) (c.in_ok-texts.ensures.stretches p h.0) c.new-operations.ensures.items
  | in_default w ↦ absurd (search rules)
]

pub loop-number-preserved : goal.loop-number-preserved
loop-number-preserved c = λ p h.
    element_read c.args.text.now p c.in_ok-texts.texts.items c.loop-number.number c.index.result.now c.loop-number.operations.items c.push.new.self.items c.in-Ok.operation (c.loop-number.invariant p h) (omega (arith, c.loop-number-test.true)) c.index.ensures c.in-Ok.ensures.read (search rules)

pub returns-clause-read : goal.returns-clause-read
returns-clause-read c = λ p h.
    all_read c.args.text.now p _ c.loop-number.operations.items c.loop-number.number (c.loop-number.invariant p h) (drop_all c.loop-number.number c.in_ok-texts.texts.items (omega (arith, c.loop-number-test.false)))

pub returns-in-Err-clause-refused : goal.returns-in-Err-clause-refused
returns-in-Err-clause-refused c = λ p h.
    subst (OfRefusal (λ e. (r : Reading) → RefusesPatch (data_of r p) e.operation e.kind)) (sym c.numbered.ensures)
    (numbered_refusal c.args.text.now p c.in_ok-texts.texts.items c.loop-number.number c.index.result.now c.loop-number.operations.items c.in-Err.fault (c.loop-number.invariant p h) (omega (arith, c.loop-number-test.true)) c.index.ensures c.in-Err.ensures.refused)

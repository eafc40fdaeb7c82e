use Rattle.std.proofs.Common.{◌≡◌, ◌+◌, ◌∙◌, ap, eqb-true, sym, length, arith}
use Rattle.std.specs.Prelude.{not}
use Rattle.json_text.proofs.Shorter.{apart, other_end, some_bytes, too_short}
use Rattle.json_text.proofs.cuts.differs.Goals as goal
use Rattle.json_text.proofs.cuts.differs.Goals.{then-text-lt2-via-then-text-lt2, then-text-lt2-via-else-text-lt2+then-text-name, then-text-name-2, else-text-name-2}

pub returns-then-text-lt2-clause-other : goal.returns-then-text-lt2-clause-other
returns-then-text-lt2-clause-other c told l t = too_short c.args.text.now l c.args.name.now t (elim c.then-text-lt2.branch [
  | then-text-lt2-via-then-text-lt2 w ↦ omega (arith, w.if-text-lt2.true)
  | then-text-lt2-via-else-text-lt2+then-text-name w ↦ omega (arith, w.if-text-lt2.false, w.if-text-name.true)
])

pub returns-then-not-is_empty-clause-other : goal.returns-then-not-is_empty-clause-other
returns-then-not-is_empty-clause-other c told l t =
    let n = c.args.name.now in
    elim c.if-text-name-2.branch [
      | then-text-name-2 w ↦
          let count : length c.args.text.now ≡ length n + 2 = omega (arith, c.if-text-lt2.false, w.if-text-name-2.true) in
          other_end c.args.text.now l n t count (some_bytes (length n) (ap not (sym w.is_empty.ensures) ∙ sym w.value-is ∙ c.if-not-is_empty.true)) (apart _ _ told)
      | else-text-name-2 w ↦ absurd (w.if-text-name-2.false (eqb-true _ _ (sym w.value-is ∙ c.if-not-is_empty.true)))
    ]

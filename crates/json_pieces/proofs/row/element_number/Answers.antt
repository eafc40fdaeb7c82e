use Rattle.std.proofs.Common.{subst, arith}
use Rattle.jsonptr.specs.Indexes.{IsIndexText}
use Rattle.json_text.proofs.Rows.Trees.{next_is_no_element}
use Rattle.json_pieces.proofs.Naming.{past_elements, no_place_elements}
use Rattle.json_pieces.proofs.row.element_number.Goals as goal

pub returns-else-number-count-clause-none : goal.returns-else-number-count-clause-none
returns-else-number-count-clause-none c = λ cs e.
    let at = subst (IsIndexText c.args.name.now) c.in-Ok-Num.field-0-is c.in-Ok-Num.ensures.index in
    past_elements cs c.args.name.now c.in-Ok-Num.number c.args.count at.0 e c.if-number-count.false

pub returns-in-Ok-Next-clause-none : goal.returns-in-Ok-Next-clause-none
returns-in-Ok-Next-clause-none c = λ cs e.
    next_is_no_element cs c.args.name.now (subst (IsIndexText c.args.name.now) c.in-Ok-Next.field-0-is c.in-Ok-Next.ensures.index)

pub returns-in-Err-clause-none : goal.returns-in-Err-clause-none
returns-in-Err-clause-none c = λ cs e. no_place_elements cs c.args.name.now c.args.count c.in-Err.ensures.no_index e (omega arith)

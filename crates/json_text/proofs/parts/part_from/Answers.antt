use Rattle.std.proofs.Common.{refl}
use Rattle.json_text.proofs.Rows.Parts.{part_stands}
use Rattle.json_text.proofs.parts.part_from.Goals as goal

pub returns-clause-part : goal.returns-clause-part
returns-clause-part c = λ cs e.
    part_stands c.args.text.now c.args.named cs c.args.start c.in_ok-value_start.field-0 c.value_from-value.result c.after-next.result _ refl refl refl c.value_from-value.ensures.start c.value_from-value.ensures.left c.after-next.ensures.left c.after-next.ensures.none e
    (c.in_ok-value_start.ensures.value cs e)

use Rattle.std.proofs.Common.{sym, subst}
use Rattle.json_lexemes.specs.Spelled.{Says}
use Rattle.json_text.proofs.Rows.Objects.{leaf_add}
use Rattle.json_text.proofs.growing.with_child.Goals as goal

pub returns-in_default : goal.returns-in_default
returns-in_default c = λ v says w. leaf_add c.args.name.now w v (c.in_default.ensures.row v (subst (λ x. Says x v) (sym c.as_bytes.ensures.value) says))

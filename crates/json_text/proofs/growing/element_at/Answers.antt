use Rattle.std.proofs.Common.{IfSome, subst}
use Rattle.std.specs.Str.{IsUtf8, IsCharBoundary}
use Rattle.json_text.specs.Rows.{CutNone}
use Rattle.json_text.proofs.growing.element_at.Goals as goal

pub returns-clause-boundary : goal.returns-clause-boundary
returns-clause-boundary c = subst (λ x. (IsUtf8 x → IsCharBoundary x c.args.start) → IfSome c.part_at.result (λ r. (IsUtf8 x → IsCharBoundary x r.before) × CutNone x r.part)) c.as_bytes.ensures.value c.part_at.ensures.boundary

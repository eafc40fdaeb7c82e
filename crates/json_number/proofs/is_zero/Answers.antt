use Rattle.std.proofs.Common.{◌==◌, sym, ap, ◌∙◌}
use Rattle.json_number.specs.Digits.{digits}
use Rattle.json_number.proofs.Fronts.{front_all}
use Rattle.json_number.proofs.Powers.{zero_test}
use Rattle.json_number.proofs.is_zero.Goals as goal

pub returns : goal.returns
returns c =
    ap (λ n. c.zeros.result == n) c.count.ensures.value ∙ sym c.zeros.ensures.all ∙ zero_test _ _ c.zeros.result c.zeros.ensures.cut
    ∙ ap (λ n. n == 0) (front_all (digits c.args.p.now))

use Rattle.std.proofs.Common.{◌≡◌, ◌==◌, ◌+◌}
use Rattle.json_number.specs.Digits.{front, digits}
use Rattle.json_number.proofs.digits.same_front.Given as goal

abbrev pub invariant-loop-k : goal.invariant-loop-k
invariant-loop-k l = (front (digits l.p) l.i == front (digits l.q) l.j) ≡ (front (digits l.p) (l.i + l.k) == front (digits l.q) (l.j + l.k))

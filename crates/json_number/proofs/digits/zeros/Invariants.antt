use Rattle.std.proofs.Common.{◌≡◌, ◌*◌, ◌^◌}
use Rattle.json_number.specs.Digits.{front, digits}
use Rattle.json_number.proofs.digits.zeros.Given as goal

abbrev pub invariant-loop-i : goal.invariant-loop-i
invariant-loop-i l = front (digits l.p) 0 ≡ front (digits l.p) l.i * 10 ^ l.i

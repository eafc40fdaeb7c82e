use Rattle.std.proofs.Common.{◌≡◌, ◌==◌, ◌<◌, ◌+◌, ◌^◌}
use Rattle.json_number.specs.Digits.{front}
use Rattle.json_number.proofs.sums.same_sums.Given as goal

abbrev pub invariant-loop-i : goal.invariant-loop-i
invariant-loop-i l = record {
  same : (front l.a 0 + front l.b 0 + l.fn.one.more == front l.c 0 + front l.d 0 + l.fn.other.more) ≡ (front l.a l.i + front l.b l.i + l.left == front l.c l.i + front l.d l.i + l.right);
  small : (l.left < 2 ^ 100) × (l.right < 2 ^ 100);
}

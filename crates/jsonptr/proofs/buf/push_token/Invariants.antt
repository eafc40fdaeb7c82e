use Rattle.std.proofs.Common.{◌≡◌, ◌∷◌, ◌++◌}
use Rattle.std.proofs.Math.Utf8.{encodes}
use Rattle.std.specs.String.{string_bytes}
use Rattle.jsonptr.specs.Text.{encoded}
use Rattle.jsonptr.proofs.buf.push_token.Given as goal

abbrev pub invariant-loop-c : goal.invariant-loop-c
invariant-loop-c l = string_bytes l.out ≡ string_bytes l.fn.out ++ 47 ∷ encoded (encodes l.yielded)

use Rattle.std.proofs.Common.{◌≡◌, ◌++◌, take}
use Rattle.jsonptr.specs.Scanning.{Escaped}
use Rattle.jsonptr.specs.Text.{decoded}
use Rattle.jsonptr.proofs.token.Token.is_key.Given as goal

abbrev pub invariant-loop-byte : goal.invariant-loop-byte
invariant-loop-byte l = record { escaped : Escaped l.rest; so_far : decoded l.self.text.now ≡ take l.byte-index l.key ++ decoded l.rest }

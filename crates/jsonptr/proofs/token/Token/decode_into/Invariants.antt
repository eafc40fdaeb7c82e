use Rattle.std.proofs.Common.{◌≡◌, ◌++◌, ◌+◌, ◌≤◌, length}
use denote.Text.{Utf8}
use denote.Shadow.{shadow}
use Rattle.std.specs.String.{string_bytes, string_len, string_capacity}
use Rattle.jsonptr.specs.Pointers.{token_of}
use Rattle.jsonptr.specs.Scanning.{Escaped}
use Rattle.jsonptr.specs.Text.{decoded, encoded}
use Rattle.jsonptr.proofs.token.Token.decode_into.Given as goal

abbrev pub invariant-loop-plain : goal.invariant-loop-plain
invariant-loop-plain l = record {
  text : shadow (Utf8 l.rest);
  escaped : Escaped l.rest;
  so_far : decoded l.self.text.now ≡ string_bytes l.out ++ decoded l.rest;
  fits : length (encoded (token_of l.self)) ≤ string_capacity l.fn.out → string_len l.out + length l.rest ≤ string_capacity l.out;
  grows : string_capacity l.fn.out ≤ string_capacity l.out;
}

abbrev pub decreases-loop-plain : goal.decreases-loop-plain
decreases-loop-plain l = length l.rest

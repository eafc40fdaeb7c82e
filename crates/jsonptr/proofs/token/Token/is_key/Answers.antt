use Rattle.std.proofs.Common.{◌≤◌, length, arith, refl}
use Rattle.std.proofs.lemmas.Bool.Decides.{nat_tests}
use Rattle.jsonptr.specs.Pointers.{token_of}
use Rattle.jsonptr.proofs.Texts.{Escaped-from_IsEncoded, is_key_all}
use Rattle.jsonptr.proofs.token.Token.is_key.Goals as goal

pub loop-byte-init : goal.loop-byte-init
loop-byte-init c = rw c.as_bytes-rest.ensures.value (record { escaped = Escaped-from_IsEncoded _ c.args.self.now.valid; so_far = refl })

pub returns : goal.returns
unfolding token_of
returns c =
    let l : length c.args.key.now ≤ c.loop-byte.byte-index = omega arith in
    let h = is_key_all c.args.key.now c.loop-byte.rest.now _ _ l c.loop-byte.invariant.so_far in
    grind (arith, nat_tests, h)

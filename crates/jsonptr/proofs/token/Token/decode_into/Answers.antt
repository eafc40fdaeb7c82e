use Rattle.std.proofs.Common.{◌≡◌, ◌++◌, ap, ◌∙◌, refl, rules, arith, length}
use Rattle.std.specs.String.{string_bytes}
use Rattle.jsonptr.specs.Text.{decoded, encoded}
use Rattle.jsonptr.specs.Pointers.{token_of}
use Rattle.jsonptr.specs.TextLaws.{Escaped-encoded, decoded_again}
use Rattle.jsonptr.proofs.Texts.{tilde_cuts, tilde_none, escaped_after, Escaped-others, decoded_step, decoded-NoTilde}
use Rattle.jsonptr.proofs.Texts.{pushed, cut_length, decoded_end}
use Rattle.jsonptr.proofs.token.Token.decode_into.Goals as goal

pub loop-plain-init : goal.loop-plain-init
unfolding token_of
loop-plain-init c = record {
  text = search rules;
  escaped = rw c.encoded-rest.ensures (Escaped-encoded (decoded c.args.self.now.text.now));
  so_far = rw (c.encoded-rest.ensures, decoded_again, c.clear.ensures.bytes) refl;
  fits = λ room. (let e : length c.encoded-rest.result.now ≡ length (encoded (token_of c.args.self.now)) = ap length c.encoded-rest.ensures in omega arith);
  grows = omega arith;
}

pub unescape-escaped-requires : goal.unescape-escaped-requires
unescape-escaped-requires c = (escaped_after _ _ _ c.loop-plain.invariant.escaped (tilde_cuts _ _ _ c.in-Some.ensures.cases)).0

pub loop-plain-preserved : goal.loop-plain-preserved
loop-plain-preserved c =
    let cuts = tilde_cuts c.loop-plain.rest.now c.in-Some.plain.now c.in-Some.after.now c.in-Some.ensures.cases in
    let u = c.unescape-escaped.ensures in record {
      text = search rules;
      escaped = Escaped-others _ _ _ u.rest.1 (escaped_after _ _ _ c.loop-plain.invariant.escaped cuts).1;
      so_far = pushed _ _ _ _ _ _ _ _ _ c.loop-plain.invariant.so_far (decoded_step _ _ _ _ _ c.loop-plain.invariant.escaped cuts u.rest u.character)
          c.in_ok-push_str.ensures.bytes c.in_ok-push.ensures.bytes (c.in_ok-push.ensures.ascii u.ascii);
      fits = λ room. (let before = c.loop-plain.invariant.fits room in omega (arith, c.in_ok-push_str.ensures.len, c.in_ok-push.ensures.len, ap length (c.in_ok-push.ensures.ascii u.ascii), cut_length c.loop-plain.rest.now c.in-Some.plain.now c.in-Some.after.now c.unescape-escaped.result.1.now cuts u.rest.0 u.rest.1));
      grows = omega arith;
    }

pub returns-clause-text : goal.returns-clause-text
unfolding token_of
returns-clause-text c = decoded_end _ (string_bytes c.loop-plain.out) _ c.loop-plain.rest.now _ c.push_str-2.ensures.bytes (c.loop-plain.invariant.so_far ∙ ap (λ r. string_bytes c.loop-plain.out ++ r) (decoded-NoTilde _ (tilde_none _ c.in_default.ensures.cases)))

use Rattle.std.proofs.Common.{◌≡◌, [], ◌∷◌, ◌++◌, ap, sym, ◌∙◌}
use Rattle.std.specs.String.{string_bytes}
use Rattle.jsonptr.specs.Pointers.{tokens_of}
use Rattle.jsonptr.specs.Text.{text_of}
use Rattle.jsonptr.proofs.Owning.{last_valid, last_tokens, same_front}
use Rattle.jsonptr.proofs.buf.PointerBuf.with_last.Goals as goal

pub invariant_of-result : goal.invariant_of-result
invariant_of-result c =
    let text : string_bytes c.push_str.new.self ≡ text_of (tokens_of c.in-Some.front) =
    c.in_ok-push_str.ensures.bytes ∙ ap (λ b. b ++ c.as_str-front.result.now) c.in_ok-text.ensures.bytes ∙ c.as_str-front.ensures
    in last_valid (tokens_of c.in-Some.front) (string_bytes c.push_token.new.out) (string_bytes c.push_str.new.self) c.args.raw.now c.in_ok-push_token.ensures text

pub returns : goal.returns
returns c front last is =
    let text : string_bytes c.push_str.new.self ≡ text_of (tokens_of c.in-Some.front) =
    c.in_ok-push_str.ensures.bytes ∙ ap (λ b. b ++ c.as_str-front.result.now) c.in_ok-text.ensures.bytes ∙ c.as_str-front.ensures
    in let same : tokens_of c.in-Some.front ≡ front = same_front _ _ _ _ (sym c.in-Some.ensures.last ∙ c.as_pointer.ensures ∙ is) in
    last_tokens (tokens_of c.in-Some.front) (string_bytes c.push_token.new.out) (string_bytes c.push_str.new.self) c.args.raw.now c.in_ok-push_token.ensures text
    ∙ ap (λ P. P ++ c.args.raw.now ∷ []) same

use Rattle.std.proofs.Common.{rules, ◌≡◌, ◌∷◌, ◌∙◌, ap, sym}
use Rattle.jsonptr.specs.Pointers.{token_of, tokens_of}
use Rattle.jsonptr.specs.TextLaws.{encoded_once}
use Rattle.jsonptr.proofs.pointer.Pointer.skip_same.Goals as goal

pub returns-clause-same : goal.returns-clause-same
returns-clause-same c =
    let texts : c.encoded.result.now ≡ c.encoded-2.result.now = search rules in
    let same : token_of c.in_ok-second.second ≡ token_of c.in_ok-first.first = encoded_once _ _ (sym c.encoded-2.ensures ∙ sym texts ∙ c.encoded.ensures) in
    (token_of c.in_ok-first.first, c.in_ok-first.ensures.first, c.in_ok-second.ensures.first ∙ ap (λ t. t ∷ tokens_of c.in_ok-second.others) same)

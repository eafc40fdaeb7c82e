use Rattle.json_patch.proofs.Common.{◌≡◌, Some, option_map, sym, ap, ◌∙◌, token_of, tokens_of, operation_of, from_of}
use Rattle.json_patch_laws.proofs.SharedTokens.{both_longest, even_if_none, root_source}
use Rattle.json_patch.proofs.shared.parent_of.Goals as goal

pub returns-in_err-source-in-Some-clause-none : goal.returns-in_err-source-in-Some-clause-none
returns-in_err-source-in-Some-clause-none c =
    let from : from_of (operation_of c.args.operation.now) ≡ Some (tokens_of c.in-Some.from) =
    sym c.source.ensures ∙ ap (λ o. option_map (λ p. tokens_of p) o) c.in-Some.is in
    even_if_none _ _ (root_source (tokens_of c.in-Some.from) (operation_of c.args.operation.now) from c.in_err-source-in-Some.ensures.root)

pub returns-in_ok-source-in-Some-clause-shared : goal.returns-in_ok-source-in-Some-clause-shared
returns-in_ok-source-in-Some-clause-shared c =
    let m = c.shared_with.ensures in
    let from : from_of (operation_of c.args.operation.now) ≡ Some (tokens_of c.in-Some.from) =
    sym c.source.ensures ∙ ap (λ o. option_map (λ p. tokens_of p) o) c.in-Some.is in
    both_longest (operation_of c.args.operation.now) (tokens_of c.in-Some.from) (tokens_of c.in_ok-parent.parent) (tokens_of c.in_ok-source-in-Some.source) (tokens_of c.shared_with.result) (token_of c.in_ok-parent._last) (token_of c.in_ok-source-in-Some._last)
    from (sym c.path.ensures ∙ c.in_ok-parent.ensures.last) c.in_ok-source-in-Some.ensures.last m

use Rattle.std.proofs.Common.{◌≡◌, ◌∷◌, ◌∙◌, ap, sym, arith, Some, None}
use Rattle.std.proofs.lemmas.Str.Pattern.{strip_prefix_char}
use Rattle.jsonptr.specs.Pointers.{tokens_of}
use Rattle.jsonptr.specs.Scanning.{tokens_of_text}
use Rattle.jsonptr.proofs.Texts.{cuts_inner, tokens_from_no_slash, if_none}
use Rattle.jsonptr.proofs.pointer.Pointer.split_front.Goals as goal

pub returns-in_err-inner-clause-root : goal.returns-in_err-inner-clause-root
unfolding tokens_of
returns-in_err-inner-clause-root c =
    if_none _ (tokens_from_no_slash _ c.args.self.now.valid (strip_prefix_char 47 _ None c.in_err-inner.ensures.cases (omega arith)))

pub from_checked-requires : goal.from_checked-requires
from_checked-requires c =
    let is : c.args.self.now.text.now ≡ 47 ∷ c.in_ok-inner.inner.now = strip_prefix_char 47 _ (Some c.in_ok-inner.inner) c.in_ok-inner.ensures.cases (omega arith) in
    let cut = c.cut_at_slash.ensures in
    (cuts_inner _ _ _ _ c.args.self.now.valid is cut.whole cut.front cut.back).first

pub invariant_of-result : goal.invariant_of-result
invariant_of-result c =
    let is : c.args.self.now.text.now ≡ 47 ∷ c.in_ok-inner.inner.now = strip_prefix_char 47 _ (Some c.in_ok-inner.inner) c.in_ok-inner.ensures.cases (omega arith) in
    let cut = c.cut_at_slash.ensures in
    record { valid = (cuts_inner _ _ _ _ c.args.self.now.valid is cut.whole cut.front cut.back).rest }

pub returns-clause-first : goal.returns-clause-first
unfolding tokens_of
returns-clause-first c =
    let is : c.args.self.now.text.now ≡ 47 ∷ c.in_ok-inner.inner.now = strip_prefix_char 47 _ (Some c.in_ok-inner.inner) c.in_ok-inner.ensures.cases (omega arith) in
    let cut = c.cut_at_slash.ensures in
    (cuts_inner _ _ _ _ c.args.self.now.valid is cut.whole cut.front cut.back).tokens
    ∙ ap (λ t. t ∷ tokens_of_text c.cut_at_slash.result.1.now) (sym c.from_checked.ensures)

use Rattle.json_patch.proofs.Common.{◌<◌, ◌^◌, arith, sym, ap, ◌∙◌, [], token_is_decimal, token_of, tokens_of}
use Rattle.json_patch.proofs.Common.{pointee, count_in, view, true≢false}
use Rattle.json_patch_edit.specs.Marked.{seen}
use Rattle.json_patch.proofs.Undos.{place_no_list, place_numbered, place_other}
use Rattle.json_patch.proofs.log.undo_place.Goals as goal

pub returns-then-not-is_key : goal.returns-then-not-is_key
returns-then-not-is_key c =
    c.in_ok-place.ensures ∙ place_other (seen (view c.args.doc.now)) (tokens_of c.args.path) (tokens_of c.in-Some.parent) (token_of c.in-Some.last) c.in-Some.ensures.last (λ same. true≢false (sym (c.is_key.ensures.1 same) ∙ c.if-not-is_key.true))

pub returns-in_default-count_shown : goal.returns-in_default-count_shown
returns-in_default-count_shown c =
    c.in_ok-place.ensures ∙ place_no_list (seen (view c.args.doc.now)) (tokens_of c.args.path) (tokens_of c.in-Some.parent) (token_of c.in-Some.last) c.in-Some.ensures.last (c.is_key.ensures.0 c.if-not-is_key.false)
    (c.in_default-count_shown.ensures ∙ ap (λ P. count_in (pointee (seen (view c.args.doc.now)) P)) c.tokens.ensures.value)

pub returns : goal.returns
returns c =
    let small : c.in-Some-count_shown.count < 2 ^ 64 = omega arith in
    place_numbered c.with_last.result (seen (view c.args.doc.now)) [] c.in_ok-place.place (tokens_of c.args.path) (tokens_of c.in-Some.parent) (token_of c.in-Some.last) c.as_str.result.now c.in-Some-count_shown.count
    c.in_ok-place.ensures c.in-Some.ensures.last (c.is_key.ensures.0 c.if-not-is_key.false)
    (c.in-Some-count_shown.ensures ∙ ap (λ P. count_in (pointee (seen (view c.args.doc.now)) P)) c.tokens.ensures.value)
    (c.as_str.ensures.value ∙ c.in_ok-number.ensures.ok ∙ sym (token_is_decimal c.in-Some-count_shown.count small)) c.with_last.ensures

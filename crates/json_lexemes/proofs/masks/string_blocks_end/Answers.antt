use Rattle.std.proofs.Common.{drop, sym, ap, ◌∙◌}
use Rattle.std.proofs.lemmas.Bool.{not-false}
use Rattle.json.specs.Lex.{lex}
use Rattle.json_lexemes.proofs.Passed.{string_kept, carried_string}
use Rattle.json_lexemes.proofs.masks.string_blocks_end.Goals as goal

pub returns-clause-left : goal.returns-clause-left
returns-clause-left c =
    let t = c.args.text.now in
    let at = c.args.at in
    let k = c.unmarked_end.result in
    let inside = not-false _ c.if-not-block.false in
    ap (λ m. lex m (drop k t)) (carried_string t k inside c.if-block-2.false) ∙ (string_kept t at k c.unmarked_end.ensures.bounds.0 c.unmarked_end.ensures.bounds.1 c.unmarked_end.ensures.free).0
    ∙ sym (ap (λ m. lex m (drop at t)) (carried_string t at inside c.if-block-2.false))

pub returns-clause-mode : goal.returns-clause-mode
returns-clause-mode c = λ p.
    let t = c.args.text.now in
    let at = c.args.at in
    let k = c.unmarked_end.result in
    let inside = not-false _ c.if-not-block.false in
    (string_kept t at k c.unmarked_end.ensures.bounds.0 c.unmarked_end.ensures.bounds.1 c.unmarked_end.ensures.free).1 (p ∙ carried_string t at inside c.if-block-2.false)
    ∙ sym (carried_string t k inside c.if-block-2.false)

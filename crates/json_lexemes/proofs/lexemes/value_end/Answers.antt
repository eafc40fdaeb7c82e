use Rattle.std.proofs.Common.{◌≡◌, ◌<◌, ◌+◌, ◌-◌, true, length, get_or, inr, sym, ap, ◌∙◌, arith}
use Rattle.std.proofs.lemmas.Str.{IsCharBoundary-after_ascii}
use Rattle.json.specs.Word.{is_operator}
use Rattle.json_lexemes.specs.Skipped.{if_open, skip}
use Rattle.json_lexemes.specs.Places.{left_at}
use Rattle.json_lexemes.specs.Blocks.{is_opening}
use Rattle.json_lexemes.proofs.Ascii.{operator_ascii}
use Rattle.json_lexemes.proofs.Steps.{skip_nothing, skip_step, operator_first, operator_end}
use Rattle.json_lexemes.proofs.Passed.{opening_operator, opening_depth, other_depth}
use Rattle.json_lexemes.proofs.lexemes.value_end.Goals as goal

pub returns-then-start-text-clause-left : goal.returns-then-start-text-clause-left
returns-then-start-text-clause-left c =
    let same = c.whitespace_end-start.ensures.left in
    sym same ∙ skip_nothing 0 0 c.args.text.now c.whitespace_end-start.result (omega arith) ∙ ap (skip 0) same

pub container_end-requires-clause-begins : goal.container_end-requires-clause-begins
container_end-requires-clause-begins c =
    let t = c.args.text.now in
    let i = c.whitespace_end-start.result in
    let same : i + 1 - 1 ≡ i = omega arith in
    ap (λ k. is_operator (get_or t k 0)) same ∙ opening_operator (get_or t i 0) (sym c.is_opening.ensures ∙ c.if-is_opening.true)

pub returns-then-is_opening-clause-left : goal.returns-then-is_opening-clause-left
returns-then-is_opening-clause-left c =
    let t = c.args.text.now in
    let i = c.whitespace_end-start.result in
    let x : is_opening (get_or t i 0) ≡ true = sym c.is_opening.ensures ∙ c.if-is_opening.true in
    let h : i < length t = omega (arith, c.whitespace_end-start.ensures.bounds) in
    c.container_end.ensures.left ∙ sym (ap (λ d. if_open d (left_at t (i + 1)) (skip d (left_at t (i + 1)))) (opening_depth (get_or t i 0) x))
    ∙ sym (skip_step t i (i + 1) 0 (operator_first t i h (opening_operator (get_or t i 0) x))) ∙ ap (skip 0) c.whitespace_end-start.ensures.left

pub returns-then-is_opening-clause-end : goal.returns-then-is_opening-clause-end
returns-then-is_opening-clause-end c = λ e.
    let t = c.args.text.now in
    let i = c.whitespace_end-start.result in
    let o : is_operator (get_or t i 0) ≡ true = opening_operator (get_or t i 0) (sym c.is_opening.ensures ∙ c.if-is_opening.true) in
    let f = c.container_end.ensures.end (operator_end t i (omega (arith, c.whitespace_end-start.ensures.bounds)) o (c.whitespace_end-start.ensures.end e)) in
    (f.0, inr f.1)

pub returns-then-is_opening-clause-boundary : goal.returns-then-is_opening-clause-boundary
returns-then-is_opening-clause-boundary c = λ u b.
    let t = c.args.text.now in
    let i = c.whitespace_end-start.result in
    c.container_end.ensures.boundary u
    (IsCharBoundary-after_ascii t i u (omega (arith, c.whitespace_end-start.ensures.bounds)) (operator_ascii (get_or t i 0) (opening_operator (get_or t i 0) (sym c.is_opening.ensures ∙ c.if-is_opening.true))))

pub returns-else-is_opening-clause-left : goal.returns-else-is_opening-clause-left
returns-else-is_opening-clause-left c =
    let t = c.args.text.now in
    let i = c.whitespace_end-start.result in
    let k = c.lexeme_end.result in
    sym (ap (λ d. if_open d (left_at t k) (skip d (left_at t k))) (other_depth (get_or t i 0) (sym c.is_opening.ensures ∙ c.if-is_opening.false)))
    ∙ sym (skip_step t i k 0 c.lexeme_end.ensures.steps) ∙ ap (skip 0) c.whitespace_end-start.ensures.left

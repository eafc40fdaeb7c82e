use Rattle.std.proofs.Common.{◌≡◌, suc, false, not, ◌&&◌, ◌||◌, get_or, refl, sym, ap, ◌∙◌, arith}
use Rattle.std.proofs.lemmas.Bool.{eqb-true}
use Rattle.json.specs.Scan.{test}
use Rattle.json.specs.Word.{is_space}
use Rattle.json_lexemes.proofs.Bits.{and_true, test_or, test_zero}
use Rattle.json_lexemes.proofs.Masked.{first_behind, ends_behind}
use Rattle.json_lexemes.proofs.masks.may_begin.Goals as goal

pub returns-then-others-eq0-clause-first : goal.returns-then-others-eq0-clause-first
returns-then-others-eq0-clause-first c = λ r b. first_behind _ _ b (sym c.not_behind-others.ensures.first ∙ ap (λ n. test n 0) c.if-others-eq0.true ∙ test_zero 0)

pub returns-then-others-eq0-clause-behind : goal.returns-then-others-eq0-clause-behind
returns-then-others-eq0-clause-behind c = λ r i h b.
    let x = get_or c.args.v i 0 in
    let o = test c.args.opens i in
    let k = test c.commas.result i in
    let none : (test c.args.begins (suc i) && not (o || k)) ≡ false =
    ap (λ v. test c.args.begins (suc i) && not v) (sym (test_or c.args.opens c.commas.result i)) ∙ sym (c.not_behind-others.ensures.next i h) ∙ ap (λ n. test n (suc i)) c.if-others-eq0.true ∙ test_zero (suc i) in
    ends_behind x (test c.args.begins (suc i)) o k (is_space x) b (c.requires i (omega arith)) (c.commas.ensures i (omega arith)) refl (ap (λ v. v && not (is_space x)) none)

pub returns-else-others-eq0-clause-first : goal.returns-else-others-eq0-clause-first
returns-else-others-eq0-clause-first c = λ r b.
    first_behind _ _ b
    (sym c.not_behind-others.ensures.first ∙ sym (and_true _) ∙ sym c.not_behind.ensures.first ∙ ap (λ n. test n 0) (eqb-true c.not_behind.result 0 r) ∙ test_zero 0)

pub returns-else-others-eq0-clause-behind : goal.returns-else-others-eq0-clause-behind
returns-else-others-eq0-clause-behind c = λ r i h b.
    let x = get_or c.args.v i 0 in
    let o = test c.args.opens i in
    let k = test c.commas.result i in
    let s = test c.spaces.result i in
    let others : test c.not_behind-others.result (suc i) ≡ (test c.args.begins (suc i) && not (o || k)) =
    c.not_behind-others.ensures.next i h ∙ ap (λ v. test c.args.begins (suc i) && not v) (test_or c.args.opens c.commas.result i) in
    ends_behind x (test c.args.begins (suc i)) o k s b (c.requires i (omega arith)) (c.commas.ensures i (omega arith)) (c.spaces.ensures i (omega arith))
    (ap (λ v. v && not s) (sym others) ∙ sym (c.not_behind.ensures.next i h) ∙ ap (λ n. test n (suc i)) (eqb-true c.not_behind.result 0 r) ∙ test_zero (suc i))

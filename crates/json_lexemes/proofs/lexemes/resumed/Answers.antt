use Rattle.std.proofs.Common.{◌≡◌, ◌-◌, Bool, true, false, drop, get_or, sym, ap, ap₂, ◌∙◌, inl, inr}
use Rattle.std.proofs.lemmas.Bool.{not-false}
use Rattle.json.specs.Lex.{in_string, in_escape, lex, class}
use Rattle.json_lexemes.specs.Lexing.{next_mode}
use Rattle.json_lexemes.specs.Runs.{is_of_word}
use Rattle.json_lexemes.specs.Blocks.{carried, mode_by}
use Rattle.json_lexemes.proofs.Steps.{escape_passes, at_end, mode_step, string_has_end}
use Rattle.json_lexemes.proofs.lexemes.resumed.Goals as goal

pub returns-then-at-text-clause-left : goal.returns-then-at-text-clause-left
returns-then-at-text-clause-left c =
    let t = c.args.text.now in
    let at = c.args.at in
    let m : carried t at c.args.carry.inside c.args.carry.escaped ≡ in_escape = ap₂ (λ s e. mode_by s e (is_of_word (get_or t (at - 1) 0))) (not-false _ c.if-not-carry.false) c.if-carry.true in
    c.string_end.ensures.left ∙ sym (escape_passes t at c.if-at-text.true) ∙ sym (ap (λ k. lex k (drop at t)) m)

pub returns-then-at-text-clause-end : goal.returns-then-at-text-clause-end
returns-then-at-text-clause-end c = λ p.
    let t = c.args.text.now in
    let at = c.args.at in
    let m : carried t at c.args.carry.inside c.args.carry.escaped ≡ in_escape = ap₂ (λ s e. mode_by s e (is_of_word (get_or t (at - 1) 0))) (not-false _ c.if-not-carry.false) c.if-carry.true in
    (string_has_end t c.string_end.result (c.string_end.ensures.mode (mode_step t at c.if-at-text.true ∙ ap (λ k. next_mode k (class (get_or t at 0))) (p ∙ m)))).0

pub returns-else-carry-clause-left : goal.returns-else-carry-clause-left
returns-else-carry-clause-left c =
    let t = c.args.text.now in
    let at = c.args.at in
    let by = λ (e : Bool). lex (mode_by c.args.carry.inside e (is_of_word (get_or t (at - 1) 0))) (drop at t) in
    let inside = λ (e : Bool). ap (λ s. lex (mode_by s e (is_of_word (get_or t (at - 1) 0))) (drop at t)) (not-false _ c.if-not-carry.false) in
    elim c.else-carry.either [
      | inl p ↦ c.string_end-else-carry.ensures.left ∙ at_end in_string in_escape t at p.1 ∙ sym (ap by p.0 ∙ inside true)
      | inr p ↦ c.string_end-else-carry.ensures.left ∙ sym (ap by p ∙ inside false)
    ]

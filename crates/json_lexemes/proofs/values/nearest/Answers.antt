use Rattle.std.proofs.Common.{◌≡◌, ◌≤◌, inl, ap, ◌∙◌, arith, subst}
use Rattle.std.specs.Prelude.{IfSome}
use Rattle.std.proofs.lemmas.Str.{IsCharBoundary-after_ascii}
use Rattle.json.specs.Word.{is_operator}
use Rattle.json_lexemes.specs.Signposts.{IsStep}
use Rattle.json_lexemes.proofs.Elements.{from_step}
use Rattle.json_lexemes.proofs.Steps.{operator_end}
use Rattle.json_lexemes.proofs.values.nearest.Goals as goal

pub returns-then-byte_at-eq93-clause-mode : goal.returns-then-byte_at-eq93-clause-mode
returns-then-byte_at-eq93-clause-mode c = c.whitespace_end-first.ensures.between (operator_end c.args.text.now c.args.start c.requires.within (ap is_operator c.requires.bracket) (inl c.requires.begins))

pub returns-in-Some-clause-ahead : goal.returns-in-Some-clause-ahead
returns-in-Some-clause-ahead c =
    let t = c.args.text.now in
    let first = c.whitespace_end-first in
    let known = subst (λ r. IfSome r (λ s. (s.array ≡ c.args.start) × (s.number ≤ c.args.number) × IsStep t s)) c.in-Some.is (c.step_to.ensures t c.requires.places) in
    from_step t c.in-Some.step c.args.start c.args.number first.result c.whitespace_end.result first.ensures.stops (λ z. c.if-byte_at-eq93.false (c.byte_at.ensures.value ∙ z)) first.ensures.left c.requires.bracket known c.whitespace_end.ensures.left

pub returns-in-None-clause-boundary : goal.returns-in-None-clause-boundary
returns-in-None-clause-boundary c = λ u. c.whitespace_end-first.ensures.boundary u (IsCharBoundary-after_ascii c.args.text.now c.args.start u c.requires.within (omega (arith, c.requires.bracket)))

pub returns-in-None-clause-mode : goal.returns-in-None-clause-mode
returns-in-None-clause-mode c = c.whitespace_end-first.ensures.between (operator_end c.args.text.now c.args.start c.requires.within (ap is_operator c.requires.bracket) (inl c.requires.begins))

use Rattle.std.proofs.Common.{◌≡◌, ◌<◌, length, get_or, refl, sym, ◌∙◌, arith}
use Rattle.jsonptr.specs.Pointers.{token_of, tokens_left}
use Rattle.json_text.proofs.Tokens.{opens_between}
use Rattle.json_text.proofs.Ways.{led_itself, led_last}
use Rattle.json_text.proofs.children.+follow.Goals as goal

pub returns-in_default-clause-leads : goal.returns-in_default-clause-leads
returns-in_default-clause-leads t c = λ v ls e.
    led_itself c.args.text.now (tokens_left c.args.tokens) v ls c.value_from-value.result c.args.start c.in_default.ensures.steps.0 c.value_from-value.ensures.start e c.value_from-value.ensures.left

pub first_named-next-requires-clause-begins : goal.first_named-next-requires-clause-begins
first_named-next-requires-clause-begins t c =
    let here : c.args.start < length c.args.text.now = c.byte_at.ensures.within (λ z. absurd (omega (arith, z, c.if-byte_at-ne123.false))) in
    opens_between c.args.text.now c.args.start 123 here (sym c.byte_at.ensures.value ∙ c.if-byte_at-ne123.false) refl c.requires.front.begins

pub returns-in-End-next-clause-leads : goal.returns-in-End-next-clause-leads
returns-in-End-next-clause-leads t c = λ v ls e.
    let here : c.args.start < length c.args.text.now = c.byte_at.ensures.within (λ z. absurd (omega (arith, z, c.if-byte_at-ne123.false))) in
    let brace : get_or c.args.text.now c.args.start 32 ≡ 123 = sym c.byte_at.ensures.value ∙ c.if-byte_at-ne123.false in
    led_last c.args.text.now (token_of c.in-Some.token) (tokens_left c.args.tokens) _ v ls c.args.start c.in-End-next.end c.members.found c.members.next c.in-Some.ensures.steps here brace c.in-End-next.is c.members.invariant.turned e

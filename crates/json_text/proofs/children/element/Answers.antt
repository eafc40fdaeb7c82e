use Rattle.std.proofs.Common.{◌≡◌, ◌<◌, length, get_or, sym, ◌∙◌, subst, arith}
use Rattle.jsonptr.specs.Indexes.{IsIndexText}
use Rattle.jsonptr.specs.Pointers.{token_of}
use Rattle.json_text.proofs.Ways.{element_reached, next_is_none, no_element, no_index_none}
use Rattle.json_text.proofs.children.element.Goals as goal

pub returns-then-byte_at-ne91-clause-reaches : goal.returns-then-byte_at-ne91-clause-reaches
returns-then-byte_at-ne91-clause-reaches c = λ v ls e.
    no_element c.args.text.now (token_of c.args.token) c.args.start c.value_end.result v ls c.requires.front.solid c.requires.other (λ z. c.if-byte_at-ne91.true (c.byte_at.ensures.value ∙ z)) c.value_end.ensures.left e

pub returns-in-Ok-Num-clause-reaches : goal.returns-in-Ok-Num-clause-reaches
returns-in-Ok-Num-clause-reaches c = λ v ls e.
    let here : c.args.start < length c.args.text.now = c.byte_at.ensures.within (λ z. absurd (omega (arith, z, c.if-byte_at-ne91.false))) in
    let bracket : get_or c.args.text.now c.args.start 32 ≡ 91 = sym c.byte_at.ensures.value ∙ c.if-byte_at-ne91.false in
    element_reached c.args.text.now (token_of c.args.token) c.in-Ok-Num.number c.args.start c.numbered.result v ls here bracket (subst (IsIndexText (token_of c.args.token)) c.in-Ok-Num.field-0-is c.in-Ok-Num.ensures.index).0 c.numbered.ensures.reaches e

pub returns-in-Ok-Next-clause-reaches : goal.returns-in-Ok-Next-clause-reaches
returns-in-Ok-Next-clause-reaches c = λ v ls e.
    let here : c.args.start < length c.args.text.now = c.byte_at.ensures.within (λ z. absurd (omega (arith, z, c.if-byte_at-ne91.false))) in
    let bracket : get_or c.args.text.now c.args.start 32 ≡ 91 = sym c.byte_at.ensures.value ∙ c.if-byte_at-ne91.false in
    next_is_none c.args.text.now (token_of c.args.token) c.args.start c.value_end-in-Ok-Next.result v ls here bracket (subst (IsIndexText (token_of c.args.token)) c.in-Ok-Next.field-0-is c.in-Ok-Next.ensures.index) c.value_end-in-Ok-Next.ensures.left e

pub returns-in-Err-clause-reaches : goal.returns-in-Err-clause-reaches
returns-in-Err-clause-reaches c = λ v ls e.
    let here : c.args.start < length c.args.text.now = c.byte_at.ensures.within (λ z. absurd (omega (arith, z, c.if-byte_at-ne91.false))) in
    let bracket : get_or c.args.text.now c.args.start 32 ≡ 91 = sym c.byte_at.ensures.value ∙ c.if-byte_at-ne91.false in
    no_index_none c.args.text.now (token_of c.args.token) c.args.start c.value_end-in-Err.result v ls here bracket (omega arith) c.in-Err.ensures.no_index c.value_end-in-Err.ensures.left e

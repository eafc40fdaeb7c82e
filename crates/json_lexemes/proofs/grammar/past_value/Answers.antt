use Rattle.std.proofs.Common.{inl, refl, sym, ◌+◌, ◌∙◌, arith}
use Rattle.json.specs.Lex.{comma}
use Rattle.json_lexemes.specs.Places.{left_at}
use Rattle.json_lexemes.proofs.Completed.{behind_bracket, behind_comma, byte_left, no_whitespace, past_operator}
use Rattle.json_lexemes.proofs.Ended.{here}
use Rattle.json_lexemes.proofs.grammar.past_value.Goals as goal

pub returns-then-c-eq44-clause-next : goal.returns-then-c-eq44-clause-next
returns-then-c-eq44-clause-next c = λ _.
    let t = c.args.text.now in
    let i = c.next_byte-i.result.0 in (
      left_at t (i + 1),
      byte_left t c.args.from i 44 comma (omega arith) (sym c.next_byte-i.ensures.value ∙ c.if-c-eq44.true) refl refl c.next_byte-i.ensures.left,
      c.in_ok-next.ensures.named,
    )

pub returns-then-c-closing-clause-closes : goal.returns-then-c-closing-clause-closes
returns-then-c-closing-clause-closes c = λ _.
    byte_left c.args.text.now c.args.from c.next_byte-i.result.0 c.closing.result _ (no_whitespace _ c.closing.ensures.operator) (sym c.next_byte-i.ensures.value ∙ c.if-c-closing.true) c.closing.ensures.operator c.closing.ensures.bracket
    c.next_byte-i.ensures.left

pub returns-then-c-eq44-clause-end : goal.returns-then-c-eq44-clause-end
returns-then-c-eq44-clause-end c = λ e.
    c.in_ok-next.ensures.end (inl (past_operator c.args.text.now c.args.from c.next_byte-i.result.0 44 (omega arith) (sym c.next_byte-i.ensures.value ∙ c.if-c-eq44.true) refl c.next_byte-i.ensures.end e))

pub returns-then-c-closing-clause-end : goal.returns-then-c-closing-clause-end
returns-then-c-closing-clause-end c = λ e.
    let o = c.closing.ensures.operator in
    inl (past_operator c.args.text.now c.args.from c.next_byte-i.result.0 c.closing.result (no_whitespace _ o) (sym c.next_byte-i.ensures.value ∙ c.if-c-closing.true) o c.next_byte-i.ensures.end e)

pub returns-then-c-eq44-clause-comma : goal.returns-then-c-eq44-clause-comma
returns-then-c-eq44-clause-comma c = λ _ n e.
    let i = c.next_byte-i.result.0 in
    let h = here c.args.text.now i 44 (omega arith) (sym c.next_byte-i.ensures.value ∙ c.if-c-eq44.true) in
    behind_comma c.args.text.now i c.in_ok-next.next (c.in_ok-next.ensures.element n) h.1 (past_operator c.args.text.now c.args.from i 44 (omega arith) (sym c.next_byte-i.ensures.value ∙ c.if-c-eq44.true) refl c.next_byte-i.ensures.end e)

pub returns-then-c-closing-clause-bracket : goal.returns-then-c-closing-clause-bracket
returns-then-c-closing-clause-bracket c = λ _ e.
    let o = c.closing.ensures.operator in
    let i = c.next_byte-i.result.0 in
    let h = here c.args.text.now i c.closing.result (no_whitespace _ o) (sym c.next_byte-i.ensures.value ∙ c.if-c-closing.true) in
    behind_bracket c.args.text.now i c.closing.result c.args.object h.1 c.closing.ensures.bracket o (past_operator c.args.text.now c.args.from i c.closing.result (no_whitespace _ o) (sym c.next_byte-i.ensures.value ∙ c.if-c-closing.true) o c.next_byte-i.ensures.end e)

use Rattle.std.proofs.Common.{inl, sym, ◌+◌, ◌∙◌}
use Rattle.json_lexemes.proofs.Completed.{bracket_here, bracket_ends, empty_whole, no_whitespace, opens_by, past_operator, spells_from}
use Rattle.json_lexemes.proofs.grammar.past_begin.Goals as goal

pub returns-then-first-closing-clause-whole : goal.returns-then-first-closing-clause-whole
returns-then-first-closing-clause-whole c =
    let t = c.args.text.now in
    let p = c.next_byte-start.result.0 in
    let b = bracket_here t p c.next_byte-start.result.1 c.next_byte-start.ensures.value c.if-c-ne91.either in
    spells_from t _ p c.args.from _ c.next_byte-start.ensures.left
    (empty_whole t c.args.room p c.next_byte-inside.result.0 c.next_byte-start.result.1 c.closing.result c.if-not-room.false b c.next_byte-inside.ensures.left (sym c.next_byte-inside.ensures.value ∙ c.if-first-closing.true) c.closing.ensures.bracket c.closing.ensures.operator)

pub returns-clause-opens : goal.returns-clause-opens
returns-clause-opens c =
    let t = c.args.text.now in
    let p = c.next_byte-start.result.0 in
    let b = bracket_here t p c.next_byte-start.result.1 c.next_byte-start.ensures.value c.if-c-ne91.either in
    opens_by t c.args.from p c.next_byte-inside.result.0 c.in_ok-place.place c.next_byte-start.result.1 c.next_byte-start.ensures.left b c.next_byte-inside.ensures.left c.in_ok-place.ensures.named

pub returns-then-first-closing-clause-end : goal.returns-then-first-closing-clause-end
returns-then-first-closing-clause-end c = λ e.
    let t = c.args.text.now in
    let p = c.next_byte-start.result.0 in
    let b = bracket_here t p c.next_byte-start.result.1 c.next_byte-start.ensures.value c.if-c-ne91.either in
    let o = c.closing.ensures.operator in
    inl (past_operator t (p + 1) c.next_byte-inside.result.0 c.closing.result (no_whitespace _ o) (sym c.next_byte-inside.ensures.value ∙ c.if-first-closing.true) o c.next_byte-inside.ensures.end (inl (bracket_ends t p _ b (c.next_byte-start.ensures.end e))))

pub returns-clause-end : goal.returns-clause-end
returns-clause-end c = λ e.
    let t = c.args.text.now in
    let p = c.next_byte-start.result.0 in
    let b = bracket_here t p c.next_byte-start.result.1 c.next_byte-start.ensures.value c.if-c-ne91.either in
    c.in_ok-place.ensures.end (c.next_byte-inside.ensures.end (inl (bracket_ends t p _ b (c.next_byte-start.ensures.end e))))

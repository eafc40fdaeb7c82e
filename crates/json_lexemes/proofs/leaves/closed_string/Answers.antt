use Rattle.std.proofs.Common.{Some, sym, ◌∙◌, arith}
use Rattle.json_lexemes.specs.Places.{left_at}
use Rattle.json_lexemes.proofs.Ended.{here, content_on, inside_closes, inside_ends, inside_to, mode_on, passes_by}
use Rattle.json_lexemes.proofs.leaves.closed_string.Goals as goal

pub returns-then-c-eq34-clause-left : goal.returns-then-c-eq34-clause-left
returns-then-c-eq34-clause-left c =
    let t = c.args.text.now in
    let i = c.stop_from-end.result.0 in
    let plain = c.stop_from-end.ensures in
    let h = here t i 34 (omega arith) (sym c.stop_from-end.ensures.value ∙ c.if-c-eq34.true) in
    (inside_closes t c.args.from i h.0 h.1 (inside_to t c.args.from i plain.bounds plain.plain)).0

pub returns-then-c-eq34-clause-content : goal.returns-then-c-eq34-clause-content
returns-then-c-eq34-clause-content c =
    let t = c.args.text.now in
    let i = c.stop_from-end.result.0 in
    let plain = c.stop_from-end.ensures in
    let h = here t i 34 (omega arith) (sym c.stop_from-end.ensures.value ∙ c.if-c-eq34.true) in
    (inside_closes t c.args.from i h.0 h.1 (inside_to t c.args.from i plain.bounds plain.plain)).1

pub returns-in_ok-behind-clause-left : goal.returns-in_ok-behind-clause-left
returns-in_ok-behind-clause-left c =
    let t = c.args.text.now in
    let i = c.stop_from-end.result.0 in
    let plain = c.stop_from-end.ensures in
    let inside = inside_to t c.args.from i plain.bounds plain.plain in
    passes_by (Some c.in_ok-behind.behind) _ _ (left_at t) inside.left c.in_ok-behind.ensures.left

pub returns-in_ok-behind-clause-content : goal.returns-in_ok-behind-clause-content
returns-in_ok-behind-clause-content c =
    let t = c.args.text.now in
    let i = c.stop_from-end.result.0 in
    let plain = c.stop_from-end.ensures in
    content_on t c.args.from i (Some c.in_ok-behind.behind) (inside_to t c.args.from i plain.bounds plain.plain) c.in_ok-behind.ensures.content

pub returns-then-c-eq34-clause-closes : goal.returns-then-c-eq34-clause-closes
returns-then-c-eq34-clause-closes c =
    let t = c.args.text.now in
    let i = c.stop_from-end.result.0 in
    let plain = c.stop_from-end.ensures in
    let h = here t i 34 (omega arith) (sym c.stop_from-end.ensures.value ∙ c.if-c-eq34.true) in
    inside_ends t c.args.from i h.0 h.1 (inside_to t c.args.from i plain.bounds plain.plain)

pub returns-in_ok-behind-clause-closes : goal.returns-in_ok-behind-clause-closes
returns-in_ok-behind-clause-closes c =
    let t = c.args.text.now in
    let i = c.stop_from-end.result.0 in
    let plain = c.stop_from-end.ensures in
    mode_on t c.args.from i (Some c.in_ok-behind.behind) (inside_to t c.args.from i plain.bounds plain.plain) c.in_ok-behind.ensures.closes

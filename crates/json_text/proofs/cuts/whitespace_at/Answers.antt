use Rattle.std.proofs.Common.{[], sym, subst}
use Rattle.json_text.specs.Cuts.{ClosesAt, IsBehindMark}
use Rattle.json_text.proofs.Rows.Pieces.{closes_there, copied}
use Rattle.json_text.proofs.cuts.whitespace_at.Goals as goal

pub returns : goal.returns
returns c = λ b given.
    let t = c.as_bytes.result.now in
    let e = c.as_bytes.ensures.value in
    let h = subst (λ u. IsBehindMark u b [] c.args.from) (sym e) given in
    let k = c.whitespace_end.result in
    let starts = c.whitespace_end.ensures.between h.3 in
    let there = closes_there t b c.args.from k h.1 c.whitespace_end.ensures.bounds.0 c.whitespace_end.ensures.bounds.1 h.3 starts c.whitespace_end.ensures.left c.whitespace_end.ensures.stops h.2 in
    subst (λ u. ClosesAt u b c.args.from c.range.result.now) e (subst (ClosesAt t b c.args.from) (sym (copied c.range.result.now t c.args.text.now c.args.from k e c.range.ensures.value)) there)

use Rattle.std.proofs.Common.{refl}
use Rattle.std.proofs.lemmas.Str.{IsCharBoundary-start}
use Rattle.json_text.proofs.Tokens.{whole_found}
use Rattle.json_lexemes.proofs.Trimmed.{trimmed_back, trimmed_end}
use Rattle.json_text.proofs.children.whole.Goals as goal

pub returns-clause-whole : goal.returns-clause-whole
returns-clause-whole c = λ j says.
    let t = c.args.text.now in
    let start = c.whitespace_end-start.result in
    let end = c.last_end-end.result in
    whole_found t j (record { start = start; end = end }) says c.whitespace_end-start.ensures.left c.last_end-end.ensures.left
    (record {
      begins = c.whitespace_end-start.ensures.between refl;
      ends = trimmed_end t j end says c.last_end-end.ensures.closed c.last_end-end.ensures.ended;
      front = c.whitespace_end-start.ensures.stops;
      back = trimmed_back t start end c.last_end-end.ensures.back;
    }) c.last_end-end.ensures.bounds.0 c.last_end-end.ensures.bounds.1

pub returns-clause-within : goal.returns-clause-within
returns-clause-within c = record {
  order = c.last_end-end.ensures.bounds.0;
  fits = c.last_end-end.ensures.bounds.1;
  boundary = λ u. (c.whitespace_end-start.ensures.boundary u (IsCharBoundary-start c.args.text.now u), c.last_end-end.ensures.boundary);
}

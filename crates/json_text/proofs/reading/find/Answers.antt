use Rattle.std.proofs.Common.{◌≡◌, ◌-◌, [], None, take, drop, refl, sym, ap, subst, inr, ◌∙◌, append-nil}
use Rattle.std.proofs.lemmas.Str.{IsCharBoundary-start}
use Rattle.std.specs.Prelude.{IfSome, MatchOption}
use Rattle.jsonptr.specs.Pointers.{tokens_left}
use Rattle.json_lexemes.specs.Spelled.{Says, spelled}
use Rattle.json_text.specs.Pointed.{tree_at, StandsBetween}
use Rattle.json_lexemes.proofs.Steps.{ends-follows, follows}
use Rattle.json_text.specs.Owned.{IsApart}
use Rattle.json_text.proofs.Owned.{apart_places}
use Rattle.json_text.proofs.Ways.{stands_between}
use Rattle.json_text.proofs.reading.find.Goals as goal

pub follow-requires-clause-front : goal.follow-requires-clause-front
follow-requires-clause-front c = record {
  fits = c.whitespace_end-start.ensures.bounds.1;
  begins = c.whitespace_end-start.ensures.between refl;
  solid = c.whitespace_end-start.ensures.stops;
  boundary = λ u. c.whitespace_end-start.ensures.boundary u (IsCharBoundary-start c.as_bytes-bytes.result.now u);
}

pub returns-clause-found : goal.returns-clause-found
returns-clause-found c = λ j says.
    let t = c.as_bytes-bytes.result.now in
    let e = c.as_bytes-bytes.ensures.value in
    let P = tokens_left c.args.path in
    let found = c.in_ok-way.way.found in
    let there : Says t j = subst (λ u. Says u j) (sym e) says in
    let led = c.in_ok-way.ensures.leads j [] (c.whitespace_end-start.ensures.left ∙ there ∙ sym (append-nil (spelled j))) in
    subst (λ u. MatchOption found (tree_at P j ≡ None) (λ s. StandsBetween (take s.start u) (take (s.end - s.start) (drop s.start u)) (drop s.end u) j P)) e (stands_between t j P found there led.0 c.in_ok-way.ensures.on.place)

pub returns-then-is_none-clause-apart : goal.returns-then-is_none-clause-apart
returns-then-is_none-clause-apart c = λ j says.
    let s = c.whole.result in
    subst (λ t. IsApart t s) c.as_bytes-bytes.ensures.value (record { begins = c.whole.ensures.begins; ends = inr (ends-follows (drop s.end c.as_bytes-bytes.result.now) (ap follows c.whole.ensures.ends)) })

pub returns-clause-apart : goal.returns-clause-apart
returns-clause-apart c = λ j says. subst (λ t. IfSome c.in_ok-way.way.found (IsApart t)) c.as_bytes-bytes.ensures.value (apart_places c.as_bytes-bytes.result.now c.in_ok-way.way.found c.in_ok-way.ensures.on.place)

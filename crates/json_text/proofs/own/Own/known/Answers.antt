use Rattle.std.proofs.Common.{◌≡◌, ◌+◌, ◌-◌, false, length, sym, ◌∙◌, subst, arith}
use Rattle.std.proofs.lemmas.List.{get_or_default}
use Rattle.std.proofs.lemmas.Str.{IsCharBoundary-after_ascii, IsCharBoundary-before_ascii}
use Rattle.std.specs.Str.{IsCharBoundary}
use Rattle.json_text.specs.Rows.{IsAhead}
use Rattle.json_text.specs.Owned.{in_whole}
use Rattle.json_text.proofs.Owned.{next_known, own_fits, own_slice}
use Rattle.json_text.proofs.own.Own.known.Goals as goal

pub returns-clause-ahead : goal.returns-clause-ahead
returns-clause-ahead c =
    let t = c.as_bytes-text.result.now in
    let o = c.args.self.now in
    let own = c.requires in
    let i = length o.before.now in
    let s = c.in_ok-step.step in
    let p = c.in_ok-place.place in
    let first = c.whitespace_end-first in
    let start = c.whitespace_end-start in
    let b = c.is_behind.ensures c.if-not-is_behind.false in
    let known = c.in_ok-step.ensures (in_whole o o.text.now) own.places in
    let next : p - 1 + 1 ≡ p = omega (arith, b.0) in
    subst (λ x. IsAhead x false 1 (record { number = s.number; before = p - 1; start = start.result })) c.as_bytes-text.ensures.value (record {
      low = start.ensures.bounds.1;
      solid = start.ensures.stops;
      order = omega (arith, start.ensures.bounds.0);
      passed = omega (arith, c.if-step-place.false, start.ensures.bounds.0);
      boundary = λ u. (
        λ v. IsCharBoundary-before_ascii t (p - 1) (omega (arith, b.0, b.1)) (omega (arith, b.2)),
        λ v. start.ensures.boundary v (subst (IsCharBoundary t) next (IsCharBoundary-after_ascii t (p - 1) v (omega (arith, b.0, b.1)) (omega (arith, b.2)))),
      );
      next = next_known (in_whole o o.text.now) t i (i + length o.text.now) (omega arith) (own_fits o.before.now o.text.now o.behind.now) (c.as_bytes-text.ensures.value ∙ own_slice o.before.now o.text.now o.behind.now) own.apart.begins own.apart.ends s p first.result start.result known.2 known.0 (omega (arith, c.in_ok-place.ensures)) b.0 b.1 b.2 b.3 (omega (arith, c.if-step-eq0.false))
          (get_or_default t 0 0 32 (omega (arith, b.0, b.1)) ∙ sym c.byte_at.ensures.value ∙ c.if-byte_at-ne91.false) first.ensures.left first.ensures.stops (λ z. c.if-byte_at-eq93.false (c.byte_at-else-byte_at-ne91.ensures.value ∙ z))
          start.ensures.left start.ensures.between start.ensures.stops (λ z. c.if-byte_at-eq93-2.false (c.byte_at-else-byte_at-eq93.ensures.value ∙ z));
    })

use Rattle.std.proofs.Common.{◌≡◌, ◌<◌, length, get_or, sym, ◌∙◌, inl, arith}
use Rattle.json_lexemes.proofs.Members.{member_here, has_colon, named_here, passed_here, next_ahead, last_passed, none_ahead, string_ends}
use Rattle.json_lexemes.proofs.values.first_named.Goals as goal

pub returns-in_default-clause-reaches : goal.returns-in_default-clause-reaches
returns-in_default-clause-reaches c = λ ms ls e.
    let t = c.args.text.now in
    let i = c.loop-places.i in
    let quote : get_or t i 32 ≡ 34 = sym c.byte_at.ensures.value ∙ c.loop-places-test.true in
    let here : i < length t = c.byte_at.ensures.within (λ z. absurd (omega (arith, z, c.loop-places-test.true))) in
    absurd (has_colon t c.args.name.now ms ls _ c.string_end.result (member_here t c.args.name.now ms ls i c.string_end.result here quote c.string_end.ensures.left (c.loop-places.invariant.ahead ms ls e)) c.in_default.ensures.none)

pub returns-then-is_name-clause-reaches : goal.returns-then-is_name-clause-reaches
returns-then-is_name-clause-reaches c = λ ms ls e.
    let t = c.args.text.now in
    let i = c.loop-places.i in
    let quote : get_or t i 32 ≡ 34 = sym c.byte_at.ensures.value ∙ c.loop-places-test.true in
    let here : i < length t = c.byte_at.ensures.within (λ z. absurd (omega (arith, z, c.loop-places-test.true))) in
    named_here t c.args.name.now ms ls _ c.string_end.result c.in-Some.start c.is_name.result c.if-is_name.true c.is_name.ensures c.in-Some.ensures.left
    (member_here t c.args.name.now ms ls i c.string_end.result here quote c.string_end.ensures.left (c.loop-places.invariant.ahead ms ls e))

pub returns-then-is_name-clause-place : goal.returns-then-is_name-clause-place
returns-then-is_name-clause-place c =
    let t = c.args.text.now in
    let i = c.loop-places.i in
    let quote : get_or t i 32 ≡ 34 = sym c.byte_at.ensures.value ∙ c.loop-places-test.true in
    let here : i < length t = c.byte_at.ensures.within (λ z. absurd (omega (arith, z, c.loop-places-test.true))) in (
      omega (arith, c.loop-places.invariant.on, c.string_end.ensures.bounds, c.in-Some.ensures.bounds),
      record {
        fits = c.in-Some.ensures.bounds.1;
        begins = c.in-Some.ensures.begins (string_ends t i _ here quote c.loop-places.invariant.mode c.string_end.ensures.mode);
        solid = c.in-Some.ensures.stops;
        boundary = c.in-Some.ensures.boundary;
      },
    )

pub returns-in_default-after-clause-reaches : goal.returns-in_default-after-clause-reaches
returns-in_default-after-clause-reaches c = λ ms ls e.
    let t = c.args.text.now in
    let i = c.loop-places.i in
    let quote : get_or t i 32 ≡ 34 = sym c.byte_at.ensures.value ∙ c.loop-places-test.true in
    let here : i < length t = c.byte_at.ensures.within (λ z. absurd (omega (arith, z, c.loop-places-test.true))) in
    last_passed t c.args.name.now ms ls c.value_end-end.result c.behind.result
    (passed_here t c.args.name.now ms ls _ c.string_end.result c.in-Some.start c.value_end-end.result c.is_name.result c.if-is_name.false c.is_name.ensures c.in-Some.ensures.left c.value_end-end.ensures.left
    (member_here t c.args.name.now ms ls i c.string_end.result here quote c.string_end.ensures.left (c.loop-places.invariant.ahead ms ls e)))
    c.in_default-after.ensures.none c.behind.ensures.left

pub returns-in_default-after-clause-place : goal.returns-in_default-after-clause-place
returns-in_default-after-clause-place c =
    let t = c.args.text.now in
    let i = c.loop-places.i in
    let quote : get_or t i 32 ≡ 34 = sym c.byte_at.ensures.value ∙ c.loop-places-test.true in
    let here : i < length t = c.byte_at.ensures.within (λ z. absurd (omega (arith, z, c.loop-places-test.true))) in
    let begins = c.in-Some.ensures.begins (string_ends t i _ here quote c.loop-places.invariant.mode c.string_end.ensures.mode) in (
      omega (arith, c.loop-places.invariant.on, c.string_end.ensures.bounds, c.in-Some.ensures.bounds, c.value_end-end.ensures.bounds, c.behind.ensures.bounds),
      c.behind.ensures.bounds.1,
      c.behind.ensures.end (c.value_end-end.ensures.end (inl begins)).0,
    )

pub loop-places-preserved : goal.loop-places-preserved
loop-places-preserved c =
    let t = c.args.text.now in
    let i = c.loop-places.i in
    let quote : get_or t i 32 ≡ 34 = sym c.byte_at.ensures.value ∙ c.loop-places-test.true in
    let here : i < length t = c.byte_at.ensures.within (λ z. absurd (omega (arith, z, c.loop-places-test.true))) in
    let begins = c.in-Some.ensures.begins (string_ends t i _ here quote c.loop-places.invariant.mode c.string_end.ensures.mode) in
    record {
      on = omega (arith, c.loop-places.invariant.on, c.string_end.ensures.bounds, c.in-Some.ensures.bounds, c.value_end-end.ensures.bounds, c.in-Some-after.ensures.bounds);
      low = c.in-Some-after.ensures.bounds.1;
      stops = c.in-Some-after.ensures.stops;
      mode = c.in-Some-after.ensures.begins (c.value_end-end.ensures.end (inl begins)).0;
      ahead = λ ms ls e.
          next_ahead t c.args.name.now ms ls c.value_end-end.result c.in-Some-after.next
          (passed_here t c.args.name.now ms ls _ c.string_end.result c.in-Some.start c.value_end-end.result c.is_name.result c.if-is_name.false c.is_name.ensures c.in-Some.ensures.left c.value_end-end.ensures.left
          (member_here t c.args.name.now ms ls i c.string_end.result here quote c.string_end.ensures.left (c.loop-places.invariant.ahead ms ls e)))
          c.in-Some-after.ensures.left;
    }

pub returns-clause-reaches : goal.returns-clause-reaches
returns-clause-reaches c = λ ms ls e.
    none_ahead c.args.text.now c.args.name.now ms ls c.loop-places.i c.behind-2.result c.loop-places.invariant.stops (λ q. c.loop-places-test.false (c.byte_at.ensures.value ∙ q)) c.behind-2.ensures.left (c.loop-places.invariant.ahead ms ls e)

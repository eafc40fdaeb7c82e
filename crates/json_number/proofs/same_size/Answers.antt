use Rattle.std.proofs.Common.{arith, ◌≡◌, ◌+◌, length, sym, ap, ap₂, ◌∙◌}
use Rattle.fast_float.specs.Text.{tens_up, tens_down}
use Rattle.std.specs.Str.Parse.{digits_value}
use Rattle.json_number.specs.Digits.{digits}
use Rattle.json_number.proofs.Fronts.{front_all, false_test}
use Rattle.json_number.proofs.Powers.{cut, sizes_apart, sizes_by, places_by, up_is, down_is}
use Rattle.json_number.proofs.same_size.Goals as goal

pub returns-then-not-same_front : goal.returns-then-not-same_front
returns-then-not-same_front c =
    sizes_apart _ _ _ _ _ _ _ _ _ _ (cut _ _ _ _ _ _ (sym (front_all (digits c.args.p.now)) ∙ c.zeros-i.ensures.cut) (sym (front_all (digits c.args.q.now)) ∙ c.zeros-j.ensures.cut) c.zeros-i.ensures.bare c.zeros-j.ensures.bare)
    (sym c.same_front.ensures ∙ c.if-not-same_front.true)

pub returns : goal.returns
returns c =
    let p = c.args.p.now in
    let q = c.args.q.now in
    let up_p : digits_value 10 c.raising.result.now ≡ tens_up p = ap (digits_value 10) c.raising.ensures.value ∙ up_is p in
    let up_q : digits_value 10 c.raising-2.result.now ≡ tens_up q = ap (digits_value 10) c.raising-2.ensures.value ∙ up_is q in
    let down_q : length c.fraction.result.now + digits_value 10 c.lowering.result.now ≡ tens_down q =
    ap₂ (λ f e. length f + digits_value 10 e) c.fraction.ensures.value c.lowering.ensures.value ∙ down_is q in
    let down_p : length c.fraction-2.result.now + digits_value 10 c.lowering-2.result.now ≡ tens_down p =
    ap₂ (λ f e. length f + digits_value 10 e) c.fraction-2.ensures.value c.lowering-2.ensures.value ∙ down_is p in
    sizes_by _ _ _ _ c.zeros-i.result c.zeros-j.result (tens_up p) (tens_down q) (tens_up q) (tens_down p) c.same_sums.result
    (cut _ _ _ _ _ _ (sym (front_all (digits p)) ∙ c.zeros-i.ensures.cut) (sym (front_all (digits q)) ∙ c.zeros-j.ensures.cut) c.zeros-i.ensures.bare c.zeros-j.ensures.bare)
    (sym c.same_front.ensures ∙ c.if-not-same_front.false)
    (c.zeros-i.ensures.all ∙ false_test _ _ (λ e. c.if-i-count.false (e ∙ sym c.count.ensures.value)))
    (places_by _ _ _ _ _ _ _ _ _ _ c.same_sums.result c.same_sums.ensures (omega arith) (omega arith))

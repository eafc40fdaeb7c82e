use Rattle.std.proofs.Common.{◌≡◌, ◌-◌, ◌++◌, take, ap, ap₂, ◌∙◌, arith}
use Rattle.json_text.specs.Owned.{in_whole}
use Rattle.json_text.proofs.Owned.{joined}
use Rattle.json_text.proofs.own.Own.spliced.Goals as goal

pub returns : goal.returns
returns c =
    let o = c.args.self.now in
    let put = c.args.put in
    let zero : c.args.cut.start - 0 ≡ c.args.cut.start = omega arith in
    joined o.before.now c.range.result.now put.0.now put.1.now put.2.now c.range_from.result.now o.behind.now _ _ _ _ _ _ _ _
    c.in_ok-new.ensures.bytes c.in_ok-push_str.ensures.bytes c.in_ok-push_str-2.ensures.bytes c.in_ok-push_str-3.ensures.bytes c.in_ok-push_str-4.ensures.bytes c.in_ok-push_str-5.ensures.bytes c.in_ok-push_str-6.ensures.bytes c.in_ok-push_str-7.ensures.bytes
    ∙ ap₂ (λ x y. in_whole o (x ++ (put.0.now ++ (put.1.now ++ (put.2.now ++ y))))) (c.range.ensures.value ∙ ap (λ n. take n o.text.now) zero) c.range_from.ensures.value

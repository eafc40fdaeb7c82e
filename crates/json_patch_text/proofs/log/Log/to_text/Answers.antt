use Rattle.std.proofs.Common.{◌≡◌, ◌∙◌, ◌++◌, ◌∷◌, [], length, string_bytes, ap, arith}
use Rattle.json_patch_text.proofs.Logged.{written_first, written_more}
use Rattle.json_patch_text.proofs.log.Log.to_text.Goals as goal

pub loop-number-init : goal.loop-number-init
loop-number-init c =
    let count : c.len-count.result ≡ length c.args.self.now.texts.items = omega arith in
    written_first c.args.self.now.texts.items c.len-count.result (string_bytes c.push_str.new.self) count (c.in_ok-push_str.ensures.bytes ∙ ap (λ s. s ++ 91 ∷ []) c.in_ok-text.ensures.bytes)

pub loop-number-preserved : goal.loop-number-preserved
loop-number-preserved c =
    let count : c.len-count.result ≡ length c.args.self.now.texts.items = omega arith in
    written_more c.args.self.now.texts.items c.len-count.result c.loop-number.number c.index.result.now (string_bytes c.loop-number.text) c.comma.result.now (string_bytes c.push_str-in-loop-number-2.new.self) count c.loop-number-test.true c.loop-number.invariant c.comma.ensures c.index.ensures
    (c.in_ok-push_str-3.ensures.bytes ∙ ap (λ s. s ++ c.as_str.result.now) c.in_ok-push_str-2.ensures.bytes ∙ ap (λ s. (string_bytes c.loop-number.text ++ c.comma.result.now) ++ s) c.as_str.ensures.value)

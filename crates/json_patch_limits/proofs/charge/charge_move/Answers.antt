use Rattle.json_patch_limits.proofs.Common.{◌<◌, ◌∙◌, ap, arith, length, view, pointee, tokens_of}
use Rattle.json_patch_edit.specs.Marked.{seen}
use Rattle.json_patch_limits.proofs.Charges.{move_charged}
use Rattle.json_patch_limits.proofs.charge.charge_move.Goals as goal

pub returns : goal.returns
returns c =
    let d = seen (view c.args.doc.now) in let v = view c.in-Some.value.now in let P = tokens_of c.args.path in let F = tokens_of c.args.from in
    let less : length F < length P = omega arith in
    move_charged c.args.limits F P d v c.charge_put.result less (c.in-Some.ensures.found ∙ ap (pointee d) c.tokens.ensures.value) c.in-Some.ensures.value c.charge_put.ensures

use Rattle.json_patch_limits.proofs.Common.{◌≡◌, ◌+◌, ◌∙◌, Some, ap, rules, length, view, pointee, tokens_of}
use Rattle.serde_json.specs.Data.{depth}
use Rattle.json_patch_limits.specs.OverLimits.{reach_at, size, size_at}
use Rattle.json_patch_edit.specs.Marked.{seen}
use Rattle.json_patch_limits.proofs.Charges.{charged_both, charged_deep, found_reach, found_size}
use Rattle.json_patch_limits.proofs.charge.charge_copy.Goals as goal

pub returns-in_err-left : goal.returns-in_err-left
returns-in_err-left c =
    let d = seen (view c.args.doc.now) in let v = view c.in-Some.value.now in let P = tokens_of c.args.path in let F = tokens_of c.args.from in
    let found : Some (seen v) ≡ pointee d F = c.in-Some.ensures.found ∙ ap (pointee d) c.tokens.ensures.value in
    let reach : reach_at P (pointee d F) ≡ length P + depth v = found_reach P F d v found c.in-Some.ensures.value in
    rw reach (charged_deep c.args.limits (length P + depth v) (size_at (pointee d F)) c.from_residual.result c.in_err-left.field-0.0 (search rules) c.in_err-left.ensures)

pub returns : goal.returns
returns c =
    let d = seen (view c.args.doc.now) in let v = view c.in-Some.value.now in let P = tokens_of c.args.path in let F = tokens_of c.args.from in
    let found : Some (seen v) ≡ pointee d F = c.in-Some.ensures.found ∙ ap (pointee d) c.tokens.ensures.value in
    let reach : reach_at P (pointee d F) ≡ length P + depth v = found_reach P F d v found c.in-Some.ensures.value in
    let sizes : size_at (pointee d F) ≡ size (seen v) = found_size F d v found in
    rw (reach, sizes) (charged_both c.args.limits c.in_ok-left.left (length P + depth v) (size (seen v)) c.charge_copied.result c.in_ok-left.ensures c.charge_copied.ensures)

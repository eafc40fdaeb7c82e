use Rattle.json_patch.proofs.Common.{◌≡◌, ◌+◌, ◌∙◌, Ok, Some, null, arith, sym, ap, view, pointee, tokens_of}
use Rattle.json_patch.proofs.MarkedCounts.{sweep_counts}
use Rattle.json_patch.proofs.MarkedEdits.{exchange_unseen}
use Rattle.json_patch_edit.specs.MarkedComputed.{marks}
use Rattle.json_patch_edit.specs.declared.edits.Edit.TheVariants.{Sweep}
use Rattle.json_patch.proofs.clearing.sweep.Goals as goal

pub returns-in-Ok-clause-cleared : goal.returns-in-Ok-clause-cleared
returns-in-Ok-clause-cleared c = exchange_unseen (Ok c.in-Ok._found) Sweep null (view c.args.doc.now) (view c.make.new.doc) (view c.make.new.value) (tokens_of c.in-Some.shared) tt c.requires c.in-Ok.ensures.makes

pub returns-in-Ok-clause-fewer : goal.returns-in-Ok-clause-fewer
returns-in-Ok-clause-fewer c =
    let stands : pointee (view c.args.doc.now) (tokens_of c.in-Some.shared) ≡ Some (view c.in-Some-find.part.now) = sym (c.in-Some-find.ensures ∙ ap (pointee (view c.args.doc.now)) c.tokens.ensures.value) in
    let swept : marks (view c.make.new.doc) + marks (view c.in-Some-find.part.now) ≡ marks (view c.args.doc.now) = sweep_counts null (view c.args.doc.now) (view c.make.new.doc) (view c.in-Some-find.part.now) (tokens_of c.in-Some.shared) c.requires.0 c.requires.1 stands c.in-Ok.ensures.makes.0 in
    omega (arith, c.count_marks-count.ensures)

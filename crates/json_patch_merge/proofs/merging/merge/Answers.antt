use Rattle.json_patch_merge.proofs.Common.{rules, refl, sym, ap, ◌∙◌, Object, the_lemmas, Ok, Err, IsDocument, subst, Filled}
use Rattle.json_patch_merge.proofs.MergeFills.{of_objects, other_value, filled_whole}
use Rattle.json_patch_merge.proofs.merging.merge.Goals.{in-Object+in_default-doc, in_default}
use Rattle.json_patch_merge.proofs.merging.merge.Goals as goal

pub returns-in_err-fill-clause-unchanged : goal.returns-in_err-fill-clause-unchanged
returns-in_err-fill-clause-unchanged c = search (rules, the_lemmas, of_objects (Err c.in_err-fill.field-0.0))

pub returns-in_err-fill-clause-document : goal.returns-in_err-fill-clause-document
returns-in_err-fill-clause-document c = subst IsDocument (sym (of_objects (Err c.in_err-fill.field-0.0) _ _ _ _ c.fill.new.members c.in-Object.changes (c.in-Object-doc.is ∙ ap Object (sym c.in-Object-doc.members-is)) (search (rules, the_lemmas)) c.in-Object.is c.in_err-fill.ensures c.requires.document c.requires.whole)) c.requires.document

pub returns-in-Object-doc : goal.returns-in-Object-doc
returns-in-Object-doc c =
    let r = of_objects (Ok (Filled c.in_ok-fill.field-0)) _ _ _ _ c.fill.new.members c.in-Object.changes (c.in-Object-doc.is ∙ ap Object (sym c.in-Object-doc.members-is)) refl c.in-Object.is c.in_ok-fill.ensures c.requires.document c.requires.whole in
    let e = c.finish.ensures (search rules) c.requires.whole in
    record { merged = e.1 _ (search rules); unchanged = search rules; document = e.0 }

pub returns-clause-merged : goal.returns-clause-merged
returns-clause-merged c =
    let r = filled_whole c.args.doc.now c.args.patch.now c.in_ok-doc.field-0 c.args.doc.now
    (elim c.match-patch.branch [
      | in-Object+in_default-doc w ↦ λ named. other_value c.args.doc.now w.in_default-doc.not-Object
      | in_default w ↦ λ named. absurd (other_value c.args.patch.now w.in_default.not-Object named)
    ])
    c.in_ok-doc.ensures.cases refl c.requires.whole in
    (c.finish-2.ensures r.1 c.requires.whole).1 _ r.0

use Rattle.json_patch.proofs.Common.{◌≡◌, ◌+◌, ◌<◌, ◌++◌, ◌∙◌, inl, inr, Ok, Vec, Global, length, refl, sym}
use Rattle.json_patch.proofs.Common.{ap, rules, arith, [], ⊎_elim, view, operation_of, block, PatchOperation}
use Rattle.std.proofs.lemmas.Bool.{eqb-true}
use Rattle.std.proofs.lemmas.List.{nil_from_length}
use Rattle.json_patch.proofs.LimitedStates.{never_unlimited, reported_never, rest_end, rest_first, rest_more, rest_over}
use Rattle.json_patch.proofs.LoggedEdits.{document_marks, logs_kept, logs_tell}
use Rattle.json_patch.proofs.LoggedRuns.{kept_alone, kept_inverse, kept_last, kept_open}
use Rattle.json_patch_edit.proofs.MarkedRuns.{document_seen, document_value}
use Rattle.json_patch.proofs.ProgramRuns.{free_at, inverse_more, not_stopped, reported_names, state_document, test_at}
use Rattle.json_patch.proofs.ProgramRuns.{state_more, whole_at}
use Rattle.json_patch.proofs.Common.{◌≤◌, None, Some, operations}
use Rattle.json_patch_limits.specs.OverLimitsComputed.{over_at, over_under}
use Rattle.json_patch.specs.Logged.{Tells, is_recorded}
use Rattle.json_patch_edit.specs.Marked.{seen}
use Rattle.json_patch_edit.specs.MarkedComputed.{marks}
use Rattle.json_patch.proofs.run.run.Goals as goal

pub loop-number-init : goal.loop-number-init
loop-number-init c =
    let d = view c.args.doc.now in
    record {
      state = sym (document_seen d c.requires.document);
      marked = document_value d c.requires.document;
      counts = (let none : marks d ≡ 0 = document_marks d c.requires.document in rw (c.new-log.ensures, none) (omega arith));
      says = λ is. rw c.new-log.ensures refl;
      roomy = rw c.new-log.ensures tt;
      count = rw c.new-log.ensures (omega arith);
      leads = λ h. rw c.new-log.ensures refl;
      within = rw (document_seen d c.requires.document) (rest_first (is_recorded c.args.keep) c.args.limits d c.args.patch.now);
      tests = λ h less. c.new-log.ensures;
    }

pub step-requires-clause-document : goal.step-requires-clause-document
step-requires-clause-document c = state_document (view c.args.doc.now) (seen (view c.loop-number.doc)) c.args.patch.now c.loop-number.number c.requires.document c.requires.whole c.loop-number.invariant.state

-- where nothing is logged, the document is the first one
pub step-requires-clause-alone : goal.step-requires-clause-alone
step-requires-clause-alone c = λ nothing.
    let first = kept_alone c.args.keep c.at-kept.result _ _ c.at-kept.ensures c.requires.kept nothing in
    let count = eqb-true _ _ (sym c.is_empty.ensures ∙ first) in
    let none : c.loop-number.log.changes.items ≡ [] = nil_from_length _ (omega (arith, count)) in
    let same = rw none at c.loop-number.invariant.leads (inl c.loop-number-test.true) in
    rw same c.requires.document

pub step-requires-clause-whole : goal.step-requires-clause-whole
step-requires-clause-whole c = whole_at c.args.patch.now c.loop-number.number c.index-patch-number.result c.loop-number-test.true c.index-patch-number.is c.requires.whole

pub returns-in-Err-step-clause-refused : goal.returns-in-Err-step-clause-refused
returns-in-Err-step-clause-refused c =
    reported_names (Vec PatchOperation Global) c.reported.result c.in-Err-step.fault (view c.args.doc.now) (seen (view c.loop-number.doc)) (seen (view c.step.new.doc)) c.args.patch.now c.loop-number.number c.index-patch-number.result
    c.requires.document c.requires.whole c.loop-number-test.true c.index-patch-number.is c.loop-number.invariant.state c.in-Err-step.ensures.comes c.reported.ensures

pub returns-in-Err-step-clause-no_memory : goal.returns-in-Err-step-clause-no_memory
returns-in-Err-step-clause-no_memory c = λ is none tests e end.
    absurd (not_stopped c.in-Err-step.fault (view c.args.doc.now) (seen (view c.loop-number.doc)) (seen (view c.step.new.doc)) e c.args.patch.now c.loop-number.number c.index-patch-number.result
    c.requires.document c.requires.whole c.loop-number-test.true c.index-patch-number.is c.loop-number.invariant.state c.in-Err-step.ensures.comes
    (c.in-Err-step.ensures.no_memory (free_at c.args.patch.now c.loop-number.number c.index-patch-number.result c.at-kept.result c.loop-number-test.true c.index-patch-number.is (λ last. kept_last c.args.keep c.at-kept.result _ _ c.at-kept.ensures is (search (rules, arith, last)) (search (rules, arith, c.loop-number.invariant.tests tests c.loop-number-test.true))) tests)) end)

pub returns-in-Err-clause-over : goal.returns-in-Err-clause-over
returns-in-Err-clause-over c =
    rest_over (is_recorded c.args.keep) c.args.limits c.loop-number.limits (view c.args.doc.now) (seen (view c.loop-number.doc)) c.in-Err.kind c.args.patch.now c.loop-number.number c.index-patch-number.result c.loop-number-test.true c.index-patch-number.is c.loop-number.invariant.within (rw c.is_recorded.ensures at c.in-Err.ensures)

pub returns-in-Err-clause-no_memory : goal.returns-in-Err-clause-no_memory
returns-in-Err-clause-no_memory c = λ is none tests e end.
    let over : over_under (is_recorded c.args.keep) c.args.limits (view c.args.doc.now) (operations c.args.patch.now) ≡ Some (over_at c.loop-number.number c.in-Err.kind) =
    rest_over (is_recorded c.args.keep) c.args.limits c.loop-number.limits (view c.args.doc.now) (seen (view c.loop-number.doc)) c.in-Err.kind c.args.patch.now c.loop-number.number c.index-patch-number.result c.loop-number-test.true c.index-patch-number.is c.loop-number.invariant.within (rw c.is_recorded.ensures at c.in-Err.ensures) in
    let never : over_under (is_recorded c.args.keep) c.args.limits (view c.args.doc.now) (operations c.args.patch.now) ≡ None = never_unlimited (is_recorded c.args.keep) c.args.limits _ _ none in cc

pub returns-in-Err-step-clause-never : goal.returns-in-Err-step-clause-never
returns-in-Err-step-clause-never c =
    reported_never (is_recorded c.args.keep) (Vec PatchOperation Global) c.reported.result c.in-Err-step.fault c.args.limits c.loop-number.limits c.in-Ok.left (view c.args.doc.now) (seen (view c.loop-number.doc)) (seen (view c.step.new.doc)) c.args.patch.now c.loop-number.number c.index-patch-number.result
    c.loop-number-test.true c.index-patch-number.is c.loop-number.invariant.within (rw c.is_recorded.ensures at c.in-Ok.ensures) c.in-Err-step.ensures.comes c.reported.ensures

pub returns-clause-never : goal.returns-clause-never
returns-clause-never c =
    let ended : length c.args.patch.now ≤ c.loop-number.number = omega arith in
    rest_end (is_recorded c.args.keep) c.args.limits c.loop-number.limits (view c.args.doc.now) (seen (view c.loop-number.doc)) c.args.patch.now c.loop-number.number ended c.loop-number.invariant.within

pub loop-number-preserved : goal.loop-number-preserved
loop-number-preserved c =
    let d = view c.args.doc.now in let m = seen (view c.loop-number.doc) in let os = c.args.patch.now in let k = c.loop-number.number in let o = c.index-patch-number.result in
    let told : Tells c.loop-number.log c.step.new.self (view c.loop-number.doc) (view c.step.new.doc) = logs_tell (Ok c.in_default.field-0) c.at-kept.result c.loop-number.log c.step.new.self (view c.loop-number.doc) (view c.step.new.doc) c.in_default.ensures.logs in
    record {
      state = state_more d m (seen (view c.step.new.doc)) os k o c.requires.document c.requires.whole c.loop-number-test.true c.index-patch-number.is c.loop-number.invariant.state c.in_default.ensures.comes;
      marked = c.in_default.ensures.marked;
      counts = omega (arith, c.loop-number.invariant.counts, told.counts);
      roomy = told.roomy c.loop-number.invariant.roomy;
      count = omega (arith, c.loop-number.invariant.count, told.longer);
      says = λ is.
          c.in_default.ensures.keeps (c.at-kept.ensures ∙ kept_inverse c.args.keep _ _ is) ∙ ap (λ x. block m (operation_of o) ++ x) (c.loop-number.invariant.says is)
          ∙ inverse_more d m (seen (view c.step.new.doc)) os k o c.requires.document c.requires.whole c.loop-number-test.true c.index-patch-number.is c.loop-number.invariant.state c.in_default.ensures.comes;
      leads = λ h. (let l = logs_kept (Ok c.in_default.field-0) c.at-kept.result c.loop-number.log c.step.new.self (view c.loop-number.doc) (view c.step.new.doc)
          (kept_open c.args.keep c.at-kept.result _ _ c.at-kept.ensures c.requires.kept (⊎_elim (λ (more : k + 1 < length os). inl (search (rules, arith, more))) (λ is. inr is) h)) c.in_default.ensures.logs in
          l.leads d (c.loop-number.invariant.leads (inl c.loop-number-test.true)));
      within = rest_more (is_recorded c.args.keep) c.args.limits c.loop-number.limits c.in-Ok.left d m (seen (view c.step.new.doc)) os k o c.loop-number-test.true c.index-patch-number.is c.loop-number.invariant.within (rw c.is_recorded.ensures at c.in-Ok.ensures) c.in_default.ensures.comes;
      tests = λ h less. c.in_default.ensures.rests (test_at os k o less c.index-patch-number.is h) ∙ c.loop-number.invariant.tests h c.loop-number-test.true;
    }

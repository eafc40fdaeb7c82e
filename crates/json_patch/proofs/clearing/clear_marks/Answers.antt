use Rattle.json_patch.proofs.Common.{◌≡◌, arith, view}
use Rattle.json_patch.proofs.LoggedRuns.{all_gone, seen_through}
use Rattle.json_patch_edit.specs.Marked.{seen}
use Rattle.json_patch_edit.specs.MarkedComputed.{marks}
use Rattle.json_patch.proofs.clearing.clear_marks.Goals as goal

pub returns-then-left-eq0 : goal.returns-then-left-eq0
returns-then-left-eq0 c =
    let none : marks (view c.clear_places-left.new.doc) ≡ 0 = omega (arith, c.clear_places-left.ensures.left) in
    all_gone (view c.clear_places-left.new.doc) (view c.args.doc.now) c.clear_places-left.ensures.cleared none

pub returns-then-left-eq0-2 : goal.returns-then-left-eq0-2
returns-then-left-eq0-2 c =
    let none : marks (view c.clear_followed-left.new.doc) ≡ 0 = omega (arith, c.clear_followed-left.ensures.left) in
    all_gone (view c.clear_followed-left.new.doc) (view c.args.doc.now)
    (seen_through (view c.clear_places-left.new.doc) (view c.clear_followed-left.new.doc) (seen (view c.args.doc.now)) c.clear_followed-left.ensures.cleared c.clear_places-left.ensures.cleared) none

pub returns-else-left-gt0 : goal.returns-else-left-gt0
returns-else-left-gt0 c =
    let none : marks (view c.sweep.new.doc) ≡ 0 = omega (arith, c.clear_followed-left.ensures.left, c.sweep.ensures.fewer) in
    let followed = seen_through (view c.clear_places-left.new.doc) (view c.clear_followed-left.new.doc) (seen (view c.args.doc.now)) c.clear_followed-left.ensures.cleared c.clear_places-left.ensures.cleared in
    all_gone (view c.sweep.new.doc) (view c.args.doc.now)
    (seen_through (view c.clear_followed-left.new.doc) (view c.sweep.new.doc) (seen (view c.args.doc.now)) c.sweep.ensures.cleared followed) none

use Rattle.json_patch_edit.proofs.Common.{rules, refl, ap, sym, ◌∙◌, Array, Object, the_lemmas, view, token_of}
use Rattle.json_patch_edit.proofs.MarkedContainers.{marked_at_member, marked_at_item}
use Rattle.json_patch_edit.proofs.Exchanges.{fits_more, fitting_below, exchanges_to_member, exchanges_to_item}
use Rattle.json_patch_edit.proofs.Exchanges.{exchanges_with_no_member, exchanges_with_no_item}
use Rattle.json_patch_edit.proofs.Unmarked.{unmarked_at_member, unmarked_at_item}
use Rattle.json_patch_edit.proofs.edits.+edit_at.Goals as goal

pub returns-in_default-get_mut-clause-makes : goal.returns-in_default-get_mut-clause-makes
returns-in_default-get_mut-clause-makes t c =
    let none = exchanges_with_no_member c.args.last.edit (token_of c.in-Some.token) (token_of c.args.last.token) _ _ c.args.target.now _ (view c.args.value.now) c.in-Some.ensures.steps _ _ (c.in-Object.is ∙ ap Object (sym c.in-Object.members-is)) (search (rules, the_lemmas)) (rw c.name.ensures at c.in_default-get_mut.ensures.value) c.get_mut.follows.holds-at-none in
    ((refl, none.0), none.1, refl)

pub edit_at-requires : goal.edit_at-requires
edit_at-requires t c = (
  search (rules, the_lemmas),
  (
    marked_at_member (token_of c.in-Some.token) _ _ _ c.in-Some-get_mut.child.now c.requires.marked (c.in-Object.is ∙ ap Object (sym c.in-Object.members-is)) (rw c.name.ensures at c.in-Some-get_mut.ensures.value) refl,
    unmarked_at_member c.args.last.edit (token_of c.in-Some.token) _ _ _ c.in-Some-get_mut.child.now c.requires.unmarked (c.in-Object.is ∙ ap Object (sym c.in-Object.members-is)) (rw c.name.ensures at c.in-Some-get_mut.ensures.value) refl,
  ),
)

pub returns-in_err-index-in-Array-clause-makes : goal.returns-in_err-index-in-Array-clause-makes
returns-in_err-index-in-Array-clause-makes t c =
    exchanges_with_no_item c.args.last.edit (token_of c.in-Some.token) (token_of c.args.last.token) _ _ c.args.target.now _ _ c.in-Some.ensures.steps _ _ _ c.len.result (c.in-Array.is ∙ ap Array (sym c.in-Array.items-is)) (search (rules, the_lemmas)) c.len.ensures c.from_residual-in_err-index-in-Array.ensures c.in_err-index-in-Array.ensures.0 c.in_err-index-in-Array.ensures.1

pub edit_at-requires-in-Array : goal.edit_at-requires-in-Array
edit_at-requires-in-Array t c = (
  search (rules, the_lemmas),
  (
    marked_at_item (token_of c.in-Some.token) _ _ c.len.result c.in_ok-index-in-Array.index c.index_mut.result.now c.requires.marked (c.in-Array.is ∙ ap Array (sym c.in-Array.items-is)) c.len.ensures c.in_ok-index-in-Array.ensures c.index_mut.ensures.value,
    unmarked_at_item c.args.last.edit (token_of c.in-Some.token) _ _ c.len.result c.in_ok-index-in-Array.index c.index_mut.result.now c.requires.unmarked (c.in-Array.is ∙ ap Array (sym c.in-Array.items-is)) c.len.ensures c.in_ok-index-in-Array.ensures c.index_mut.ensures.value,
  ),
)

pub returns-in-Some-get_mut-clause-makes : goal.returns-in-Some-get_mut-clause-makes
returns-in-Some-get_mut-clause-makes t c =
    exchanges_to_member _ c.args.last.edit (token_of c.in-Some.token) (token_of c.args.last.token) _ _ c.args.target.now _ _ _ c.in-Some.ensures.steps _ (c.get_mut.follows.lender c.edit_at.new.target) c.in-Some-get_mut.child.now c.edit_at.new.target
    (c.in-Object.is ∙ ap Object (sym c.in-Object.members-is)) (search (rules, the_lemmas)) c.get_mut.ensures.ordered (rw c.name.ensures at c.in-Some-get_mut.ensures.value) (rw c.name.ensures at (c.get_mut.follows.holds c.edit_at.new.target).0) c.edit_at.ensures.makes

pub returns-in-Some-get_mut-clause-no_memory : goal.returns-in-Some-get_mut-clause-no_memory
returns-in-Some-get_mut-clause-no_memory t c light fit last =
    c.edit_at.ensures.no_memory light (fitting_below _ _ (token_of c.in-Some.token) _ _ c.in-Some.ensures.steps c.decode.ensures.grows fit) (fits_more _ _ (token_of c.args.last.token) c.decode.ensures.grows last)

pub returns-in_ok-index-in-Array-clause-makes : goal.returns-in_ok-index-in-Array-clause-makes
returns-in_ok-index-in-Array-clause-makes t c =
    exchanges_to_item _ c.args.last.edit (token_of c.in-Some.token) (token_of c.args.last.token) _ _ c.args.target.now _ _ _ c.in-Some.ensures.steps _ c.len.result c.in_ok-index-in-Array.index c.index_mut.result.now c.edit_at-in-Array.new.target
    (c.in-Array.is ∙ ap Array (sym c.in-Array.items-is)) (search (rules, the_lemmas)) c.len.ensures c.in_ok-index-in-Array.ensures c.index_mut.ensures.value c.edit_at-in-Array.ensures.makes

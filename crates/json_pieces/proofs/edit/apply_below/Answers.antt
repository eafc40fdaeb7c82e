use Rattle.std.proofs.Common.{[], ◌∙◌, ap, refl, rules, subst, sym}
use Rattle.std.proofs.lemmas.Result.{on_err_weaker}
use Rattle.std.specs.Box.{with_value}
use Rattle.json_pieces.specs.Edits.{Makes}
use Rattle.json_pieces.specs.Held.{held}
use Rattle.json_pieces.specs.Logged.{IsStepped}
use Rattle.json_pieces.specs.Nodes.{IsSound, row_view}
use Rattle.json_pieces.specs.declared.node.Node.{the_lemmas}
use Rattle.json_pieces.proofs.Stepped.{both_through, stepped_after}
use Rattle.json_pieces.proofs.Walks.{open_grown, open_sound, open_text, open_whole, row_made_at}
use Rattle.json_pieces.proofs.edit.apply_below.Goals as goal

pub apply_in-requires-clause-sound : goal.apply_in-requires-clause-sound
apply_in-requires-clause-sound c = subst (λ r. IsSound (row_view r)) (sym (c.deref_mut.ensures.value ∙ ap (λ b. b.value) c.in-Open.row-is)) (open_sound c.open.new.node c.in-Open.row c.in-Open.is c.in_ok-open.ensures.whole)

pub returns-clause-whole : goal.returns-clause-whole
returns-clause-whole c = open_whole _ (with_value c.in-Open.row c.apply_in.new.row) (search (rules, the_lemmas)) c.apply_in.ensures.sound

pub returns-clause-grown : goal.returns-clause-grown
returns-clause-grown c =
    open_grown c.args.node.now c.open.new.node _ c.deref_mut.result.now c.in-Open.row (with_value c.in-Open.row c.apply_in.new.row) c.in_ok-open.ensures.text (c.deref_mut.ensures.value ∙ ap (λ b. b.value) c.in-Open.row-is) c.in-Open.is (search (rules, the_lemmas)) c.args.work.now.means.room
    (subst (λ r. IsSound (row_view r)) (sym (c.deref_mut.ensures.value ∙ ap (λ b. b.value) c.in-Open.row-is)) (open_sound c.open.new.node c.in-Open.row c.in-Open.is c.in_ok-open.ensures.whole)) c.apply_in.ensures.sound c.apply_in.ensures.grown

pub returns-clause-unchanged : goal.returns-clause-unchanged
returns-clause-unchanged c =
    on_err_weaker c.apply_in.result (open_text c.args.node.now c.open.new.node _ c.deref_mut.result.now c.in-Open.row (with_value c.in-Open.row c.apply_in.new.row) c.in_ok-open.ensures.text (c.deref_mut.ensures.value ∙ ap (λ b. b.value) c.in-Open.row-is) c.in-Open.is (search (rules, the_lemmas))) c.apply_in.ensures.unchanged

pub returns-clause-makes : goal.returns-clause-makes
returns-clause-makes c =
    row_made_at c.apply_in.result (λ P found text j new. Makes c.args.edit text j P new found) c.args.node.now c.open.new.node _ c.deref_mut.result.now c.in-Open.row (with_value c.in-Open.row c.apply_in.new.row) [] [] refl c.in_ok-open.ensures.text (c.deref_mut.ensures.value ∙ ap (λ b. b.value) c.in-Open.row-is) c.in-Open.is (search (rules, the_lemmas)) c.apply_in.ensures.makes

pub returns-clause-led : goal.returns-clause-led
returns-clause-led c = λ on.
    stepped_after c.apply_in.new.work.steps.items (held c.args.node.now) (held c.open.new.node) _ c.in_ok-open.ensures.finer
    (both_through (IsStepped c.apply_in.new.work.steps.items) c.open.new.node _ c.in-Open.row (with_value c.in-Open.row c.apply_in.new.row) c.deref_mut.result.now c.in-Open.is (search (rules, the_lemmas)) (c.deref_mut.ensures.value ∙ ap (λ b. b.value) c.in-Open.row-is) (c.apply_in.ensures.led on))

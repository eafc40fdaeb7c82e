use Rattle.std.proofs.Common.{[], ◌∙◌, ◌≡◌, ap, arith, subst, true}
use Rattle.std.proofs.lemmas.Result.{IfOk-weaker}
use Rattle.json_pieces.specs.Held.{held}
use Rattle.json_pieces.specs.Logged.{IsLed}
use Rattle.json_pieces.specs.Logs.{is_on}
use Rattle.json_pieces.specs.Nodes.{text_bytes, tree_text, view}
use Rattle.json_pieces.proofs.Calls.{made_around}
use Rattle.json_pieces.proofs.Kept.{edited_back, edited_can, ready_are, ready_back}
use Rattle.json_pieces.proofs.Logs.{grown_fits}
use Rattle.json_pieces.proofs.pieces.Pieces.edit.Goals as goal

pub returns-in_err-ready-clause-pieces : goal.returns-in_err-ready-clause-pieces
returns-in_err-ready-clause-pieces c = ready_are c.args.self.now c.ready.new.self c.ready.ensures.same c.requires.pieces

pub returns-in_err-ready-clause-back : goal.returns-in_err-ready-clause-back
returns-in_err-ready-clause-back c = ready_back c.args.self.now c.ready.new.self c.ready.ensures.same

pub returns-clause-pieces : goal.returns-clause-pieces
returns-clause-pieces c =
    let p = c.requires.pieces in
    let s = c.args.self.now in
    let work = c.edit_at-found.new.work in
    let led : is_on c.ready.new.self ≡ true → IsLed work.steps.items [] work.place.items (held s.root) (held c.edit_at-found.new.node) = λ on. subst (λ l. IsLed work.steps.items l work.place.items (held s.root) (held c.edit_at-found.new.node)) c.new-work.ensures.place (c.edit_at-found.ensures.led (c.new-work.ensures.logged ∙ c.is_on.ensures ∙ on)) in
    record {
      before = p.before;
      root = c.edit_at-found.ensures.whole;
      behind = p.behind;
      fits = grown_fits (text_bytes s.before) (text_bytes s.behind) (tree_text (view s.root)) (tree_text (view c.edit_at-found.new.node)) c.len-room.result c.new-work.result.means.room c.len-room.ensures (omega (arith, p.fits, c.len-room.ensures, ap (λ m. m.room) c.new-work.ensures.means)) c.edit_at-found.ensures.grown;
      back = edited_can s c.ready.new.self c.keep.new.self c.edit_at-found.new.node work.place.items work.steps.items led c.ready.ensures.same c.keep.ensures p.back;
    }

pub returns-clause-back : goal.returns-clause-back
returns-clause-back c =
    let s = c.args.self.now in
    let work = c.edit_at-found.new.work in
    let led : is_on c.ready.new.self ≡ true → IsLed work.steps.items [] work.place.items (held s.root) (held c.edit_at-found.new.node) = λ on. subst (λ l. IsLed work.steps.items l work.place.items (held s.root) (held c.edit_at-found.new.node)) c.new-work.ensures.place (c.edit_at-found.ensures.led (c.new-work.ensures.logged ∙ c.is_on.ensures ∙ on)) in
    edited_back s c.ready.new.self c.keep.new.self c.edit_at-found.new.node work.place.items work.steps.items led c.ready.ensures.same c.keep.ensures _

pub returns-clause-makes : goal.returns-clause-makes
returns-clause-makes c =
    let p = c.requires.pieces in
    IfOk-weaker c.edit_at-found.result _ _ (λ found made. made_around c.args.edit (text_bytes c.args.self.now.before) (text_bytes c.args.self.now.behind) (tree_text (view c.args.self.now.root)) (tree_text (view c.edit_at-found.new.node)) _ found p.before p.behind (p.root.1.0, p.root.1.1.0) made) c.edit_at-found.ensures.makes

use Rattle.std.proofs.Common.{[], ◌++◌, ◌<◌, ◌^◌, ◌∙◌, ◌≡◌, ap, length, subst, sym, true}
use Rattle.json.specs.Json.{Json}
use Rattle.json_text.specs.Listing.{IsTextOf}
use Rattle.json_pieces.specs.Held.{held}
use Rattle.json_pieces.specs.Logged.{IsLed}
use Rattle.json_pieces.specs.Logs.{is_on}
use Rattle.json_pieces.specs.Nodes.{IsSound, text_bytes, tree_text, view}
use Rattle.json_pieces.specs.Whole.{IsFit}
use Rattle.json_pieces.specs.declared.node.Node.TheVariants.{Closed}
use Rattle.json_pieces.specs.declared.text.Text.TheVariants.{Made}
use Rattle.json_pieces.proofs.Kept.{edited_back, edited_can, over_back, ready_are, ready_back}
use Rattle.json_pieces.proofs.Levels.{closed_text, view_closed}
use Rattle.json_pieces.proofs.Logs.{over_can}
use Rattle.json_pieces.proofs.Stepped.{stepped_led}
use Rattle.json_pieces.proofs.pieces.Pieces.close_if_large.Goals as goal

pub returns-in_err-ready-clause-pieces : goal.returns-in_err-ready-clause-pieces
returns-in_err-ready-clause-pieces c = ready_are c.args.self.now c.ready.new.self c.ready.ensures.same c.requires

pub returns-in_err-ready-clause-back : goal.returns-in_err-ready-clause-back
returns-in_err-ready-clause-back c = ready_back c.args.self.now c.ready.new.self c.ready.ensures.same

pub returns-clause-pieces : goal.returns-clause-pieces
returns-clause-pieces c =
    let p = c.requires in
    let s = c.args.self.now in
    let work = c.put_text.new.work in
    let same : tree_text (view c.put_text.new.node) ≡ tree_text (view s.root) = c.in_ok-put_text.ensures.text ∙ c.in_ok-text.ensures in
    let led : is_on c.ready.new.self ≡ true → IsLed work.steps.items [] work.place.items (held s.root) (held c.put_text.new.node) = λ on. stepped_led work.steps.items [] work.place.items (held s.root) (held c.put_text.new.node) (ap (λ v. v.items) c.put_text.ensures.place ∙ c.new-work.ensures.place) (c.put_text.ensures.led (c.new-work.ensures.logged ∙ c.is_on.ensures ∙ on)) in
    record {
      before = p.before;
      root = (c.in_ok-put_text.ensures.sound, subst (λ t. (j : Json) × IsTextOf t j) (sym same) p.root.1);
      behind = p.behind;
      fits = subst (λ t. length (text_bytes s.before ++ (t ++ text_bytes s.behind)) < 2 ^ 64) (sym same) p.fits;
      back = edited_can s c.ready.new.self c.keep.new.self c.put_text.new.node work.place.items work.steps.items led c.ready.ensures.same c.keep.ensures p.back;
    }

pub returns-clause-back : goal.returns-clause-back
returns-clause-back c =
    let s = c.args.self.now in
    let work = c.put_text.new.work in
    let led : is_on c.ready.new.self ≡ true → IsLed work.steps.items [] work.place.items (held s.root) (held c.put_text.new.node) = λ on. stepped_led work.steps.items [] work.place.items (held s.root) (held c.put_text.new.node) (ap (λ v. v.items) c.put_text.ensures.place ∙ c.new-work.ensures.place) (c.put_text.ensures.led (c.new-work.ensures.logged ∙ c.is_on.ensures ∙ on)) in
    edited_back s c.ready.new.self c.keep.new.self c.put_text.new.node work.place.items work.steps.items led c.ready.ensures.same c.keep.ensures _

pub returns-then-starts_over-clause-pieces : goal.returns-then-starts_over-clause-pieces
returns-then-starts_over-clause-pieces c =
    let p = c.requires in
    let s = c.args.self.now in
    let node = Closed (Made c.in_ok-text.text) in
    let same : tree_text (view node) ≡ tree_text (view s.root) = closed_text (Made c.in_ok-text.text) ∙ c.in_ok-text.ensures in
    record {
      before = p.before;
      root = (subst IsSound (sym (view_closed (Made c.in_ok-text.text))) tt, subst (λ t. (j : Json) × IsTextOf t j) (sym same) p.root.1);
      behind = p.behind;
      fits = subst (λ t. length (text_bytes s.before ++ (t ++ text_bytes s.behind)) < 2 ^ 64) (sym same) p.fits;
      back = over_can s.log (IsFit s.before s.behind) (held s.root) (held node) (c.starts_over.ensures c.if-starts_over.true) p.back;
    }

pub returns-then-starts_over-clause-kept : goal.returns-then-starts_over-clause-kept
returns-then-starts_over-clause-kept c =
    let s = c.args.self.now in
    ap (λ t. text_bytes s.before ++ (t ++ text_bytes s.behind)) (closed_text (Made c.in_ok-text.text) ∙ c.in_ok-text.ensures)

pub returns-then-starts_over-clause-back : goal.returns-then-starts_over-clause-back
returns-then-starts_over-clause-back c = over_back c.args.self.now (Closed (Made c.in_ok-text.text)) (c.starts_over.ensures c.if-starts_over.true) _

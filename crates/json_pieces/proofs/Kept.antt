-- What an edit of the value leaves of the way back.
use Rattle.std.proofs.Common.{[], List, ◌∙◌, ◌≡◌, true}
use Rattle.json_pieces.specs.Held.{held}
use Rattle.json_pieces.specs.Logged.{IsLed}
use Rattle.json_pieces.specs.Logs.{CanLead, IsMore, IsSameLog, StartsOver, is_on}
use Rattle.json_pieces.specs.Nodes.{text_bytes}
use Rattle.json_pieces.specs.Whole.{ArePieces, IsFit, KeepsBack}
use Rattle.json_pieces.specs.declared.back.Back.{Back}
use Rattle.json_pieces.specs.declared.back.Level.{Level}
use Rattle.json_pieces.specs.declared.log.Log.{Log}
use Rattle.json_pieces.specs.declared.node.Node.{Node}
use Rattle.json_pieces.specs.declared.pieces.Pieces.{Pieces}
use Rattle.json_pieces.specs.declared.width.Width.{Width}
use Rattle.json_pieces.proofs.Logs.{fit_stays, more_can, more_leads, more_twice, over_leads, over_twice, same_can, same_leads, same_twice, text_stays}

-- the log has room, and nothing else is different
pub ready_are : (s : Pieces) (ready : Log) → IsSameLog s.log ready → ArePieces s → ArePieces (record { before = s.before; root = s.root; behind = s.behind; log = ready; width = s.width })
ready_are s ready same p = record { before = p.before; root = p.root; behind = p.behind; fits = p.fits; back = same_can s.log ready (IsFit s.before s.behind) (held s.root) same p.back }

pub ready_back : (s : Pieces) (ready : Log) → IsSameLog s.log ready → KeepsBack s (record { before = s.before; root = s.root; behind = s.behind; log = ready; width = s.width })
ready_back s ready same = (
  λ t b. record { then = b.then; leads = same_leads s.log ready (held s.root) b.then same b.leads; text_is = b.text_is },
  λ t b. record { then = b.then; leads = same_twice s.log ready (held s.root) b.then same b.leads; text_is = b.text_is },
)

-- and then it keeps these steps
module _ (s : Pieces) (ready kept : Log) (node : Node) (place : List Level) (steps : List Back) (led : is_on ready ≡ true → IsLed steps [] place (held s.root) (held node)) (same : IsSameLog s.log ready) (more : IsMore ready place steps kept) where
  pub edited_can : CanLead s.log (IsFit s.before s.behind) (held s.root) → CanLead kept (IsFit s.before s.behind) (held node)
  edited_can can = more_can ready kept place steps (IsFit s.before s.behind) (held s.root) (held node) (fit_stays s.before s.behind) led more (same_can s.log ready (IsFit s.before s.behind) (held s.root) same can)

  pub edited_back : (width : Width) → KeepsBack s (record { before = s.before; root = node; behind = s.behind; log = kept; width = width })
  edited_back width = (
    λ t b.
        let q = more_leads ready kept place steps (held s.root) (held node) b.then led more (same_leads s.log ready (held s.root) b.then same b.leads) in
        record { then = q.0; leads = q.1; text_is = b.text_is ∙ text_stays (text_bytes s.before) (text_bytes s.behind) b.then q.0 q.2 },
    λ t b.
        let q = more_twice ready kept place steps (held s.root) (held node) b.then led more (same_twice s.log ready (held s.root) b.then same b.leads) in
        record { then = q.0; leads = q.1; text_is = b.text_is ∙ text_stays (text_bytes s.before) (text_bytes s.behind) b.then q.0 q.2 },
  )

-- going back begins with a value in the place of the whole, so that it may be any
pub over_back : (s : Pieces) (node : Node) → StartsOver s.log → (width : Width) → KeepsBack s (record { before = s.before; root = node; behind = s.behind; log = s.log; width = width })
over_back s node over width = (
  λ t b. record { then = b.then; leads = over_leads s.log (held s.root) (held node) b.then over b.leads; text_is = b.text_is },
  λ t b. record { then = b.then; leads = over_twice s.log (held s.root) (held node) b.then over b.leads; text_is = b.text_is },
)

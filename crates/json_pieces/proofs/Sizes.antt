-- A value is smaller than the row that it stands in.
use Rattle.std.proofs.Common.{◌≡◌, ◌<◌, ◌≤◌, ◌∙◌, ◌∷◌, ◌++◌, [], List, Vec, ap, arith, refl, ℕ}
use Prim.Native.Nat.{max}
use denote.Param.Weighed.{most, most-append}
use Rattle.long_vec.specs.Blocks.{items_in}
use Rattle.long_vec.specs.Items.{items_of}
use Rattle.json_pieces.specs.declared.node.Node.{Node, size-Node}
use Rattle.json_pieces.specs.declared.node.Row.{Row, size-Row, size_is-Row}

-- the greatest in blocks
most_in : {T A : Type 0} (f : T → ℕ) (bs : List (Vec T A)) → most f (items_in bs) ≡ most (λ b. most f b.items) bs
most_in f [] = refl
most_in f (b ∷ bs) = most-append f b.items (items_in bs) ∙ ap (max (most f b.items)) (most_in f bs)

among : {T : Type 0} (f : T → ℕ) (before : List T) (x : T) (behind : List T) → f x ≤ most f (before ++ x ∷ behind)
among f [] x behind = omega arith
among f (y ∷ before) x behind = let more = among f before x behind in omega arith

pub smaller : (r : Row) (v : Node) (before behind : List Node) → before ++ v ∷ behind ≡ items_of r.values → size-Node v < size-Row r
smaller r v before behind e =
    let less = among size-Node before v behind in
    omega (arith, size_is-Row r, most_in size-Node r.values.blocks.items, ap (most size-Node) e)

use Rattle.std.proofs.Common.{arith, ◌≤◌, ◌-◌}
use Rattle.std.proofs.lemmas.Bool.{false≢true}
use Rattle.long_vec.specs.Blocks.{HasRoom}
use Rattle.long_vec.proofs.Room.{none_nearer, some_room}
use Rattle.long_vec.proofs.LongVec.nearest_room.Goals as goal
use Rattle.long_vec.proofs.LongVec.nearest_room.Goals.{else-d-i-via-then-d-i+else-has_room-2, else-d-i-via-else-d-i}

pub loop-d-preserved : goal.loop-d-preserved
loop-d-preserved g c =
    let before : c.loop-d.d ≤ c.args.i → HasRoom c.args.self.now.blocks.items (c.args.i - c.loop-d.d) → ⊥ =
    elim c.else-d-i.branch [
      | else-d-i-via-then-d-i+else-has_room-2 w ↦ λ l h. false≢true (w.if-has_room-2.ensures.1 h)
      | else-d-i-via-else-d-i w ↦ λ l h. omega arith
    ] in
    none_nearer c.args.self.now.blocks.items c.args.i c.loop-d.d c.loop-d.invariant (λ h. false≢true (c.if-has_room.ensures.1 h)) before

pub returns : goal.returns
returns g c = absurd (some_room c.args.self.now.blocks.items c.requires.room (λ j h. c.loop-d.invariant j (let l = h.block in omega arith) (let l = h.block in omega arith) h))

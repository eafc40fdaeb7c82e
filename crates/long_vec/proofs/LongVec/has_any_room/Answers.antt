use Rattle.std.proofs.Common.{arith, inl, inr, refl, subst}
use Rattle.std.proofs.lemmas.Bool.{cases_order, false≢true}
use Rattle.long_vec.specs.Blocks.{HasRoom}
use Rattle.long_vec.proofs.Room.{room_in, some_room}
use Rattle.long_vec.proofs.LongVec.has_any_room.Goals as goal

pub returns-then-has_room : goal.returns-then-has_room
returns-then-has_room g c = (λ e. room_in c.args.self.now.blocks.items c.loop-i.i (c.if-has_room.ensures.0 refl), λ r. refl)

pub loop-i-preserved : goal.loop-i-preserved
loop-i-preserved g c = λ j l h. elim (cases_order j c.loop-i.i) [
  | inl same ↦ false≢true (c.if-has_room.ensures.1 (subst (HasRoom c.args.self.now.blocks.items) same h))
  | inr (inl less) ↦ c.loop-i.invariant j less h
  | inr (inr more) ↦ omega arith
]

pub returns : goal.returns
returns g c = (λ e. absurd (false≢true e), λ r. absurd (some_room c.args.self.now.blocks.items r (λ j h. c.loop-i.invariant j (let l = h.block in omega arith) h)))

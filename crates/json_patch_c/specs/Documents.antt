-- What stands behind a document's handle.
use Rattle.std.specs.Prelude.{Option, Some, None}
use base.Fml.{Fml, feq}
use denote.RattleType.{RattleType}
use denote.RawPtr.{Ptr, null_ptr}
use Rattle.std.specs.Box.Ownership.{box_owns}
use Rattle.std.specs.declared.alloc.Global.{Global}
use Rattle.std.specs.contracts.impls.GlobalAllocator.TheImpl.{ghosts}

-- the program's heap
abbrev pub heap : Global
heap = record { memory = record { seal = tt } }

-- nothing where the pointer is null, and else a value in a block of the heap
abbrev pub owned : (R : RattleType) → Ptr → Option R.Denot → Fml
owned R p None = feq Ptr p null_ptr
owned R p (Some v) = box_owns (ghosts.dealloc_token heap) R p v

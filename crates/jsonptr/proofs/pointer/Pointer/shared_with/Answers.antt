use Rattle.std.proofs.Common.{[], refl}
use Rattle.jsonptr.specs.Pointers.{tokens_of}
use Rattle.jsonptr.proofs.Sharing.{go_further, goes_on_less, ends, strips_end, front_valid, front_longest}
use Rattle.jsonptr.proofs.pointer.Pointer.shared_with.Goals as goal

pub loop-left-init : goal.loop-left-init
loop-left-init c = ([], refl, refl)

pub loop-left-smaller : goal.loop-left-smaller
loop-left-smaller c = goes_on_less _ _ _ _ c.in-Some.ensures.same

pub loop-left-preserved : goal.loop-left-preserved
loop-left-preserved c = go_further _ _ _ _ _ _ c.loop-left.invariant c.in-Some.ensures.same

pub unreachable-requires : goal.unreachable-requires
unfolding tokens_of
unreachable-requires c =
    ends _ _ _ _ c.args.self.now.valid c.loop-left.rest.valid c.loop-left.invariant c.in_default-strip_suffix.ensures.cases

pub invariant_of-result : goal.invariant_of-result
unfolding tokens_of
invariant_of-result c = record {
  valid = front_valid _ _ _ _ _ c.args.self.now.valid c.loop-left.rest.valid (strips_end _ _ _ c.in-Some-strip_suffix.ensures.cases) c.loop-left.invariant;
}

pub returns : goal.returns
unfolding tokens_of
returns c =
    front_longest _ _ _ _ _ c.args.self.now.valid c.loop-left.rest.valid (strips_end _ _ _ c.in-Some-strip_suffix.ensures.cases) c.loop-left.invariant
    c.in_default.ensures.apart

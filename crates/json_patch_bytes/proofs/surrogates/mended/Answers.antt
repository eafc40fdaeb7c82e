use Rattle.std.proofs.Common.{◌+◌, [], arith, subst, sym, take}
use Rattle.json_patch_bytes.specs.Surrogates.{IsMended, ends}
use Rattle.json_patch_bytes.proofs.Mending.{kept_on, mended_on}
use Rattle.json_patch_bytes.proofs.surrogates.mended.Goals as goal

pub loop-at-init : goal.loop-at-init
loop-at-init c = (omega arith, subst (IsMended []) (sym c.in_ok-new.ensures.items) ends)

pub loop-at-preserved-in-Some : goal.loop-at-preserved-in-Some
loop-at-preserved-in-Some c =
    let kept = c.in-Some.ensures.kept in (
      kept.1,
      subst (IsMended (take (c.loop-at.at + c.in-Some.count) c.args.text.now)) (sym c.in_ok-extend_from_slice-in-Some.ensures.items)
          (kept_on c.args.text.now c.loop-at.new.items c.loop-at.at c.in-Some.count c.loop-at.invariant.1),
    )

pub loop-at-preserved : goal.loop-at-preserved
loop-at-preserved c =
    let here = c.in-None.ensures.unpaired in (
      here.0,
      subst (IsMended (take (c.loop-at.at + 6) c.args.text.now)) (sym c.in_ok-extend_from_slice-in-None.ensures.items)
          (mended_on c.args.text.now c.loop-at.new.items c.loop-at.at here c.loop-at.invariant.1),
    )

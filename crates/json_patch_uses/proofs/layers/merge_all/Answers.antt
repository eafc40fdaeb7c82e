use Rattle.std.proofs.Common.{map, arith}
use Rattle.std.proofs.lemmas.Grind.{common_steps}
use Rattle.serde_json.specs.View.{view}
use Rattle.json_patch_uses.specs.Layers.{AreMerged}
use Rattle.json_patch_uses.proofs.Chains.{layer_on_top, stays}
use Rattle.json_patch_uses.proofs.layers.merge_all.Goals as goal

pub loop-layer-preserved : goal.loop-layer-preserved
loop-layer-preserved c =
    (layer_on_top _ _ _ c.layer-item.result _ _ c.loop-layer-test.true c.loop-layer.invariant.0 c.layer-item.is c.in_ok-merge.ensures.merged, c.merge.ensures.document)

pub returns-clause-unnamed : goal.returns-clause-unnamed
returns-clause-unnamed c =
    let merged : AreMerged (view c.args.base.now) (map view c.args.layers.now) (view c.loop-layer.settings) = grind (arith, common_steps) in
    λ k. stays c.merging.ensures.unnamed_stays k _ _ _ merged

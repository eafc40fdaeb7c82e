use Rattle.std.proofs.Common.{map, take}
use Rattle.serde_json.specs.View.{view}
use Rattle.json_patch.specs.Document.{IsDocument}
use Rattle.json_patch_uses.specs.Layers.{AreMerged}
use Rattle.json_patch_uses.proofs.layers.merge_all.Given as goal

abbrev pub invariant-loop-layer : goal.invariant-loop-layer
invariant-loop-layer l =
    AreMerged (view l.base) (map view (take l.layer-index l.layers)) (view l.settings)
    × IsDocument (view l.settings)

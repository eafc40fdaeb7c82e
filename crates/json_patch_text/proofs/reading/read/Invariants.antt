use Rattle.std.proofs.Common.{drop}
use Rattle.json.specs.Json.{Json}
use Rattle.json_lexemes.specs.Spelled.{IsShallowText}
use Rattle.json_patch_text.specs.Outline.{IsReadPatch}
use Rattle.json_patch_text.proofs.reading.read.Given as goal

abbrev pub invariant-loop-number : goal.invariant-loop-number
invariant-loop-number l = (p : Json) → IsShallowText l.text p → IsReadPatch l.text p (drop l.number l.texts.items) l.operations.items l.number

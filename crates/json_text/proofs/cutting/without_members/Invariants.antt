use Rattle.std.proofs.Common.{length}
use Rattle.std.specs.String.{string_bytes}
use Rattle.json.specs.Json.{Json}
use Rattle.json_text.specs.Less.{AreLess}
use Rattle.json_lexemes.specs.Spelled.{Says}
use Rattle.json_text.proofs.cutting.without_members.Given as goal

abbrev pub invariant-loop-new : goal.invariant-loop-new
invariant-loop-new l = (v : Json) → Says l.text v → AreLess l.text v l.name (string_bytes l.new)

abbrev pub decreases-loop-new : goal.decreases-loop-new
decreases-loop-new l = length (string_bytes l.new)

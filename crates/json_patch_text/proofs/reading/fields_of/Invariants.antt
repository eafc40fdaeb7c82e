use Rattle.std.proofs.Common.{drop}
use Rattle.json.specs.Json.{Json}
use Rattle.json_lexemes.specs.Spelled.{IsShallowText}
use Rattle.json_patch_text.specs.Outline.{IsAhead}
use Rattle.json_patch_text.proofs.reading.fields_of.Given as goal

abbrev pub invariant-loop-member : goal.invariant-loop-member
invariant-loop-member l = (j : Json) → IsShallowText l.text j → IsAhead l.text j (drop l.member-index l.member-items) l.fields

use Rattle.std.proofs.Common.{String, Global, string_bytes}
use Rattle.json.specs.Json.{Json}
use Rattle.jsonptr.specs.Pointers.{tokens_of}
use Rattle.json_pieces.specs.Whole.{text_of}
use Rattle.json_text.specs.Pointed.{IsWrittenAt}
use Rattle.json_merge_text.proofs.Possible.{nowhere_found}
use Rattle.json_merge_text.proofs.texts.written.Goals as goal

pub unreachable-requires : goal.unreachable-requires
unreachable-requires c =
    nowhere_found (text_of c.args.pieces.now) c.args.path.now (tokens_of c.as_pointer.result) c.in_ok-value.field-0
    (λ (j : Json) (s : String Global). IsWrittenAt (text_of c.args.pieces.now) j (tokens_of c.as_pointer.result) (string_bytes s))
    c.requires.stands c.as_pointer.ensures c.in-None.is c.in_ok-value.ensures.value

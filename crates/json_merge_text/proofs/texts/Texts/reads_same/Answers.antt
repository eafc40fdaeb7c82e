use Rattle.std.proofs.Common.{String, Global, string_bytes}
use Rattle.std.proofs.lemmas.Result.{IfOk-weaker}
use Rattle.json.specs.Json.{Json}
use Rattle.jsonptr.specs.Pointers.{tokens_of}
use Rattle.json_pieces.specs.Whole.{text_of}
use Rattle.json_text.specs.Pointed.{IsWrittenAt}
use Rattle.json_merge_text.proofs.Possible.{nowhere_found, said_there}
use Rattle.json_merge_text.proofs.texts.Texts.reads_same.Goals as goal

pub returns-in_default-clause-same : goal.returns-in_default-clause-same
returns-in_default-clause-same c i stands =
    absurd (nowhere_found (text_of c.args.self.now.document) c.args.path.now (tokens_of c.as_pointer.result) c.in_ok-here.field-0
    (λ (j : Json) (s : String Global). IsWrittenAt (text_of c.args.self.now.document) j (tokens_of c.as_pointer.result) (string_bytes s))
    (i, stands) c.as_pointer.ensures c.in_default.is c.in_ok-here.ensures.value)

pub returns-clause-same : goal.returns-clause-same
returns-clause-same c =
    IfOk-weaker c.says_same.result _ _
    (λ same decides i stands. decides i
    (said_there (text_of c.args.self.now.document) (string_bytes c.in-Some.here) c.as_str.result.now c.args.path.now (tokens_of c.as_pointer.result) i
    stands c.as_pointer.ensures (rw c.in-Some.is at c.in_ok-here.ensures.value) c.as_str.ensures.value))
    c.says_same.ensures

use Rattle.std.proofs.Common.{sym, subst, arith}
use Rattle.json.specs.Json.{string}
use Rattle.json_text.specs.Listing.{IsTextOf}
use Rattle.json_text.proofs.Rows.Pieces.{named_by}
use Rattle.json_text.proofs.cuts.is_name_text.Goals as goal

pub is_name-requires : goal.is_name-requires
is_name-requires c = omega (arith, c.differs.ensures.quoted c.if-not-differs.true)

pub returns-then-not-differs : goal.returns-then-not-differs
returns-then-not-differs c = λ k h.
    named_by c.as_bytes-bytes.result.now c.as_bytes-name.result.now k c.args.name.now c.is_name.result (subst (λ u. IsTextOf u (string k)) (sym c.as_bytes-bytes.ensures.value) h) c.as_bytes-name.ensures.value c.is_name.ensures

use Rattle.std.proofs.Common.{None, arith}
use Rattle.std.proofs.lemmas.Str.Pattern.{strip_prefix_char}
use Rattle.jsonptr.proofs.Texts.{escape_missing}
use Rattle.jsonptr.proofs.token.unescape.Goals as goal

pub unreachable-requires : goal.unreachable-requires
unreachable-requires c = escape_missing _ c.requires
    (strip_prefix_char 48 _ None c.in_default.ensures.cases (omega arith))
    (strip_prefix_char 49 _ None c.in_default-strip_prefix.ensures.cases (omega arith))

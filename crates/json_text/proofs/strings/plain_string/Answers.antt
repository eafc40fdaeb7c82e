use Rattle.std.proofs.Common.{Some, arith}
use Rattle.std.proofs.lemmas.Str.Pattern.{strip_prefix_char, strip_suffix_char}
use Rattle.json_text.proofs.Said.{between_quotes}
use Rattle.json_text.proofs.strings.plain_string.Goals as goal

pub returns-then-is_name_text : goal.returns-then-is_name_text
returns-then-is_name_text c =
    let rest = c.in_ok-strip_prefix.field-0 in
    between_quotes c.args.text.now rest.now c.in_ok-said.said.now c.is_name_text.result (strip_prefix_char 34 c.args.text.now (Some rest) c.in_ok-strip_prefix.ensures.cases (omega arith)) (strip_suffix_char 34 rest.now (Some c.in_ok-said.said) c.in_ok-said.ensures.cases (omega arith)) c.is_name_text.ensures c.if-is_name_text.true

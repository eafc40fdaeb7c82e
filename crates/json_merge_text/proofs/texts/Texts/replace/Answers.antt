use Rattle.std.proofs.Common.{subst}
use Rattle.std.specs.String.{string_bytes}
use Rattle.json_merge_text.proofs.Possible.{is_replaced, value_read}
use Rattle.json_pieces.specs.Whole.{text_of}
use Rattle.json_text.specs.Replaced.{LeadsNowhere}
use Rattle.json_merge_text.proofs.texts.Texts.replace.Goals as goal

pub known-value-requires : goal.known-value-requires
known-value-requires c =
    value_read (text_of c.args.self.now.patch) c.args.path.now c.requires.named.0 (string_bytes c.in_ok-value.value) c.as_str.result.now c.requires.named.1 c.in_ok-value.ensures.written c.as_str.ensures.value

pub prove-unreachable-requires : goal.prove-unreachable-requires
prove-unreachable-requires c =
    let nothing = rw c.if-prove.true at c.in_ok-done.ensures.replaced in
    is_replaced (text_of c.args.self.now.document) c.args.path.now c.requires.stands.0 c.requires.stands.1 (subst (LeadsNowhere (text_of c.args.self.now.document)) c.as_pointer.ensures nothing.0)

use Rattle.std.proofs.Common.{None, subst}
use Rattle.std.specs.String.{string_bytes}
use Rattle.json_merge_text.proofs.Possible.{is_added, value_read}
use Rattle.json_pieces.specs.Whole.{text_of}
use Rattle.json_text.specs.Added.{HasNoPlace}
use Rattle.json_merge_text.proofs.texts.Texts.add.Goals as goal

pub known-value-requires : goal.known-value-requires
known-value-requires c =
    value_read (text_of c.args.self.now.patch) c.args.path.now c.requires.named.0 (string_bytes c.in_ok-value.value) c.as_str.result.now c.requires.named.1 c.in_ok-value.ensures.written c.as_str.ensures.value

pub prove-unreachable-requires : goal.prove-unreachable-requires
prove-unreachable-requires c =
    let nothing = rw c.if-prove.true at c.in_ok-done.ensures.added in
    is_added (text_of c.args.self.now.document) c.args.path.now None c.requires.named.0 c.requires.stands (subst (HasNoPlace (text_of c.args.self.now.document)) c.as_pointer.ensures nothing.0)

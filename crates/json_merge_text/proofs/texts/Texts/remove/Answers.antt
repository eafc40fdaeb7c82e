use Rattle.std.proofs.Common.{subst}
use Rattle.json_merge_text.proofs.Possible.{is_removed}
use Rattle.json_pieces.specs.Whole.{text_of}
use Rattle.json_text.specs.Removed.{HasNothingToRemove}
use Rattle.json_merge_text.proofs.texts.Texts.remove.Goals as goal

pub prove-unreachable-requires : goal.prove-unreachable-requires
prove-unreachable-requires c =
    let nothing = rw c.if-prove.true at c.in_ok-done.ensures.removed in
    is_removed (text_of c.args.self.now.document) c.args.path.now c.requires.stands.0 c.requires.stands.1 (subst (HasNothingToRemove (text_of c.args.self.now.document)) c.as_pointer.ensures nothing.0)

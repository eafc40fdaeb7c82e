use Rattle.std.proofs.Common.{◌∙◌}
use Rattle.std.specs.String.{string_bytes}
use Rattle.jsonptr.specs.Pointers.{tokens_of}
use Rattle.json_patch_text.specs.Drafts.{whole_text}
use Rattle.json_text.specs.Checked.{text_in}
use Rattle.json_patch_text.proofs.Made.{part_known}
use Rattle.json_patch_text.proofs.Whole.{taken_whole}
use Rattle.json_patch_text.proofs.draft.WholeText.take_out.Goals as goal

pub known-requires : goal.known-requires
known-requires c = part_known (whole_text c.args.self.now) (string_bytes c.in-Some.value) c.as_str.result.now (tokens_of c.args.pointer) (rw c.in-Some.is at c.in_ok-value.ensures) c.as_str.ensures.value

pub returns-clause-taken : goal.returns-clause-taken
returns-clause-taken c =
    taken_whole (whole_text c.args.self.now) (string_bytes c.in-Some.value) (text_in c.known.result) (tokens_of c.args.pointer) c.in_ok-taken.taken (rw c.in-Some.is at c.in_ok-value.ensures) (c.known.ensures ∙ c.as_str.ensures.value) c.in_ok-taken.ensures.taken c.in_ok-taken.ensures.text

use Rattle.jsonptr.specs.Pointers.{tokens_of}
use Rattle.json_patch_text.specs.Drafts.{whole_text}
use Rattle.json_text.specs.Checked.{text_in}
use Rattle.json_patch_text.proofs.Undone.{no_shape, shape_found}
use Rattle.json_patch_text.proofs.draft.WholeText.shape.Goals as goal

pub returns-in-Some : goal.returns-in-Some
returns-in-Some c = λ j said.
    shape_found (whole_text c.args.self.now) (text_in c.in-Some.value) (tokens_of c.args.pointer) j c.of.result (rw (c.in-Some.is, c.checked-text.ensures) at c.in_ok-value.ensures) (rw c.as_str.ensures.text at c.of.ensures) said

pub returns-in-None : goal.returns-in-None
returns-in-None c = λ j said. no_shape (whole_text c.args.self.now) (tokens_of c.args.pointer) j (rw (c.in-None.is, c.checked-text.ensures) at c.in_ok-value.ensures) said

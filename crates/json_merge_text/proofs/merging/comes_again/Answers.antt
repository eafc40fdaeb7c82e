use Rattle.std.proofs.Common.{sym, ◌∙◌}
use Rattle.json_merge_text.proofs.Last.{none_again, tells}
use Rattle.json_merge_text.proofs.merging.comes_again.Goals as goal

pub returns-in-Some : goal.returns-in-Some
returns-in-Some c es lasts = tells c.args.name.now es c.args.index c.in-Some.last.now (sym (lasts c.args.name.now) ∙ sym c.in-Some.ensures.value)

pub returns-in-None : goal.returns-in-None
returns-in-None c es lasts = none_again c.args.name.now es c.args.index (sym (lasts c.args.name.now) ∙ sym c.in-None.ensures.value)

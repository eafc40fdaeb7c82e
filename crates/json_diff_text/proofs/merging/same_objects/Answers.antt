use Rattle.std.proofs.Common.{ap, rules, ◌∙◌}
use Rattle.json.specs.Value.{members_view, value_view}
use Rattle.json.specs.declared.value.Value.{the_lemmas}
use Rattle.json_diff_text.proofs.Merges.{asked_of_object}
use Rattle.json_diff_text.proofs.merging.same_objects.Goals as goal

pub returns : goal.returns
returns c = asked_of_object (value_view c.args.from.now) (value_view c.args.to.now) (members_view c.in-Object.field-0.items) c.same_tree.result (ap value_view c.in-Object.is ∙ search (rules, the_lemmas)) c.same_tree.ensures

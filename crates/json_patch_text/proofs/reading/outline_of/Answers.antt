use Rattle.std.proofs.Common.{◌∙◌, ap, codes, option_map, rules, sym}
use Rattle.json.specs.Find.{get}
use Rattle.serde_json.specs.View.{members_view}
use Rattle.json_patch_text.specs.Outline.{its_from, its_op, its_path, its_value, outline, put_if}
use Rattle.json_patch_text.proofs.Outlines.{all_put}
use Rattle.json_patch_text.proofs.reading.outline_of.Goals.{in-Object, in_default}
use Rattle.json_patch_text.proofs.reading.outline_of.Goals as goal

pub returns : goal.returns
returns c = λ j says f. elim c.match-matches.branch [
  | in-Object w ↦
      all_put j c.put_outlined-4.new.members (members_view c.put_outlined.new.members.entries) (members_view c.put_outlined-2.new.members.entries) (members_view c.put_outlined-3.new.members.entries) (sym (c.of.ensures j says.0) ∙ w.in-Object.is)
      (c.in_ok-put_outlined.ensures c.args.text.now j (f its_op) ∙ ap (λ e. put_if (codes "op") (option_map outline (get (codes "op") j)) (members_view e)) c.new-members.ensures.empty)
      (c.in_ok-put_outlined-2.ensures c.args.text.now j (f its_from)) (c.in_ok-put_outlined-3.ensures c.args.text.now j (f its_path)) (c.in_ok-put_outlined-4.ensures c.args.text.now j (f its_value))
  | in_default w ↦ absurd (search rules)
]

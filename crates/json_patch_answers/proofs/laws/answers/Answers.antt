use Rattle.json_patch_answers.proofs.Below.{Below}
use Rattle.json_patch_answers.proofs.OneAnswer.{answered_once}
use Rattle.json_patch_answers.proofs.SomeAnswer.{each_has_an_answer}
use Rattle.json_patch_answers.proofs.laws.answers.Goals as goal

below : goal.After-always_replied → Below
below c = record {
  read_or_refused = c.values.ensures.read_or_refused;
  read_is_whole = c.values.ensures.read_is_whole;
  run_ends = c.runs.ensures.run_ends;
  inverse_is_computed = c.inverse.ensures.inverse_is_computed;
  merged_is_one = c.merging.ensures.merged_is_one;
  replied_once = c.replied_once.ensures;
  always_replied = c.always_replied.ensures;
}

pub returns-clause-answered_once : goal.returns-clause-answered_once
returns-clause-answered_once c = answered_once (below c)

pub returns-clause-each_input_has_an_answer : goal.returns-clause-each_input_has_an_answer
returns-clause-each_input_has_an_answer c = each_has_an_answer (below c) c.documents.ensures.document_or_not

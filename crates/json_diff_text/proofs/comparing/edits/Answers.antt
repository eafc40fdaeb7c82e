use Rattle.std.proofs.Common.{refl, subst, sym}
use Rattle.std.proofs.lemmas.Result.{IfOk-weaker}
use Rattle.json.specs.Value.{value_view}
use Rattle.json_patch_operation.specs.Operation.{operations_of}
use Rattle.serde_json.specs.View.{view}
use Rattle.json_diff_text.specs.Edits.{AreEdits}
use Rattle.json_diff_text.specs.Numerals.{Grows}
use Rattle.json_diff_text.specs.Tables.{table}
use Rattle.json_diff_text.proofs.Coded.{grows_more, stands_grown}
use Rattle.json_diff_text.proofs.comparing.edits.Goals as goal

pub returns-then-are_as_written-clause-edits : goal.returns-then-are_as_written-clause-edits
returns-then-are_as_written-clause-edits c = subst (λ ts. AreEdits c.args.moves ts (value_view c.args.from.now) (value_view c.args.to.now) (operations_of c.in_ok-patch.patch)) (sym c.set_apart.ensures) (record {
  old = view c.in_ok-old.old;
  new = view c.in_ok-new.new;
  written = view c.in_ok-new.new;
  made = operations_of c.in_ok-patch.patch;
  first = c.in_ok-old.ensures.stands;
  second = stands_grown (table c.coded.new.numerals) (table c.coded-2.new.numerals) (view c.in_ok-new.new) (value_view c.args.to.now) c.in_ok-old.ensures.grows c.in_ok-new.ensures.stands;
  spelled = stands_grown (table c.coded.new.numerals) (table c.coded-2.new.numerals) (view c.in_ok-new.new) (value_view c.args.to.now) c.in_ok-old.ensures.grows c.in_ok-new.ensures.stands;
  document = c.in_ok-old.ensures.document;
  between = c.in_ok-patch.ensures;
  alike = ((λ whole. whole), (λ f e. refl));
})

pub returns-clause-edits : goal.returns-clause-edits
returns-clause-edits c =
    let more : Grows (table c.coded-2.new.numerals) (table c.coded-3.new.numerals) = subst (λ ts. Grows ts (table c.coded-3.new.numerals)) c.set_apart.ensures c.in_ok-as_written.ensures.grows in
    let all = grows_more (table c.coded.new.numerals) (table c.coded-2.new.numerals) (table c.coded-3.new.numerals) c.in_ok-old.ensures.grows more in
    IfOk-weaker c.spelled.result _ _ (λ p alike. record {
      old = view c.in_ok-old.old;
      new = view c.in_ok-new.new;
      written = view c.in_ok-as_written.as_written;
      made = operations_of c.in_ok-patch.patch;
      first = stands_grown (table c.coded-2.new.numerals) (table c.coded-3.new.numerals) (view c.in_ok-old.old) (value_view c.args.from.now) more c.in_ok-old.ensures.stands;
      second = stands_grown (table c.coded.new.numerals) (table c.coded-3.new.numerals) (view c.in_ok-new.new) (value_view c.args.to.now) all c.in_ok-new.ensures.stands;
      spelled = c.in_ok-as_written.ensures.stands;
      document = c.in_ok-old.ensures.document;
      between = c.in_ok-patch.ensures;
      alike = alike;
    }) c.spelled.ensures

use Rattle.std.proofs.Common.{◌≡◌, ◌∙◌, sym, ap, arith, rules, length}
use Rattle.serde_json.specs.Data.{array}
use Rattle.serde_json.specs.View.{view, items_view}
use Rattle.serde_json.specs.declared.value.Value.{the_lemmas}
use Rattle.json_patch_answers.specs.Input as spec
use Rattle.json_patch_answers.proofs.Pairs.{not_pair}
use Rattle.json_patch_answers.proofs.input.pair_of.Goals as goal
use Rattle.json_patch_answers.proofs.input.pair_of.Goals.{in_default-2-via-in-Some+in-Some+in_default}
use Rattle.json_patch_answers.proofs.input.pair_of.Goals.{in_default-2-via-in-Some+in_default, in_default-2-via-in_default}

pub returns : goal.returns
returns c =
    let items = c.in-Array.items.items in
    let seen : view c.args.value ≡ array (items_view items) = search (rules, the_lemmas) in
    let not_two : length items ≡ 2 → ⊥ = elim c.in_default-2.branch [
      | in_default-2-via-in-Some+in-Some+in_default w ↦ λ n. omega (arith, rw w.in_default-2.is-0 at c.next.ensures.cases, rw w.in_default-2.is-1 at c.next-2.ensures.cases, rw w.in_default-2.is-2 at c.next-3.ensures.cases)
      | in_default-2-via-in-Some+in_default w ↦ λ n. omega (arith, rw w.in_default-2.is-0 at c.next.ensures.cases, rw w.in_default-2.is-1 at c.next-2.ensures.cases)
      | in_default-2-via-in_default w ↦ λ n. omega (arith, rw w.in_default-2.is-0 at c.next.ensures.cases)
    ] in
    sym (ap spec.pair_of seen ∙ not_pair items not_two)

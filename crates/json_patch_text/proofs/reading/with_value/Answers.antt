use Rattle.std.proofs.Common.{refl}
use Rattle.json_patch_text.specs.Operations.{add, replace, test}
use Rattle.json_patch_text.proofs.Outlines.{is_named, value_had}
use Rattle.json_patch_text.proofs.reading.with_value.Goals as goal

pub returns-in-add : goal.returns-in-add
returns-in-add c = λ t j op path had.
    let (w, at, said, stands) = value_had t j c.args.value c.in_ok-value.value c.in_ok-value.was had in (add c.args.path w, (is_named j op c.in-add.is, (path, (at, tt))), (refl, said), stands)

pub returns-in-replace : goal.returns-in-replace
returns-in-replace c = λ t j op path had.
    let (w, at, said, stands) = value_had t j c.args.value c.in_ok-value.value c.in_ok-value.was had in (replace c.args.path w, (is_named j op c.in-replace.is, (path, (at, tt))), (refl, said), stands)

pub returns-in-test : goal.returns-in-test
returns-in-test c = λ t j op path had.
    let (w, at, said, stands) = value_had t j c.args.value c.in_ok-value.value c.in_ok-value.was had in (test c.args.path w, (is_named j op c.in-test.is, (path, (at, tt))), (refl, said), stands)

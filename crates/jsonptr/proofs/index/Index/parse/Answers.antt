use Rattle.jsonptr.specs.declared.index.ParseIndexError.TheVariants.{InvalidInteger}
use Rattle.jsonptr.proofs.Indexes.{index_ok, index_err, fault_names_none}
use Rattle.jsonptr.proofs.Texts.{on_err}
use Rattle.jsonptr.proofs.index.Index.parse.Goals as goal

pub returns-in_err-check_digits-clause-no_index : goal.returns-in_err-check_digits-clause-no_index
returns-in_err-check_digits-clause-no_index c = on_err _ (fault_names_none _ _ c.in_err-check_digits.ensures.fault)

pub returns-in-Ok-clause-index : goal.returns-in-Ok-clause-index
returns-in-Ok-clause-index c =
    let checked = c.in_ok-check_digits.ensures in index_ok _ _ checked.digits checked.no_leading_zero c.in-Ok.ensures.value.0

pub returns-in-Err-clause-fault : goal.returns-in-Err-clause-fault
returns-in-Err-clause-fault c =
    let checked = c.in_ok-check_digits.ensures in index_err _ checked.digits checked.no_leading_zero c.in-Err.ensures.value.0

pub returns-in-Err-clause-no_index : goal.returns-in-Err-clause-no_index
returns-in-Err-clause-no_index c =
    let checked = c.in_ok-check_digits.ensures in
    fault_names_none _ InvalidInteger (index_err _ checked.digits checked.no_leading_zero c.in-Err.ensures.value.0)

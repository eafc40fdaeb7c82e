use Rattle.json_patch.proofs.Common.{sym, ◌∙◌, true≢false}
use Rattle.json_patch.proofs.Logged.{exchanged}
use Rattle.json_patch.proofs.log.put_back.Goals as goal

pub unreachable-requires : goal.unreachable-requires
unreachable-requires c =
    let back = exchanged _ _ _ _ _ _ _ _ c.requires.back.1 (c.make.ensures.no_memory tt c.requires.fits) c.make.ensures.makes in
    true≢false (sym c.if-is_err.true ∙ c.is_err.ensures.value ∙ back.2)

pub returns-clause-back : goal.returns-clause-back
returns-clause-back c = λ p is. (exchanged _ _ _ _ _ _ _ _ is (c.make.ensures.no_memory tt c.requires.fits) c.make.ensures.makes).0

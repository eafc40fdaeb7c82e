use Rattle.json_patch.proofs.Common.{refl}
use Rattle.json_patch_edit.proofs.Exchanges.{fitting_more}
use Rattle.json_patch.proofs.log.Log.log_edit.Goals as goal

pub returns-clause-logged : goal.returns-clause-logged
returns-clause-logged c = (
  record { path = c.args.step.path; from = c.args.from; found = c.in_ok-found.found; value = c.take.result; kept = c.in_ok-kept.kept },
  record {
    ends = rw c.in_ok-reserve.ensures.items at c.push_reserved.ensures.items;
    at = refl;
    from = refl;
    fits = fitting_more _ _ _ c.make.ensures.grows c.in_ok-make_room.ensures.fits;
  },
  record {
    makes = c.in_ok-found.ensures.makes.0;
    finds = rw c.take.ensures.value c.in_ok-found.ensures.makes.1;
    kept = c.in_ok-kept.ensures;
  },
)

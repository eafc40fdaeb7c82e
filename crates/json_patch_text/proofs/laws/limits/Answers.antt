use Rattle.std.proofs.Common.{arith}
use Rattle.json_patch_text.proofs.Bounded.{last_within, within_made}
use Rattle.json_patch_text.proofs.Limits.{deep_last, one_kind, over_accepted, over_alone, within_or_over}
use Rattle.json_patch_text.proofs.Shallow.{never_too_deep}
use Rattle.json_patch_text.proofs.Tried.{never_tried}
use Rattle.json_patch_text.proofs.laws.limits.Goals as goal

pub returns-clause-within_or_over : goal.returns-clause-within_or_over
returns-clause-within_or_over c = within_or_over

pub returns-clause-over_alone : goal.returns-clause-over_alone
returns-clause-over_alone c = over_alone

pub returns-clause-one_kind : goal.returns-clause-one_kind
returns-clause-one_kind c = one_kind

pub returns-clause-made : goal.returns-clause-made
returns-clause-made c l most n text new os h = (within_made l most text os new n h.0, last_within l most text os new n h.0, h.1)

pub returns-clause-not_refused : goal.returns-clause-not_refused
returns-clause-not_refused c = over_accepted

pub returns-clause-deep_last : goal.returns-clause-deep_last
returns-clause-deep_last c = deep_last

pub returns-clause-readable : goal.returns-clause-readable
returns-clause-readable c l text patch k shallow h = let deep = h.0 in absurd (omega arith)

pub returns-clause-never : goal.returns-clause-never
returns-clause-never c = never_too_deep

pub returns-clause-tried : goal.returns-clause-tried
returns-clause-tried c = never_tried

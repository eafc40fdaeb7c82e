-- Whether an operation is over the limits, computed and said.
use Rattle.json_patch_limits.proofs.Common.{◌≡◌, Some, None, Bool, rules, nat_tests, Data, Operation}
use Rattle.json_patch_limits.specs.OverLimits.{IsOver, IsUnder}
use Rattle.json_patch_limits.specs.OverLimitsComputed.{over}
use Rattle.json_patch_limits.specs.declared.limits.Limits.{Limits}
use Rattle.json_patch_limits.specs.declared.limits.LimitKind.{LimitKind}

pub over_is : (b : Bool) (l : Limits) (d : Data) (op : Operation) (kind : LimitKind) → over b l d op ≡ Some kind → IsOver b l d op kind
over_is b l d op kind is = search (rules, nat_tests)

pub is_over : (b : Bool) (l : Limits) (d : Data) (op : Operation) (kind : LimitKind) → IsOver b l d op kind → over b l d op ≡ Some kind
is_over b l d op kind h = search (rules, nat_tests)

pub over_none : (b : Bool) (l : Limits) (d : Data) (op : Operation) → over b l d op ≡ None → IsUnder b l d op
over_none b l d op is = search (rules, nat_tests)

pub is_under : (b : Bool) (l : Limits) (d : Data) (op : Operation) → IsUnder b l d op → over b l d op ≡ None
is_under b l d op h = search (rules, nat_tests)

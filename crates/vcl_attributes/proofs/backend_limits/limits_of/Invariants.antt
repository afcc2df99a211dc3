use Rattle.std.proofs.Common.{◌≡◌, ◌++◌, drop, filter_map}
use Rattle.vcl_attributes.specs.BackendLimits.{limits_in}
use Rattle.vcl_attributes.proofs.backend_limits.limits_of.Given as goal

abbrev pub invariant-loop-item : goal.invariant-loop-item
invariant-loop-item l = l.all.items ++ filter_map limits_in (drop l.item-index l.items) ≡ filter_map limits_in l.items

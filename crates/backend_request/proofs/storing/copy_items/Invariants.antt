-- The copy has the items so far.
use Rattle.std.proofs.Common.{◌≡◌, take}
use Rattle.backend_request.proofs.storing.copy_items.Given as goal

abbrev pub invariant-loop-item : goal.invariant-loop-item
invariant-loop-item l = l.copy.items ≡ take l.item-index l.items

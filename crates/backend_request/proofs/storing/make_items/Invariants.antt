-- The items of the names so far.
use Rattle.std.proofs.Common.{◌≡◌, take}
use Rattle.backend_request.specs.Stored.{items_for}
use Rattle.backend_request.proofs.storing.make_items.Given as goal

abbrev pub invariant-loop-name : goal.invariant-loop-name
invariant-loop-name l = l.items.items ≡ items_for l.fields (take l.name-index l.names)

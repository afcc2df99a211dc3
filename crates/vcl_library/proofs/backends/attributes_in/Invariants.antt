use Rattle.std.proofs.Common.{◌≡◌, drop}
use Rattle.vcl_library.specs.Backends.{attributes_in}
use Rattle.vcl_library.proofs.backends.attributes_in.Given as goal

abbrev pub invariant-loop-item : goal.invariant-loop-item
invariant-loop-item l = attributes_in l.wanted (drop l.item-index l.items) ≡ attributes_in l.wanted l.items

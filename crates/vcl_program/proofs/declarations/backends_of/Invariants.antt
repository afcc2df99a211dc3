use Rattle.std.proofs.Common.{◌≡◌, ◌++◌, drop, filter_map}
use Rattle.vcl_program.specs.Declarations.{backend_of}
use Rattle.vcl_program.proofs.declarations.backends_of.Given as goal

abbrev pub invariant-loop-item : goal.invariant-loop-item
invariant-loop-item l = l.out ++ filter_map backend_of (drop l.item-index l.items) ≡ filter_map backend_of l.items

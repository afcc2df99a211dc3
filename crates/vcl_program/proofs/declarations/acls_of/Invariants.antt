use Rattle.std.proofs.Common.{◌≡◌, ◌++◌, drop, filter_map}
use Rattle.vcl_program.specs.Declarations.{networks_of}
use Rattle.vcl_program.proofs.declarations.acls_of.Given as goal

abbrev pub invariant-loop-item : goal.invariant-loop-item
invariant-loop-item l = l.out ++ filter_map networks_of (drop l.item-index l.items) ≡ filter_map networks_of l.items

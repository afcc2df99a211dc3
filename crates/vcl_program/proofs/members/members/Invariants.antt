use Rattle.std.proofs.Common.{◌≡◌, drop}
use Rattle.vcl_program.specs.Members.{with_items}
use Rattle.vcl_program.proofs.members.members.Given as goal

abbrev pub invariant-loop-item : goal.invariant-loop-item
invariant-loop-item l = with_items l.names l.out (drop l.item-index l.items) ≡ with_items l.names l.initial.out l.items

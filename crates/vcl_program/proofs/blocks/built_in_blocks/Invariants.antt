use Rattle.std.proofs.Common.{◌≡◌, ◌≤◌, take, length}
use Rattle.vcl_program.specs.Blocks.{heads, all_bodies}
use Rattle.vcl_program.proofs.blocks.built_in_blocks.Given as goal

abbrev pub invariant-items : goal.invariant-items
invariant-items l = (all_bodies l.names (take l.left l.items) (heads l.numbers l.arena) ≡ all_bodies l.names l.items (heads l.initial.numbers l.initial.arena)) × (l.left ≤ length l.items)

abbrev pub decreases-items : goal.decreases-items
decreases-items l = l.left

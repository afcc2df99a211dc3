use Rattle.std.proofs.Common.{◌≡◌, drop}
use Rattle.vcl_program.specs.Blocks.{heads, all_own}
use Rattle.vcl_program.proofs.blocks.own_blocks.Given as goal

abbrev pub invariant-loop-item : goal.invariant-loop-item
invariant-loop-item l = all_own l.names (heads l.numbers l.arena) (drop l.item-index l.items) ≡ all_own l.names (heads l.initial.numbers l.initial.arena) l.items

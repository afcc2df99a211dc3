use Rattle.std.proofs.Common.{◌≡◌, drop}
use Rattle.vcl_check.specs.Mentions.{with_items}
use Rattle.vcl_check.proofs.mentions.says.Given as goal

abbrev pub invariant-loop-item : goal.invariant-loop-item
invariant-loop-item l = with_items l.out.items (drop l.item-index l.items) ≡ with_items l.initial.out.items l.items

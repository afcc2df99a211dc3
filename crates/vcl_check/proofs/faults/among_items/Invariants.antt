use Rattle.std.proofs.Common.{◌≡◌, drop, None}
use Rattle.vcl_check.specs.Acls.{with_acls}
use Rattle.vcl_check.specs.Folded.{numbered}
use Rattle.vcl_check.specs.Items.{item_told}
use Rattle.vcl_check.proofs.faults.among_items.Given as goal

abbrev pub invariant-loop-item : goal.invariant-loop-item
invariant-loop-item l = record {
  told : numbered (item_told l.tables l.numbers l.rows) l.item-index l.best (drop l.item-index l.items) ≡ numbered (item_told l.tables l.numbers l.rows) 0 None l.items;
  acls : l.best ≡ None → with_acls l.acls.items (drop l.item-index l.items) ≡ with_acls l.initial.acls.items l.items;
}

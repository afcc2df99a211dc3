use Rattle.std.proofs.Common.{◌≡◌, take}
use Rattle.std.specs.Ordering.{nat_cmp}
use Rattle.std.specs.BTreeMap.{IsOrdered}
use Rattle.room_lru.specs.Endings.{with_ends}
use Rattle.room_lru.proofs.ending.set_ends.Given as goal

abbrev pub invariant-loop-ending : goal.invariant-loop-ending
invariant-loop-ending l = record {
  entries : l.members.entries ≡ with_ends (take l.ending-index l.endings) l.initial.members.entries;
  ordered : IsOrdered nat_cmp l.members;
}

use Rattle.std.proofs.Common.{◌≡◌, ◌&&◌, not, take}
use Rattle.std.specs.List.{list_any}
use Rattle.std.specs.BTreeSet.{contains}
use Rattle.room_lru.specs.Ends.{End, by_end}
use Rattle.room_lru.specs.Endings.{ends_old}
use Rattle.room_lru.proofs.ending.leave_old.Given as goal

abbrev pub invariant-loop-ending : goal.invariant-loop-ending
invariant-loop-ending l = (one : End) → contains by_end l.ends one ≡ (contains by_end l.initial.ends one && not (list_any (ends_old one) (take l.ending-index l.endings)))

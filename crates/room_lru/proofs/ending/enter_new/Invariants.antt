use Rattle.std.proofs.Common.{◌≡◌, ◌||◌, take}
use Rattle.std.specs.List.{list_any}
use Rattle.std.specs.BTreeSet.{contains}
use Rattle.room_lru.specs.Ends.{End, by_end}
use Rattle.room_lru.specs.Endings.{ends_new}
use Rattle.room_lru.proofs.ending.enter_new.Given as goal

abbrev pub invariant-loop-at : goal.invariant-loop-at
invariant-loop-at l = (one : End) → contains by_end l.ends one ≡ (list_any (ends_new one) (take l.at l.endings) || contains by_end l.initial.ends one)

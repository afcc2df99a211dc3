use Rattle.std.proofs.Common.{◌≡◌, take}
use Rattle.ban_list.proofs.list.BanList.shown.Given as goal

abbrev pub invariant-loop-at : goal.invariant-loop-at
invariant-loop-at l = l.lines ≡ take l.at l.self.lines

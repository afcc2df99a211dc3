use Rattle.std.proofs.Common.{length}
use Rattle.ban_list.proofs.CutLemmas.{CutsSoFar}
use Rattle.ban_list.proofs.list.BanList.cut.Given as goal

-- some of the oldest lines are gone, none of which was needed
abbrev pub invariant-loop-self : goal.invariant-loop-self
invariant-loop-self l = CutsSoFar l.initial.self l.self

abbrev pub decreases-loop-self : goal.decreases-loop-self
decreases-loop-self l = length l.self.lines

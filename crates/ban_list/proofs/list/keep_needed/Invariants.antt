use Rattle.ban_list.proofs.NeededLemmas.{Turns}
use Rattle.ban_list.proofs.list.keep_needed.Given as goal

-- so many of the newest lines are still to be gone over
abbrev pub invariant-loop-left : goal.invariant-loop-left
invariant-loop-left l = Turns l.fn.lines.items l.fn.placed.items l.fn.marked.items l.left l.lines.items l.placed.items l.marked.items l.placed_below l.marked_below l.equals

abbrev pub decreases-loop-left : goal.decreases-loop-left
decreases-loop-left l = l.left

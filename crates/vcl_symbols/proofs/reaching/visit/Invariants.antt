use Rattle.std.proofs.Common.{take}
use Rattle.vcl_symbols.specs.Visits.{Visited}
use Rattle.vcl_symbols.proofs.reaching.visit.Given as goal

abbrev pub invariant-loop-callee : goal.invariant-loop-callee
invariant-loop-callee l = Visited (take l.callee-index l.row) l.fn.marks.items l.fn.waiting.items l.marks.items l.waiting.items

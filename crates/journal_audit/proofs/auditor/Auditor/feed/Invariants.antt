use Rattle.std.proofs.Common.{length}
use Rattle.journal_audit.proofs.Pieces.{HasFed}
use Rattle.journal_audit.proofs.auditor.Auditor.feed.Given as goal

abbrev pub invariant-lines : goal.invariant-lines
invariant-lines g l = HasFed g.F.Follower.stands l.fn.self l.auditor l.fn.piece l.rest

abbrev pub decreases-lines : goal.decreases-lines
decreases-lines g l = length l.rest

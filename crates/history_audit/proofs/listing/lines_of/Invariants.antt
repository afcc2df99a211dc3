use Rattle.history_audit.proofs.Lines.{HasPassed}
use Rattle.history_audit.proofs.listing.lines_of.Given as goal

-- what is found in all bans is what was taken, and what is found in those from this place on
abbrev pub invariant-bans : goal.invariant-bans
invariant-bans l = HasPassed l.bans.items l.shown l.place l.lines.items l.wanted

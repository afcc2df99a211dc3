use Rattle.std.proofs.Common.{◌≡◌, map, take}
use Rattle.journal_text.specs.Grammar.{shown_ban}
use Rattle.journal_text.proofs.showing.shown_bans.Given as goal

abbrev pub invariant-loop-line : goal.invariant-loop-line
invariant-loop-line l = l.bans.items ≡ map shown_ban (take l.line-index l.lines)

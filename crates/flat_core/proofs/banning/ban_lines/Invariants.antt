use Rattle.std.proofs.Common.{◌≡◌, take, map}
use Rattle.cache_law.specs.BansAtOnce.{open_line}
use Rattle.flat_core.proofs.banning.ban_lines.Given as goal

-- those before this place are done
abbrev pub invariant-loop-place : goal.invariant-loop-place
invariant-loop-place l = l.lines ≡ map (open_line) (take l.place l.bans.items)

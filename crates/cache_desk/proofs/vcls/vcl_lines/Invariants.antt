use Rattle.std.proofs.Common.{◌≡◌, take, map}
use Rattle.cache_law.specs.Vcls.{vcl_line}
use Rattle.cache_desk.proofs.vcls.vcl_lines.Given as goal

-- the VCLs so far have their lines
abbrev pub invariant-loop-loaded : goal.invariant-loop-loaded
invariant-loop-loaded l = l.lines ≡ map (vcl_line l.active l.rounds.items) (take l.loaded-index l.vcls)

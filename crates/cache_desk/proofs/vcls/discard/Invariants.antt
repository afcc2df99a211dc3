use Rattle.std.proofs.Common.{◌≡◌}
use Rattle.cache_law.specs.Vcls.{discarding}
use Rattle.cache_desk.proofs.Passes.{passed}
use Rattle.cache_desk.proofs.vcls.discard.Given as goal

-- the VCLs before this place are changed
abbrev pub invariant-loop-place : goal.invariant-loop-place
invariant-loop-place l = l.vcls.items ≡ passed (discarding l.number) l.place l.initial.vcls.items

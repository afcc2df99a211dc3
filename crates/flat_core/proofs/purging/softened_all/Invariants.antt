use Rattle.std.proofs.Common.{◌≡◌, take, map}
use Rattle.flat_core.specs.Purging.{softening}
use Rattle.flat_core.proofs.purging.softened_all.Given as goal

-- those before this place are done
abbrev pub invariant-loop-place : goal.invariant-loop-place
invariant-loop-place l = l.left.items ≡ map (softening l.moment l.keys) (take l.place l.objects.items)

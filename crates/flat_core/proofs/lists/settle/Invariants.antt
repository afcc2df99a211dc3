use Rattle.std.proofs.Common.{◌≡◌, ◌++◌, take, drop}
use Rattle.flat_core.specs.StoredObject.{settled}
use Rattle.flat_core.proofs.lists.settle.Given as goal

-- the objects before this place stand behind the others, as their fates leave them
abbrev pub invariant-loop-place : goal.invariant-loop-place
invariant-loop-place l = l.objects.items ≡ drop l.place l.initial.objects.items ++ settled l.count l.fates (take l.place l.initial.objects.items)

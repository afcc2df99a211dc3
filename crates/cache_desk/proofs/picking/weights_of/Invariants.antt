use Rattle.std.proofs.Common.{◌≡◌, take, map}
use Rattle.cache_law.specs.Targets.{weight_of}
use Rattle.cache_desk.proofs.picking.weights_of.Given as goal

-- the members so far are weighed
abbrev pub invariant-loop-member : goal.invariant-loop-member
invariant-loop-member l = l.weights ≡ map (weight_of l.health l.vcl) (take l.member-index l.members)

use Rattle.std.proofs.Common.{◌≡◌, map, take}
use Rattle.ban_expr.specs.Searches.{sought}
use Rattle.ban_expr.proofs.patterns.patterns_of.Given as goal

abbrev pub invariant-loop-condition : goal.invariant-loop-condition
invariant-loop-condition l = l.patterns ≡ map sought (take l.condition-index l.conditions)

use Rattle.std.proofs.Common.{length}
use Rattle.units.specs.Quoted.{ReadsPieces}
use Rattle.units.proofs.quotes.values_of.Given as goal

abbrev pub invariant-loop-value : goal.invariant-loop-value
invariant-loop-value l = ReadsPieces l.values.items l.body l.rest

abbrev pub decreases-loop-value : goal.decreases-loop-value
decreases-loop-value l = length l.rest

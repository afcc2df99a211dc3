use Rattle.std.proofs.Common.{List, ℕ, length}
use Rattle.units.specs.Quoted.{ReadsPieces}
use Rattle.units.proofs.quotes.after_body.Given as goal

abbrev pub invariant-loop-behind : goal.invariant-loop-behind
invariant-loop-behind l = (values : List ℕ) × ReadsPieces values l.body l.rest

abbrev pub decreases-loop-behind : goal.decreases-loop-behind
decreases-loop-behind l = length l.rest

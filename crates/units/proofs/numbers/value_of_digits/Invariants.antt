use Rattle.units.proofs.Numerals.{GoesOn}
use Rattle.units.proofs.numbers.value_of_digits.Given as goal

abbrev pub invariant-loop-digit : goal.invariant-loop-digit
invariant-loop-digit l = GoesOn l.digits l.digit-index l.value

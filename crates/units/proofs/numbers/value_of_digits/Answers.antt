use Rattle.std.proofs.Common.{sym, arith}
use Rattle.units.proofs.Numerals.{ended, refused}
use Rattle.units.proofs.numbers.value_of_digits.Goals as goal

pub returns-in_err-value : goal.returns-in_err-value
returns-in_err-value c = rw c.from_residual.ensures (refused _ _ _ c.loop-digit-test.true c.loop-digit.invariant c.in_err-value.ensures)

pub returns : goal.returns
returns c =
    let e = ended _ _ _ c.loop-digit-test.false c.loop-digit.invariant in
    ((e.0, omega (arith, e.1, c.loop-digit.invariant.small)), sym e.1)

use Rattle.std.proofs.Common.{arith, ◌<◌, length}
use Rattle.std.proofs.lemmas.Bool.Decides.{nat_tests}
use Rattle.units.proofs.Numerals.{spelled, read_cases}
use Rattle.units.proofs.numbers.read_number.Goals as goal
use Rattle.units.proofs.numbers.read_number.Goals.{else-bytes-gt1-via-then-bytes-gt1+else-bytes-eq48, else-bytes-gt1-via-else-bytes-gt1}

pub returns-then-is_empty : goal.returns-then-is_empty
returns-then-is_empty c = λ n h. let some = (spelled _ n h).some in grind (arith, nat_tests)

pub returns-then-bytes-eq48 : goal.returns-then-bytes-eq48
returns-then-bytes-eq48 c = λ n h. let first = (spelled _ n h).first c.if-bytes-eq48.true in omega arith

pub returns : goal.returns
returns c =
    let some : 0 < length c.args.bytes.now = grind (arith, nat_tests) in
    read_cases _ _ some
    (elim c.else-bytes-gt1.branch [
      | else-bytes-gt1-via-then-bytes-gt1+else-bytes-eq48 w ↦ λ e. absurd (w.if-bytes-eq48.false e)
      | else-bytes-gt1-via-else-bytes-gt1 w ↦ λ e. omega (arith, some)
    ])
    c.value_of_digits.ensures

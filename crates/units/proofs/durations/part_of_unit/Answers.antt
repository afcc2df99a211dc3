use Rattle.std.proofs.Common.{arith, ◌≤◌, ◌*◌}
use Rattle.std.proofs.Math.Nat.{mul-le-mul_left}
use Rattle.units.proofs.Splits.{fraction_small}
use Rattle.units.proofs.durations.part_of_unit.Goals as goal

pub returns-in_default : goal.returns-in_default
returns-in_default c =
    let small = fraction_small c.args.fraction.now c.requires.digits c.requires.short in
    absurd (c.in_default.ensures (c.requires.digits, omega (arith, small)))

pub overflow_mul-result : goal.overflow_mul-result
overflow_mul-result c =
    let small = fraction_small c.args.fraction.now c.requires.digits c.requires.short in
    let k : c.in-Some.value * c.args.unit ≤ c.in-Some.value * 31536000000 = mul-le-mul_left c.in-Some.value c.requires.small in
    omega (arith, k, c.in-Some.ensures.1)

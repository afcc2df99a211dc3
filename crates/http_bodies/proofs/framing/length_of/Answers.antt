-- The value of the digits is the number.
use Rattle.std.proofs.Common.{◌<◌, length, arith}
use Rattle.std.proofs.lemmas.Bool.Decides.{nat_tests}
use Rattle.http_bodies.proofs.LengthFacts.{number_told}
use Rattle.http_bodies.proofs.framing.length_of.Goals as goal

pub returns : goal.returns
returns c =
    let some : 0 < length c.args.value.now = grind (arith, nat_tests) in
    number_told c.args.value.now c.value_of_digits.result some c.value_of_digits.ensures

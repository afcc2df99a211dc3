use Rattle.std.proofs.Common.{◌<◌, length, arith}
use Rattle.std.proofs.lemmas.Bool.Decides.{nat_tests}
use Rattle.vmod_host.proofs.DigitLemmas.{natural-read}
use Rattle.vmod_host.proofs.integers.read_natural.Goals as goal

pub returns : goal.returns
returns c =
    let some : 0 < length c.args.digits.now = grind (arith, nat_tests) in
    natural-read _ _ some c.value_of_digits.ensures

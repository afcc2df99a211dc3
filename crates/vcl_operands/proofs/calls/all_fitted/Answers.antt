use Rattle.std.proofs.Common.{arith}
use Rattle.std.proofs.lemmas.Bool.Decides.{nat_tests}
use Rattle.vcl_operands.specs.Values.{all_fitted}
use Rattle.vcl_operands.proofs.Fits.{all-given}
use Rattle.vcl_operands.proofs.calls.all_fitted.Goals as goal

pub returns : goal.returns
returns c =
    all-given c.arguments.fits c.arguments.wanted.now c.arguments.given.now (all_fitted c.args.kinds.now c.args.arguments.now) (grind (arith, nat_tests)) c.arguments.invariant c.requires

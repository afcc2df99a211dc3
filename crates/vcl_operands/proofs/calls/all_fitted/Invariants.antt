use Rattle.std.proofs.Common.{◌≡◌, length}
use Rattle.vcl_operands.specs.Values.{all_fitted}
use Rattle.vcl_operands.proofs.Fits.{onto}
use Rattle.vcl_operands.proofs.calls.all_fitted.Given as goal

abbrev pub invariant-arguments : goal.invariant-arguments
invariant-arguments l = onto l.fits (all_fitted l.wanted l.given) ≡ all_fitted l.initial.wanted l.initial.given

abbrev pub decreases-arguments : goal.decreases-arguments
decreases-arguments l = length l.given

use Rattle.std.proofs.Common.{◌≡◌, ◌∙◌, Some, map, ap}
use Rattle.vcl_values.specs.Values.{kind_of}
use Rattle.vcl_operands.specs.Values.{all_fitted}
use Rattle.vcl_operands.proofs.Fits.{all-kinds}
use Rattle.vcl_operands.proofs.calls.answered.Goals as goal

pub answer-requires : goal.answer-requires
answer-requires g c =
    let e : all_fitted c.as_slice.result.now c.args.arguments.now ≡ Some (Some c.in-Some.fits) = cc (c.in_ok-fits.ensures) in
    ap (map kind_of) c.as_slice-in-Some.ensures ∙ all-kinds c.as_slice.result.now c.args.arguments.now c.in-Some.fits e ∙ c.as_slice.ensures

use Rattle.std.proofs.Common.{◌≡◌, drop, None}
use Rattle.vcl_check.specs.Folded.{numbered}
use Rattle.vcl_check.specs.Texts.{refused_at}
use Rattle.vcl_check.proofs.faults.among_refused.Given as goal

abbrev pub invariant-loop-place : goal.invariant-loop-place
invariant-loop-place l = numbered refused_at l.place-index l.best (drop l.place-index l.places) ≡ numbered refused_at 0 None l.places

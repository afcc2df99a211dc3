use Rattle.segment_laws.proofs.Runs.{one_run}
use Rattle.segment_laws.proofs.laws.stints_are_one_run.Goals as goal

pub returns : goal.returns
returns g c = λ params begun olds news segments last ran.
    let told = g.P.Callers in
    one_run told.Tells told.places_in told.Waits told.Steps told.Holds told.tells_then told.waits_then told.steps_later params begun olds news segments last ran

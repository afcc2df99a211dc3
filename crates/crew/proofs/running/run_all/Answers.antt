-- The history is the one that the closed cache gives.
use Rattle.std.proofs.Common.{◌++◌, ◌∙◌}
use Rattle.turnstile.specs.Handles.{known}
use Rattle.crew.proofs.Besides.{front_then, is_done, mine_beside, setting_stays}
use Rattle.crew.proofs.Ends.{legal_of}
use Rattle.crew.proofs.running.run_all.Goals as goal

pub returns-clause-ran : goal.returns-clause-ran
returns-clause-ran g c =
    λ beginning set.
    let stays = setting_stays g.J.Job.places g.J.Job.Did c.args.job c.employ-workers.result.done (known c.args.root) (known c.employ-workers.result.pass) c.employ-workers.ensures.becomes in
    let begun = c.take_down-connections.ensures.setting ∙ (stays ∙ set) in
    let legal = legal_of (known c.take_down-connections.new.root) (known c.close-history.result.1) c.close-history.result.0 beginning c.close-history.ensures.known c.close-history.ensures.legal begun in
    let gained = mine_beside g.J.Job.places g.J.Job.Did c.args.job c.employ-workers.result.done (known c.args.root) (known c.employ-workers.result.pass) c.requires.first c.employ-workers.ensures.becomes in
    rw (← c.employ-workers.ensures.kits, ← gained) (c.take_down-connections.ensures.ran beginning c.close-history.result.0 begun c.close-history.ensures.history legal)

pub returns-clause-done : goal.returns-clause-done
returns-clause-done g c =
    λ beginning set.
    let seen = c.take_down-connections.ensures.grown in
    let more = c.close-history.ensures.history.grown in
    is_done g.J.Job.places g.J.Job.Did c.args.job c.employ-workers.result.done (known c.args.root) (known c.employ-workers.result.pass) c.requires.first c.employ-workers.ensures.becomes
    beginning c.close-history.result.0 (seen.0 ++ more.0) set
    (front_then (known c.employ-workers.result.pass).seen (known c.take_down-connections.new.root).seen c.close-history.result.0 seen.0 more.0 seen.1 more.1)

pub returns-clause-stopped : goal.returns-clause-stopped
returns-clause-stopped g c = rw (← c.employ-workers.ensures.listens) c.take_down-connections.ensures.stopped

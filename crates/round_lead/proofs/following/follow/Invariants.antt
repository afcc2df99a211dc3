-- The round went on to where it stands, and the caller's round is open.
use Rattle.std.proofs.Common.{◌≡◌, ◌≤◌, true}
use Rattle.vcl_runs.specs.Evaluators.{evaluator}
use Rattle.round_task.specs.Standing.{MayGoOn}
use Rattle.shared_cache.specs.Passes.{IsPassOf}
use Rattle.turnstile.specs.Handles.{known}
use Rattle.round_lead.specs.Seen.{has_open}
use Rattle.round_lead.specs.Steps.{CanClose, stood}
use Rattle.round_lead.specs.Onward.{Goes}
use Rattle.wire.specs.Telling.{told_by}
use Rattle.round_lead.proofs.following.follow.Given as goal

abbrev pub invariant-wants : goal.invariant-wants
invariant-wants g l = record {
  pass : IsPassOf l.site.shared.now l.shift.pass;
  opened : has_open (known l.shift.pass) ≡ true;
  is_open : l.progress.is_open ≡ true;
  room : CanClose l.progress;
  may : MayGoOn (λ run ran. g.M.Runner.stands run l.program ran) g.M.Runner.fits l.machine.place;
  goes : Goes (evaluator g.M.Runner.turns g.M.Runner.targets g.M.Runner.default_of l.program) (λ run ran. g.M.Runner.stands run l.program ran) g.M.Runner.fits (told_by g.D.Link.Link.flow g.D.Link.Link.read_faults g.D.Link.Link.write_faults g.D.Link.Link.peer g.D.Link.Link.is_open)
      (g.P.Programs.backends l.program) l.fn.machine.place l.fn.want
      (stood g.D.Dialer.talks g.D.Dialer.dial_faults g.K.Clock.readings g.K.Clock.words l.fn.shift (g.L.Link.flow l.fn.link) l.fn.progress)
      (stood g.D.Dialer.talks g.D.Dialer.dial_faults g.K.Clock.readings g.K.Clock.words l.shift (g.L.Link.flow l.link) l.progress) l.machine.place l.want;
  later : g.L.Link.write_faults l.fn.link ≤ g.L.Link.write_faults l.link;
  other : g.L.Link.read_faults l.link ≡ g.L.Link.read_faults l.fn.link;
  peer : g.L.Link.peer l.link ≡ g.L.Link.peer l.fn.link;
}

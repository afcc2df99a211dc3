-- What the errands so far left of the pass.
use Rattle.std.proofs.Common.{[]}
use Rattle.turnstile.specs.Handles.{known}
use Rattle.shared_cache.specs.Passes.{IsPassOf}
use Rattle.crew.specs.Calls.{HasCalled}
use Rattle.console_job.proofs.sweeping.sweep.Given as goal

abbrev pub invariant-errands : goal.invariant-errands
invariant-errands g l = record {
  pass : IsPassOf l.fn.site.shared.now l.pass;
  called : HasCalled (known l.fn.pass) (known l.pass) [];
}

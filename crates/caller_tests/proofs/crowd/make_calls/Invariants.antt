use Rattle.shared_cache.specs.Passes.{IsPassOf}
use Rattle.caller_tests.proofs.crowd.make_calls.Given as goal

abbrev pub invariant-calls : goal.invariant-calls
invariant-calls g l = IsPassOf l.cache l.pass

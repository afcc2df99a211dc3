use Rattle.shared_cache.specs.Passes.{IsPassOf}
use Rattle.caller_tests.proofs.crowd.make_rounds.Given as goal

abbrev pub invariant-rounds : goal.invariant-rounds
invariant-rounds g l = IsPassOf l.cache l.pass

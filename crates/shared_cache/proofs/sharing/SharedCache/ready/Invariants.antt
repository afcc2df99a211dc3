use Rattle.std.proofs.Common.{◌≡◌}
use Rattle.turnstile.specs.Knowledge.{saw, Grown}
use Rattle.turnstile.specs.Handles.{known, number_of}
use Rattle.shared_cache.specs.Sharing.{caller_of}
use Rattle.shared_cache.specs.Passes.{IsPassOf}
use Rattle.shared_cache.proofs.sharing.SharedCache.ready.Given as goal

abbrev pub invariant-turns : goal.invariant-turns
invariant-turns g l = record {
  pass : IsPassOf l.self l.pass;
  number : number_of l.pass ≡ number_of l.fn.pass;
  knows : known l.pass ≡ saw (known l.fn.pass) (known l.pass).seen;
  grown : Grown caller_of (known l.fn.pass) (known l.pass).seen;
}

use Rattle.std.proofs.Common.{◌≡◌}
use Rattle.turnstile.specs.Knowledge.{saw, Grown}
use Rattle.turnstile.specs.Handles.{known, number_of, IsPassOf}
use Rattle.turnstile.proofs.lock.Turnstile.turn_when.Given as goal

abbrev pub invariant-turns : goal.invariant-turns
invariant-turns g l = record {
  pass : IsPassOf l.self l.pass;
  number : number_of l.pass ≡ number_of l.fn.pass;
  knows : known l.pass ≡ saw (known l.fn.pass) (known l.pass).seen;
  grown : Grown g.T.Chronicle.caller (known l.fn.pass) (known l.pass).seen;
}

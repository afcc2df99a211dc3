use Rattle.turnstile.specs.Handles.{IsPassOf}
use Rattle.turns.proofs.crowd.visit_often.Given as goal

abbrev pub invariant-turns : goal.invariant-turns
invariant-turns g l = IsPassOf l.lock l.pass

-- A call that failed is one of those that are to fail.
use Rattle.world.proofs.failing_shelf.FailingShelfShelf.read.Goals as goal

pub returns-then-call-clause-due : goal.returns-then-call-clause-due
returns-then-call-clause-due c = rw (← c.self.view_is) (λ _. c.call.ensures.fails.0 c.if-call.true)

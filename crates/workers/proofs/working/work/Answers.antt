-- Each worker has worked, by the call that was made for its place.
use Rattle.workers.proofs.working.work.Goals as goal

pub returns : goal.returns
returns g c = λ i d low. let one = (c.for_each_mut.ensures i d low).1 in rw (← one.argument_is, ← one.left) one.call

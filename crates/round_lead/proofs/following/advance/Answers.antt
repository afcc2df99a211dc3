-- What is wanted is taken out of its place, and what is wanted next is put there.
use Rattle.round_lead.proofs.following.advance.Goals as goal

pub ask_next-requires-clause-goes_on : goal.ask_next-requires-clause-goes_on
ask_next-requires-clause-goes_on g c = rw c.replace-wanted.ensures.value c.requires.goes_on

pub returns-in-Ok-clause-goes : goal.returns-in-Ok-clause-goes
returns-in-Ok-clause-goes g c = rw c.replace-wanted.ensures.value at c.in-Ok.ensures.goes

pub returns-in-Err-clause-stops : goal.returns-in-Err-clause-stops
returns-in-Err-clause-stops g c = rw c.replace-wanted.ensures.value at c.in-Err.ensures.stops

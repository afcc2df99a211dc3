use Rattle.turnstile.proofs.Places.{gains}
use Rattle.turnstile.proofs.lock.Turnstile.give_back.Goals as goal

pub returns-clause-mine : goal.returns-clause-mine
returns-clause-mine g c = gains g.T.Chronicle.caller _ _ _ c.pass_on.ensures.pass.1 c.requires.history

use Rattle.lazy_store.proofs.Chored.{some_wait}
use Rattle.lazy_store.proofs.store.Store.chore.Goals as goal

pub returns-in_ok-chore_on-in-Some-clause-idle : goal.returns-in_ok-chore_on-in-Some-clause-idle
returns-in_ok-chore_on-in-Some-clause-idle c = ((λ none. absurd cc), (λ none. absurd (some_wait c.in-Some.waiting.number c.args.self.now c.in-Some.ensures.some none)))

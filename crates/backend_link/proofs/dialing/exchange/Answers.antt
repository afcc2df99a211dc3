-- Where no count rose, the answer is none of the faults that a count tells.
use Rattle.std.proofs.Common.{inl, inr, refl, rules}
use Rattle.wire.proofs.Gaining.{gains_failure, gains_link}
use Rattle.backend_link.proofs.SaidFacts.{exchange_said}
use Rattle.backend_link.proofs.dialing.exchange.Goals as goal

pub returns-in-Err-Failed-clause-told : goal.returns-in-Err-Failed-clause-told
returns-in-Err-Failed-clause-told g c = inr (inl (record { is = refl; gained = gains_failure _ _ _ (search rules) (search rules) }))

pub returns-clause-told : goal.returns-clause-told
returns-clause-told g c = inl (record {
  link = c.shut.new.self;
  gained = gains_link _ _ _ _ (search rules) (search rules);
  start = g.D.Link.Link.flow c.in-Ok.link;
  fresh = search rules;
  conversed = search rules;
  causes = record { writes = λ is. search rules; reads = λ is. search rules };
})

pub returns-clause-writes : goal.returns-clause-writes
returns-clause-writes g c = search rules

pub returns-clause-reads : goal.returns-clause-reads
returns-clause-reads g c = search rules

pub returns-clause-complete : goal.returns-clause-complete
returns-clause-complete g c = λ dials writes reads memory.
    exchange_said _ _ _ _ _ _ (returns-clause-told g c) c.converse-answer.ensures.dials (λ is. writes (returns-clause-writes g c is)) (λ is. reads (returns-clause-reads g c is)) memory

use Rattle.http_bodies.proofs.LawFacts.{one_count, one_refusal, not_both}
use Rattle.http_bodies.proofs.laws.one_answer.Goals as goal

pub returns-clause-one_count : goal.returns-clause-one_count
returns-clause-one_count c = one_count

pub returns-clause-one_refusal : goal.returns-clause-one_refusal
returns-clause-one_refusal c = one_refusal

pub returns-clause-not_both : goal.returns-clause-not_both
returns-clause-not_both c = not_both

use Rattle.http_bodies.proofs.LawFacts.{cut_taken, cut_refused}
use Rattle.http_bodies.proofs.AnswerFacts.{Follows-trans}
use Rattle.http_bodies.proofs.laws.any_cut.Goals as goal

pub returns-clause-joined : goal.returns-clause-joined
returns-clause-joined c = Follows-trans

pub returns-clause-taken : goal.returns-clause-taken
returns-clause-taken c = cut_taken

pub returns-clause-refused : goal.returns-clause-refused
returns-clause-refused c = cut_refused

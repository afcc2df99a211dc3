use Rattle.connection.proofs.AnswerFacts as facts
use Rattle.connection.proofs.laws.each_answered.Goals as goal

pub returns : goal.returns
returns c = facts.answers_all

use Rattle.http_heads.proofs.SentFacts.{request_sent, response_sent}
use Rattle.http_heads.proofs.laws.sent_on.Goals as goal

pub returns-clause-request : goal.returns-clause-request
returns-clause-request c = request_sent

pub returns-clause-response : goal.returns-clause-response
returns-clause-response c = response_sent

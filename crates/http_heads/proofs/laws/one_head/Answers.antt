use Rattle.http_heads.specs.Heads.{requests, responses}
use Rattle.http_heads.proofs.SentFacts.{one_request, one_response, longer_head}
use Rattle.http_heads.proofs.laws.one_head.Goals as goal

pub returns-clause-request : goal.returns-clause-request
returns-clause-request c = one_request

pub returns-clause-response : goal.returns-clause-response
returns-clause-response c = one_response

pub returns-clause-longer_request : goal.returns-clause-longer_request
returns-clause-longer_request c = longer_head requests

pub returns-clause-longer_response : goal.returns-clause-longer_response
returns-clause-longer_response c = longer_head responses

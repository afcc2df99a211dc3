use Rattle.http_bodies.proofs.FramedFacts.{says_none, says_length_of_request, says_length_of_reply, says_length_closing}
use Rattle.http_bodies.proofs.laws.framed_as_said.Goals as goal

pub returns-clause-nothing : goal.returns-clause-nothing
returns-clause-nothing c = says_none

pub returns-clause-request : goal.returns-clause-request
returns-clause-request c = says_length_of_request

pub returns-clause-reply : goal.returns-clause-reply
returns-clause-reply c = says_length_of_reply

pub returns-clause-closing : goal.returns-clause-closing
returns-clause-closing c = says_length_closing

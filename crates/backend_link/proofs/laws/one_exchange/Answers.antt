use Rattle.backend_link.proofs.OneReply.{exchange_once, no_want}
use Rattle.backend_link.proofs.laws.one_exchange.Goals as goal

pub returns-clause-one : goal.returns-clause-one
returns-clause-one c = exchange_once

pub returns-clause-over : goal.returns-clause-over
returns-clause-over c = no_want

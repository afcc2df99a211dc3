use Rattle.std.proofs.Common.{◌∙◌}
use Rattle.fetch_graph.proofs.Others.{ask-given}
use Rattle.fetch_graph.proofs.answering.take_exchange.Goals as goal

pub returns-in_default : goal.returns-in_default
returns-in_default c = c.over.ensures ∙ ask-given c.args.context c.args.given c.args.fetch c.in_default.not-Exchange

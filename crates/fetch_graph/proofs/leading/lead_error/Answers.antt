use Rattle.std.proofs.Common.{◌∙◌}
use Rattle.fetch_graph.proofs.Others.{error-other}
use Rattle.fetch_graph.proofs.leading.lead_error.Goals as goal

pub returns-in_default : goal.returns-in_default
returns-in_default c = c.give_up.ensures ∙ error-other c.args.origin c.args.word c.args.context c.args.fetch c.in_default.not-Deliver c.in_default.not-Retry

use Rattle.std.proofs.Common.{◌∙◌}
use Rattle.fetch_graph.proofs.Others.{request-other}
use Rattle.fetch_graph.proofs.leading.lead_request.Goals as goal

pub returns-in_default : goal.returns-in_default
returns-in_default c = c.give_up.ensures ∙ request-other c.args.word c.args.context c.args.fetch c.in_default.not-Fetch c.in_default.not-Error

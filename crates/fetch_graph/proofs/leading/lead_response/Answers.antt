use Rattle.std.proofs.Common.{◌∙◌}
use Rattle.fetch_graph.proofs.Others.{response-other}
use Rattle.fetch_graph.proofs.leading.lead_response.Goals as goal

pub returns-in_default : goal.returns-in_default
returns-in_default c =
    c.give_up.ensures ∙ response-other c.args.arrived c.args.word c.args.context c.args.fetch
    c.in_default.not-Deliver c.in_default.not-PassFor c.in_default.not-Error c.in_default.not-Retry

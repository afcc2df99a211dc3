use Rattle.std.proofs.Common.{◌∙◌}
use Rattle.client_graph.proofs.Others.{sent-other}
use Rattle.client_graph.proofs.taking.sent_if.Goals as goal

pub returns-in_default : goal.returns-in_default
returns-in_default c =
    c.over.ensures ∙ sent-other c.args.context c.args.given c.args.round c.in_default.not-Sent

use Rattle.std.proofs.Common.{◌∙◌}
use Rattle.client_graph.proofs.Others.{dropped-other}
use Rattle.client_graph.proofs.taking.dropped.Goals as goal

pub returns-in_default : goal.returns-in_default
returns-in_default c =
    c.over.ensures ∙ dropped-other c.args.state c.args.context c.args.reply c.args.round c.in_default.not-Dropped

use Rattle.std.proofs.Common.{◌∙◌}
use Rattle.client_graph.proofs.Others.{drawn-other}
use Rattle.client_graph.proofs.taking.drawn.Goals as goal

pub returns-in_default : goal.returns-in_default
returns-in_default c =
    c.over.ensures ∙ drawn-other c.args.context c.args.moment c.args.reply c.args.round c.in_default.not-Drawn

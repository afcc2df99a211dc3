use Rattle.std.proofs.Common.{◌∙◌}
use Rattle.client_graph.proofs.Others.{purged-other}
use Rattle.client_graph.proofs.taking.purged.Goals as goal

pub returns-in_default : goal.returns-in_default
returns-in_default c =
    c.over.ensures ∙ purged-other c.args.context c.args.reply c.args.round c.in_default.not-Purged

use Rattle.std.proofs.Common.{◌∙◌}
use Rattle.fetch_graph.proofs.Others.{picked-other}
use Rattle.fetch_graph.proofs.answering.picked.Goals as goal

pub returns-in_default : goal.returns-in_default
returns-in_default c = c.over.ensures ∙ picked-other c.args.context c.args.moment c.args.reply c.args.fetch c.in_default.not-Picked

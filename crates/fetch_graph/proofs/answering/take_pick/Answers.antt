use Rattle.std.proofs.Common.{◌∙◌}
use Rattle.fetch_graph.proofs.Others.{pick-given}
use Rattle.fetch_graph.proofs.answering.take_pick.Goals as goal

pub returns-in_default : goal.returns-in_default
returns-in_default c = c.over.ensures ∙ pick-given c.args.context c.args.given c.args.fetch c.in_default.not-Reply

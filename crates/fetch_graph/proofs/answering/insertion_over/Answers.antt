use Rattle.std.proofs.Common.{◌∙◌}
use Rattle.fetch_graph.proofs.Others.{inserted-other}
use Rattle.fetch_graph.proofs.answering.insertion_over.Goals as goal

pub returns-in_default : goal.returns-in_default
returns-in_default c =
    c.over.ensures ∙ inserted-other c.args.insertion c.args.context c.args.moment c.args.reply c.args.fetch
    c.in_default.not-Stored c.in_default.not-NotInTime c.in_default.not-NoRoom c.in_default.not-Refused c.in_default.not-StaleGone

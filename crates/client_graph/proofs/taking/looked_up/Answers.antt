use Rattle.std.proofs.Common.{◌∙◌}
use Rattle.client_graph.proofs.Others.{looked-other}
use Rattle.client_graph.proofs.taking.looked_up.Goals as goal

pub returns-in_default : goal.returns-in_default
returns-in_default c =
    c.over.ensures ∙ looked-other c.args.query c.args.context c.args.moment c.args.reply c.args.round
    c.in_default.not-Hit c.in_default.not-Grace c.in_default.not-Miss c.in_default.not-HitMiss c.in_default.not-HitPass c.in_default.not-Wait

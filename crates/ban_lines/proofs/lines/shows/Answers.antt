use Rattle.std.proofs.Common.{◌∙◌}
use Rattle.ban_lines.proofs.Shown.{shown_by}
use Rattle.ban_lines.proofs.lines.shows.Goals as goal

pub returns : goal.returns
returns c = λ moment. c.have_one.ensures ∙ shown_by c.args.number moment 0 c.args.ban.now c.args.lines.now

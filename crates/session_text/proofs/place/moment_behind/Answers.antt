use Rattle.std.proofs.Common.{sym, ap}
use Rattle.session_text.specs.Sessions.{moment_after}
use Rattle.session_text.proofs.Commanded.{moment_kept}
use Rattle.session_text.proofs.place.moment_behind.Goals as goal

pub returns-in-At : goal.returns-in-At
returns-in-At c = λ says l. let e = rw c.in-At.is at l in sym (ap (moment_after c.args.moment) e)

pub returns-in_default : goal.returns-in_default
returns-in_default c = λ says l. moment_kept c.args.moment c.args.command.now says c.in_default.not-At l

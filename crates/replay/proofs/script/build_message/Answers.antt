use Rattle.std.proofs.Common.{sym, ◌∙◌}
use Rattle.replay.proofs.Building.{no_whole, other_sites}
use Rattle.replay.proofs.script.build_message.Goals as goal

pub returns-then-not-is_of_one_site : goal.returns-then-not-is_of_one_site
returns-then-not-is_of_one_site c =
    other_sites c.args.text.now c.in-Some.head c.in-Some.body (rw c.in-Some.is at c.in_ok-head.ensures) (sym c.is_of_one_site.ensures ∙ c.if-not-is_of_one_site.true)

pub returns-in-None : goal.returns-in-None
returns-in-None c = no_whole c.args.text.now (rw c.in-None.is at c.in_ok-head.ensures)

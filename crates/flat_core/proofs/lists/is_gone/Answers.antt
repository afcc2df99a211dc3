use Rattle.std.proofs.Common.{not, ap, sym, ◌∙◌}
use Rattle.flat_core.proofs.Objects.{any-in_time}
use Rattle.flat_core.proofs.lists.is_gone.Goals as goal

pub returns-in-Some : goal.returns-in-Some
returns-in-Some c bans = rw c.in-Some.is (ap not (c.has_number.ensures ∙ sym (any-in_time bans c.args.moment c.in-Some.stale c.args.objects.now.items)))

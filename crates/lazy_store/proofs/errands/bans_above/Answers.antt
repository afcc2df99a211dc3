use Rattle.std.proofs.Common.{ap, ◌∙◌}
use Rattle.std.specs.List.{list_all}
use Rattle.cache_law.specs.ShownBans.{those_open}
use Rattle.ban_lurker.specs.Looks.{is_alone}
use Rattle.lazy_store.proofs.Chored.{above_alone}
use Rattle.lazy_store.proofs.errands.bans_above.Goals as goal

pub unreachable-requires : goal.unreachable-requires
unreachable-requires c = c.in-None.ensures (ap (list_all is_alone) c.in_ok-issued_above.ensures ∙ above_alone c.args.mark (those_open c.args.bans.now.lines))

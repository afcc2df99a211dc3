use Rattle.std.proofs.Common.{rules}
use Rattle.cache_desk.proofs.Choosing.{member_chosen}
use Rattle.cache_desk.proofs.picking.chosen.Goals as goal

pub returns-clause-within : goal.returns-clause-within
returns-clause-within c = member_chosen _ c.args.health.now c.args.vcl _ _ _ _ _ (search rules) c.choose.ensures.chosen

use Rattle.std.proofs.Common.{rules}
use Rattle.std.proofs.lemmas.Fn.{filter_same}
use Rattle.flat_core.specs.Room.{stays_from}
use Rattle.flat_core.proofs.lists.keep_from.Goals as goal

pub returns-clause-items : goal.returns-clause-items
returns-clause-items c = filter_same _ (stays_from c.args.stale c.args.bound) _ (λ x b f' k. search rules) _ _ c.retain.ensures.filtered

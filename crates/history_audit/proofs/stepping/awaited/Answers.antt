use Rattle.cache_law.specs.History.{reached}
use Rattle.history_audit.proofs.Joins.{awaited_by, waits_for_none}
use Rattle.history_audit.proofs.stepping.awaited.Goals as goal

pub returns-in-Lookup : goal.returns-in-Lookup
returns-in-Lookup c = rw c.in-Lookup.is (awaited_by (reached c.args.core.now.beginning c.args.core.now.entries) c.args.caller c.in-Lookup.field-0 c.awaits.result c.awaits.ensures)

pub returns-in_default : goal.returns-in_default
returns-in_default c = waits_for_none (reached c.args.core.now.beginning c.args.core.now.entries) c.args.caller c.args.call.now c.in_default.not-Lookup

use Rattle.std.proofs.Common.{rules}
use Rattle.cache_desk.specs.Desk.{bare}
use Rattle.cache_desk.specs.contracts.desk.Desk.{the_view}
use Rattle.cache_desk.proofs.Replies.{lists_vcls}
use Rattle.cache_desk.proofs.desk.Desk.list_vcls.Goals as goal

pub returns-clause-ok : goal.returns-clause-ok
returns-clause-ok c = rw (← c.self.view_is) (lists_vcls (bare (the_view c.self.inside)) _ c.in_ok-lines.lines _ (search rules) (search rules) (search rules))

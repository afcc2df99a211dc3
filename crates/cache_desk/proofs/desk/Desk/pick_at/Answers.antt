use Rattle.std.proofs.Common.{rules}
use Rattle.cache_desk.specs.Desk.{bare}
use Rattle.cache_desk.specs.contracts.desk.Desk.{the_view}
use Rattle.cache_desk.proofs.Replies.{picks}
use Rattle.cache_desk.proofs.desk.Desk.pick_at.Goals as goal

pub returns-clause-ok : goal.returns-clause-ok
returns-clause-ok c word = rw (← c.self.view_is) (picks (bare (the_view c.self.inside)) _ _ word c.args.place _ _ c.in_ok-name.name _ (search rules) (search rules) (search rules) (search rules))

use Rattle.std.proofs.Common.{rules, refl}
use Rattle.cache_desk.proofs.Replies.{drops_not, drops}
use Rattle.cache_desk.proofs.desk.Desk.drop_fetch.Goals as goal

pub returns-then-not-has_fetch : goal.returns-then-not-has_fetch
returns-then-not-has_fetch c = rw (← c.self.view_is) (drops_not _ _ _ _ _ (search rules) refl refl)

pub returns : goal.returns
returns c = rw (← c.self.view_is) (drops _ _ _ _ _ _ (search rules) (search rules) refl refl)

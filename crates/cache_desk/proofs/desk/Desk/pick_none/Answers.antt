use Rattle.std.proofs.Common.{refl}
use Rattle.cache_desk.proofs.Replies.{picks_none}
use Rattle.cache_desk.proofs.desk.Desk.pick_none.Goals as goal

pub returns : goal.returns
returns c vcl word target = rw (← c.self.view_is) (picks_none _ vcl target word _ _ refl refl)

use Rattle.cache_frame.proofs.Results.{ok_map}
use Rattle.lazy_core.proofs.Standing.{shown_so}
use Rattle.lazy_core.proofs.shelf.LazyShelfShelf.ban_lines.Goals as goal

pub returns : goal.returns
returns c = ok_map _ _ (λ lines are. shown_so c.args.self.now.store c.args._moment lines are) c.ban_lines.result c.ban_lines.ensures

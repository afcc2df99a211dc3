use Rattle.cache_frame.proofs.Results.{ok_map}
use Rattle.lazy_core.proofs.Standing.{gone_so}
use Rattle.lazy_core.proofs.shelf.LazyShelfShelf.is_gone.Goals as goal

pub returns : goal.returns
returns c = ok_map _ _ (λ gone is. gone_so c.args.self.now.store c.args.moment c.args.stale gone is) c.is_gone.result c.is_gone.ensures

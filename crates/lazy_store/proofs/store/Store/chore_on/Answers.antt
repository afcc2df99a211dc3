use Rattle.std.proofs.Common.{sym}
use Rattle.lazy_store.specs.Members.{placed_in}
use Rattle.lazy_store.proofs.Chored.{chore_is, chore_so, some_numbered}
use Rattle.lazy_store.proofs.store.Store.chore_on.Goals as goal

pub unreachable-requires : goal.unreachable-requires
unreachable-requires c = some_numbered c.args.number c.args.self.now (sym c.in_default.ensures.found) c.requires

pub returns : goal.returns
returns c = chore_so c.args.number (placed_in c.in-Some.item.now) c.args.self.now _ c.in-Some.ensures.apart (sym c.in-Some.ensures.found) c.requires
    (chore_is (placed_in c.in-Some.item.now) c.args.self.now c.in_ok-view.view c.issued-upto.result _ c.in_ok-view.ensures c.issued-upto.ensures.count c.in_ok-bans_above.ensures)

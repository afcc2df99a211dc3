use Rattle.cache_law.specs.declared.call.Call.TheVariants.{Ban}
use Rattle.cache_law.specs.declared.call.Reply.TheVariants.{Banned}
use Rattle.lazy_core.proofs.Placings.{ban_cut, issued_so, untested_so}
use Rattle.lazy_core.proofs.Shelved.{moves_so}
use Rattle.lazy_core.proofs.shelf.LazyShelfShelf.ban.Goals as goal

pub returns-clause-ok : goal.returns-clause-ok
returns-clause-ok c =
    moves_so c.args.self.now (record { store = c.cut.new.self }) c.args.moment (Ban c.args.ban.now) Banned
    (ban_cut c.args.self.now.store c.ban.new.self c.cut.new.self c.args.moment c.args.ban.now c.in_ok-ban.ensures.ok c.cut.ensures.cut)

pub returns-clause-untested : goal.returns-clause-untested
returns-clause-untested c = untested_so c.args.self.now.store c.ban.new.self c.cut.new.self c.args.moment c.args.ban.now c.in_ok-ban.ensures.ok c.cut.ensures.cut

pub returns-clause-issued : goal.returns-clause-issued
returns-clause-issued c = issued_so c.args.self.now.store c.ban.new.self c.cut.new.self c.args.moment c.args.ban.now c.in_ok-ban.ensures.ok c.cut.ensures.cut

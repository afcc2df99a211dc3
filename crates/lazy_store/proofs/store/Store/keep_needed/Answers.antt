use Rattle.std.proofs.Common.{◌+◌, ap, ◌∙◌, subst, sym, List}
use Rattle.cache_law.specs.declared.ban.BanLine.{BanLine}
use Rattle.ban_list.specs.Bans.{Bans}
use Rattle.lazy_law.specs.Placed.{Lazy}
use Rattle.lazy_store.specs.Cutting.{with_needed}
use Rattle.lazy_store.specs.Members.{lazy_of}
use Rattle.lazy_store.specs.Tied.{AreTied}
use Rattle.lazy_store.proofs.Needed.{needed_left, tied_left}
use Rattle.lazy_store.proofs.store.Store.keep_needed.Goals as goal

pub invariant_of-self : goal.invariant_of-self
invariant_of-self c =
    let own : Bans = c.self.inside.bans in
    subst (λ (bans : Bans). AreTied c.self.inside.heads c.self.inside.tagged c.self.inside.room bans c.self.inside.newest c.self.inside.unswept) (sym c.keep_needed.ensures)
    (tied_left (own.issued + 1) c.self.inside.heads c.self.inside.tagged c.self.inside.room own c.self.inside.newest c.self.inside.unswept c.issued-issued.ensures.in_order c.self.invariant)

pub returns : goal.returns
returns c =
    let own : Bans = c.self.inside.bans in
    let before : Lazy = lazy_of c.self.inside.heads own in
    ap (lazy_of c.self.inside.heads) c.keep_needed.ensures
    ∙ ap (λ (lines : List BanLine). record before { lines = lines }) (needed_left (own.issued + 1) c.self.inside.heads own c.issued-issued.ensures.in_order c.self.invariant.stands)
    ∙ ap with_needed c.self.view_is

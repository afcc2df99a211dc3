use Rattle.std.proofs.Common.{◌+◌, ap, ◌∙◌, subst, sym}
use Rattle.ban_list.specs.Bans.{Bans}
use Rattle.lazy_law.specs.Banning.{MayBeCut, cut_to}
use Rattle.lazy_law.specs.Placed.{Lazy}
use Rattle.lazy_law.specs.Sweeping.{count_unswept}
use Rattle.lazy_store.specs.Cutting.{IsOldestNeeded}
use Rattle.lazy_store.specs.Members.{lazy_of}
use Rattle.lazy_store.specs.Tied.{AreTied}
use Rattle.lazy_store.proofs.Cuts.{may_be_cut, tied_cut}
use Rattle.lazy_store.proofs.Oldest.{oldest_needed}
use Rattle.lazy_store.proofs.store.Store.cut.Goals as goal

pub invariant_of-self : goal.invariant_of-self
invariant_of-self c =
    let own : Bans = c.self.inside.bans in
    subst (λ (bans : Bans). AreTied c.self.inside.heads c.self.inside.tagged c.self.inside.room bans c.self.inside.newest c.self.inside.unswept) (sym c.cut.ensures.is)
    (tied_cut (own.issued + 1) c.cut.ensures.left c.self.inside.heads c.self.inside.tagged c.self.inside.room own c.self.inside.newest c.self.inside.unswept c.issued-issued.ensures.in_order c.cut.ensures.within
    (may_be_cut (own.issued + 1) c.cut.ensures.left c.self.inside.heads own c.issued-issued.ensures.in_order c.self.invariant.stands c.cut.ensures.gone) c.self.invariant)

pub returns-clause-cut : goal.returns-clause-cut
returns-clause-cut c =
    let own : Bans = c.self.inside.bans in
    record {
      left = c.cut.ensures.left;
      may = subst (λ (lazy : Lazy). MayBeCut c.cut.ensures.left lazy) c.self.view_is (may_be_cut (own.issued + 1) c.cut.ensures.left c.self.inside.heads own c.issued-issued.ensures.in_order c.self.invariant.stands c.cut.ensures.gone);
      is = ap (lazy_of c.self.inside.heads) c.cut.ensures.is ∙ ap (cut_to c.cut.ensures.left) c.self.view_is;
    }

pub returns-clause-waiting : goal.returns-clause-waiting
returns-clause-waiting c =
    let own : Bans = c.self.inside.bans in
    let tied = tied_cut (own.issued + 1) c.cut.ensures.left c.self.inside.heads c.self.inside.tagged c.self.inside.room own c.self.inside.newest c.self.inside.unswept c.issued-issued.ensures.in_order c.cut.ensures.within
    (may_be_cut (own.issued + 1) c.cut.ensures.left c.self.inside.heads own c.issued-issued.ensures.in_order c.self.invariant.stands c.cut.ensures.gone) c.self.invariant in
    ap (λ (bans : Bans). count_unswept (lazy_of c.self.inside.heads bans)) c.cut.ensures.is ∙ sym tied.waiting ∙ c.self.invariant.waiting ∙ ap count_unswept c.self.view_is

pub returns-clause-oldest : goal.returns-clause-oldest
returns-clause-oldest c =
    let own : Bans = c.self.inside.bans in
    subst (λ (bans : Bans). IsOldestNeeded (lazy_of c.self.inside.heads bans)) (sym c.cut.ensures.is)
    (oldest_needed (own.issued + 1) c.cut.ensures.left c.self.inside.heads own c.issued-issued.ensures.in_order c.self.invariant.stands c.cut.ensures.within c.cut.ensures.oldest)

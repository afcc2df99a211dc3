use Rattle.std.proofs.Common.{◌≡◌, true, subst, arith}
use Rattle.std.specs.List.{list_any}
use Rattle.lazy_law.specs.Placed.{Lazy, kept_bans}
use Rattle.lazy_law.specs.Sweeping.{count_unswept}
use Rattle.lazy_store.specs.Found.{is_marked_below}
use Rattle.lazy_store.specs.Lurking.{is_waiting_as}
use Rattle.lazy_store.specs.Members.{number_in}
use Rattle.lazy_store.specs.Tied.{AreApart}
use Rattle.lazy_store.proofs.Fewer.{none_waits_there, waits_there}
use Rattle.lazy_store.proofs.Findings.{apart_placed}
use Rattle.lazy_store.proofs.Results.{none_on, some_on}
use Rattle.lazy_store.proofs.store.Store.waiting.Goals as goal

pub returns-then-self-eq0-clause-apart : goal.returns-then-self-eq0-clause-apart
returns-then-self-eq0-clause-apart c = subst (λ (lazy : Lazy). AreApart number_in lazy.objects) c.self.view_is (apart_placed c.self.inside.heads c.self.invariant.numbers)

pub returns-clause-apart : goal.returns-clause-apart
returns-clause-apart c = subst (λ (lazy : Lazy). AreApart number_in lazy.objects) c.self.view_is (apart_placed c.self.inside.heads c.self.invariant.numbers)

pub returns-clause-some : goal.returns-clause-some
returns-clause-some c =
    some_on (λ w. list_any (is_marked_below w.number c.self.inside.newest) c.self.inside.heads ≡ true) (λ w. list_any (is_waiting_as w.number (kept_bans c.args.self.now)) c.args.self.now.objects ≡ true)
    (λ w is.
    subst (λ (lazy : Lazy). list_any (is_waiting_as w.number (kept_bans lazy)) lazy.objects ≡ true) c.self.view_is
    (waits_there w.number c.self.inside.newest c.self.inside.unswept c.self.inside.heads c.self.inside.bans c.self.invariant.alone (λ e. omega arith) is))
    c.waiting_round.result c.waiting_round.ensures.some

pub returns-clause-none : goal.returns-clause-none
returns-clause-none c =
    none_on _ (count_unswept c.args.self.now ≡ 0)
    (λ all.
    subst (λ (lazy : Lazy). count_unswept lazy ≡ 0) c.self.view_is
    (none_waits_there c.self.inside.newest c.self.inside.unswept c.self.inside.heads c.self.inside.bans c.self.invariant.alone (λ e. omega arith) all))
    c.waiting_round.result c.waiting_round.ensures.none

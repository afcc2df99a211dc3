use Rattle.std.proofs.Common.{◌≡◌, true, false, Some, None, find, ap, sym, subst, arith}
use Rattle.std.specs.Prelude.{option_map}
use Rattle.cache_law.specs.ShownBans.{those_open}
use Rattle.lazy_law.specs.Placed.{Lazy, Placed, kept_bans}
use Rattle.lazy_store.specs.Changes.{is_waiting}
use Rattle.lazy_store.specs.Found.{found_in}
use Rattle.lazy_store.specs.Members.{at_number}
use Rattle.lazy_store.specs.Settling.{is_open}
use Rattle.lazy_store.proofs.Changes.{none_numbered, none_of}
use Rattle.lazy_store.proofs.Settles.{equal_so, open_found, open_none, unequal}
use Rattle.lazy_store.proofs.store.Store.place_of_open.Goals as goal

pub returns-in-None : goal.returns-in-None
returns-in-None c =
    subst (λ (lazy : Lazy). None ≡ option_map (λ (p : Placed). p.place) (find (is_open (kept_bans lazy) c.args.verdict) lazy.objects)) c.self.view_is
    (sym (ap (option_map (λ (p : Placed). p.place)) (open_none c.args.verdict (those_open c.self.inside.bans.lines) c.self.inside.heads
    (none_numbered c.args.verdict.object c.self.inside.heads (none_of found_in (at_number c.args.verdict.object c.self.inside.heads) c.in-None.ensures)))))

pub returns-then-stand-verdict : goal.returns-then-stand-verdict
returns-then-stand-verdict c =
    subst (λ (lazy : Lazy). None ≡ option_map (λ (p : Placed). p.place) (find (is_open (kept_bans lazy) c.args.verdict) lazy.objects)) c.self.view_is
    (sym (open_found c.args.verdict c.in-Some.found c.self.inside.heads c.self.inside.tagged c.self.inside.room c.self.inside.bans c.self.inside.newest c.self.inside.unswept false c.self.invariant c.in-Some.ensures
    (unequal c.in-Some.found.placement.stand.mark c.args.verdict.mark (is_waiting c.self.inside.unswept c.self.inside.newest c.in-Some.found.placement.stand.mark) c.if-stand-verdict.true)))

pub returns-then-not-is_waiting : goal.returns-then-not-is_waiting
returns-then-not-is_waiting c =
    let not_ : is_waiting c.self.inside.unswept c.self.inside.newest c.in-Some.found.placement.stand.mark ≡ false = cc in
    subst (λ (lazy : Lazy). None ≡ option_map (λ (p : Placed). p.place) (find (is_open (kept_bans lazy) c.args.verdict) lazy.objects)) c.self.view_is
    (sym (open_found c.args.verdict c.in-Some.found c.self.inside.heads c.self.inside.tagged c.self.inside.room c.self.inside.bans c.self.inside.newest c.self.inside.unswept false c.self.invariant c.in-Some.ensures
    (equal_so c.in-Some.found.placement.stand.mark c.args.verdict.mark (is_waiting c.self.inside.unswept c.self.inside.newest c.in-Some.found.placement.stand.mark) false (omega arith) not_)))

pub returns : goal.returns
returns c =
    let waits : is_waiting c.self.inside.unswept c.self.inside.newest c.in-Some.found.placement.stand.mark ≡ true = cc in
    subst (λ (lazy : Lazy). Some c.in-Some.found.placement.stand.place ≡ option_map (λ (p : Placed). p.place) (find (is_open (kept_bans lazy) c.args.verdict) lazy.objects)) c.self.view_is
    (sym (open_found c.args.verdict c.in-Some.found c.self.inside.heads c.self.inside.tagged c.self.inside.room c.self.inside.bans c.self.inside.newest c.self.inside.unswept true c.self.invariant c.in-Some.ensures
    (equal_so c.in-Some.found.placement.stand.mark c.args.verdict.mark (is_waiting c.self.inside.unswept c.self.inside.newest c.in-Some.found.placement.stand.mark) true (omega arith) waits)))

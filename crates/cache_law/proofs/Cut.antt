-- A state without the bans that wait for nothing is a base, and alike.
use Rattle.std.proofs.Common.{ℕ, List, [], ◌∷◌, ◌+◌, ◌≤◌, inl, inr, refl, arith, sym, ap, subst}
use Rattle.std.specs.List.{AllByRecursion}
use Rattle.cache_law.specs.declared.ban.Issued.{Issued}
use Rattle.cache_law.specs.ShownBans.{IsPartOf}
use Rattle.cache_law.specs.State.{State, Held, as_seen}
use Rattle.cache_law.specs.BansAtOnce.{AwaitIssued}
use Rattle.cache_law.specs.Bases.{AreAlike, AreFalling, AreHeldAlike, IsAwaited, IsBase, IsClosed, IsSound}
use Rattle.cache_law.proofs.Moments.{those_in_time-later}
use Rattle.cache_law.proofs.GoingOn.{own_held}

pub falling_more : (less more : ℕ) (bans : List Issued) → less ≤ more → AreFalling less bans → AreFalling more bans
falling_more less more [] order falling = tt
falling_more less more (ban ∷ bans) order falling = (omega (arith, order, falling.0), falling.1)

pub part_falling : (bound : ℕ) (part whole : List Issued) → IsPartOf part whole → AreFalling bound whole → AreFalling bound part
part_falling bound [] whole p falling = tt
part_falling bound (ban ∷ part) [] p falling = absurd p
part_falling bound (ban ∷ part) (other ∷ whole) (inl both) falling =
    let same = ap (λ (b : Issued). b.number) both.0 in
    (omega (arith, same, falling.0), part_falling ban.number part whole both.1 (falling_more other.number ban.number whole (omega (arith, same)) falling.1))
part_falling bound (ban ∷ part) (other ∷ whole) (inr p) falling =
    part_falling bound (ban ∷ part) whole p (falling_more other.number bound whole (omega (arith, falling.0)) falling.1)

pub base_over : (state : State) (bans : List Issued) → IsSound (as_seen state) → IsClosed state → IsPartOf bans state.bans → AwaitIssued bans (as_seen state).objects
    → AllByRecursion (λ (ban : Issued). IsAwaited ban (as_seen state).objects) bans → IsBase (record (as_seen state) { bans = bans })
base_over state bans sound closed part await needed =
    record {
      sound = record {
        drew = sound.drew;
        issued = sound.issued;
        falling = part_falling (state.issued + 1) bans state.bans part sound.falling;
        waiting = await;
        apart = sound.apart;
        drawn = sound.drawn;
        stored = sound.stored;
        uses = sound.uses;
        used = sound.used;
        opened = sound.opened;
        rising = sound.rising;
        loaded = sound.loaded;
        active = sound.active;
      };
      closed = record { rounds = closed.rounds; fetches = closed.fetches };
      in_time = those_in_time-later state.moment state.moment (omega arith) state.objects;
      needed = needed;
    }

pub alike_over : (state : State) (bans : List Issued) → IsPartOf bans state.bans → AreAlike (record (as_seen state) { bans = bans }) state
alike_over state bans part =
    record {
      rest = refl;
      bans = part;
      objects = subst (λ (objects : List Held). AreHeldAlike objects (as_seen state).objects) (sym (those_in_time-later state.moment state.moment (omega arith) state.objects)) (own_held (as_seen state).objects);
    }

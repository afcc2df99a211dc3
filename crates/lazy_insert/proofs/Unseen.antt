-- What goes and what is tested where room is wanting, the law doesn't see.
use Rattle.std.proofs.Common.{◌≡◌, inl, inr, ℕ, Bool, true, false, not, List, [], ◌∷◌, ◌&&◌, filter, map, refl, sym, ap, ◌∙◌, subst}
use Rattle.cache_law.specs.declared.ban.Issued.{Issued}
use Rattle.cache_law.specs.declared.call.Entry.{Entry}
use Rattle.cache_law.specs.Beginning.{Beginning}
use Rattle.cache_law.specs.History.{reached}
use Rattle.cache_law.specs.State.{State}
use Rattle.cache_law.proofs.Held.{all-filter}
use Rattle.ban_lurker.specs.Looks.{look_of}
use Rattle.lazy_law.specs.Placed.{Lazy, Placed, held_of, is_alive, is_dead, kept_bans, seen}
use Rattle.lazy_law.specs.Insertion.{has_number}
use Rattle.lazy_law.specs.Standing.{IsKnownBy, StandsAt}
use Rattle.lazy_law.specs.Stands.{Agrees, IsWithin}
use Rattle.lazy_law.proofs.Filters.{each, filter_both, filter_on}
use Rattle.lazy_law.proofs.Lurking.{swept_at}
use Rattle.lazy_law.proofs.Staying.{kept_with}
use Rattle.lazy_store.specs.Lurking.{swept_each}
use Rattle.lazy_store.specs.Tidying.{is_timely, with_timely}
use Rattle.lazy_insert.specs.Inserted.{IsTidied}

both_again : (timely spared : Bool) → (timely && (timely && spared)) ≡ (timely && spared)
both_again true spared = refl
both_again false spared = refl

timely_seen : (moment : ℕ) (bans : List Issued) (objects : List Placed) → seen moment bans (filter (is_timely moment) objects) ≡ seen moment bans objects
timely_seen moment bans objects =
    ap (map (held_of bans))
    (filter_both (is_alive moment bans) (is_timely moment) objects
    ∙ filter_on (λ (p : Placed). is_timely moment p && is_alive moment bans p) (is_alive moment bans) objects (each _ (λ (p : Placed). both_again (is_timely moment p) (not (is_dead bans p))) objects))

timely_at : (beginning : Beginning) (entries : List Entry) (lazy : Lazy) → StandsAt lazy beginning entries → StandsAt (with_timely (reached beginning entries).moment lazy) beginning entries
timely_at beginning entries lazy at =
    let state : State = reached beginning entries in
    let timely : Placed → Bool = is_timely state.moment in
    record {
      stands = record {
        count = at.stands.count;
        kept = kept_with lazy state.bans (filter timely lazy.objects) at.stands.kept (all-filter (IsWithin lazy.issued) timely lazy.objects at.stands.kept.within)
            (all-filter (Agrees (kept_bans lazy) state.bans) timely lazy.objects at.stands.kept.agrees);
        same = at.stands.same ∙ sym (timely_seen state.moment state.bans lazy.objects);
      };
      looks = all-filter (IsKnownBy (look_of beginning entries)) timely lazy.objects at.looks;
      unborn = at.unborn;
    }

pub each_at : (beginning : Beginning) (entries : List Entry) (numbers : List ℕ) (lazy : Lazy) → StandsAt lazy beginning entries → StandsAt (swept_each numbers lazy) beginning entries
each_at beginning entries [] lazy at = at
each_at beginning entries (number ∷ numbers) lazy at = swept_at (swept_each numbers lazy) beginning entries (has_number number) (each_at beginning entries numbers lazy at)

pub tidied_at : (beginning : Beginning) (entries : List Entry) (old new : Lazy) → IsTidied (reached beginning entries).moment old new → StandsAt old beginning entries → StandsAt new beginning entries
tidied_at beginning entries old new (inl same) at = subst (λ (lazy : Lazy). StandsAt lazy beginning entries) (sym same) at
tidied_at beginning entries old new (inr swept_) at =
    subst (λ (lazy : Lazy). StandsAt lazy beginning entries) (sym swept_.is)
    (each_at beginning entries swept_.numbers (with_timely (reached beginning entries).moment old) (timely_at beginning entries old at))

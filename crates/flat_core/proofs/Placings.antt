-- The plain cache's shelf stands for what an insertion, a ban and a purge leave.
use Rattle.std.proofs.Common.{◌≡◌, ◌≤◌, ◌+◌, ◌∷◌, ℕ, true, false, List, length, filter, map, Option, refl, sym, ap, ◌∙◌, subst, arith}
use Rattle.cache_law.specs.declared.object.Object.{Object}
use Rattle.cache_law.specs.declared.ban.Ban.{Ban as BanWords}
use Rattle.cache_law.specs.declared.ban.Issued.{Issued}
use Rattle.cache_law.specs.declared.call.Call.TheVariants.{Insert, Ban, Purge, Xkey}
use Rattle.cache_law.specs.declared.call.Entry.{Entry}
use Rattle.cache_law.specs.declared.call.Reply.TheVariants as replies
use Rattle.cache_law.specs.Object.{in_time, size_of}
use Rattle.cache_law.specs.BansAtOnce.{issued_behind}
use Rattle.cache_law.specs.Beginning.{Beginning}
use Rattle.cache_law.specs.History.{reached}
use Rattle.cache_law.specs.State.{State, has_fetch, is_gone, those_in_time, without_fetch}
use Rattle.cache_frame.specs.declared.seen.Placing.TheVariants.{Stored as IsStored, NotInTime, NoRoom, Refused}
use Rattle.cache_frame.specs.Shelves.{MovesOn, Places}
use Rattle.flat_core.specs.declared.stored_object.StoredObject.{StoredObject}
use Rattle.flat_core.specs.Banning.{ban_fates}
use Rattle.flat_core.specs.Purging.{has_key, has_xkey, is_purged, is_spared, softening}
use Rattle.flat_core.specs.Room.{stays_from, HasNone, MakesRoom}
use Rattle.flat_core.specs.Shelf.{StandsFor, Stored}
use Rattle.flat_core.specs.StoredObject.{AreOrdered, AreTested, first_of, settled}
use Rattle.flat_core.proofs.Purges.{softened_tested}
use Rattle.flat_core.proofs.Replies.{Insertion, bans_so, keeping, no_room, purges, refuses_late, softens, stores, too_late}
use Rattle.flat_core.proofs.Standing.{moves}
use Rattle.flat_core.specs.Rests.{laid, same_at}
use Rattle.flat_core.proofs.Tested.{filter_tested, first_tested, more_tested, settled_tested}

module _ (stored : Stored) (room used now token : ℕ) (object : Object) (stale : Option ℕ) where
  here_so : (beginning : Beginning) (entries : List Entry) → StandsFor stored beginning entries → (reached beginning entries).moment ≤ now → is_gone stale (those_in_time now (reached beginning entries).objects) ≡ false
      → is_gone stale (those_in_time now (laid stored (reached beginning entries)).objects) ≡ false
  here_so beginning entries stands later here = ap (λ (s : State). is_gone stale s.objects) (same_at stored (reached beginning entries) now stands.reaches later) ∙ here

  -- the object isn't in time
  pub late_places : in_time now object ≡ false → Places StandsFor stored stored room used now token object stale NotInTime
  late_places late beginning entries caller sound stands later is_room place opened here =
      let state : State = reached beginning entries in
      moves stored stored room beginning entries caller now (Insert token object stale) (record (laid stored state) { moment = now; fetches = without_fetch token state.fetches }) (record { told = replies.NotInTime; kept = replies.NotInTime }) stands later is_room
      (too_late room (laid stored state) now caller token object stale (without_fetch token state.fetches) (record { told = replies.NotInTime; kept = replies.NotInTime }) opened (here_so beginning entries stands later here) late refl refl refl) refl stands.ordered

  module _ (left : List StoredObject) (thinned : left ≡ filter (λ (kept : StoredObject). in_time now kept.view.object) stored.objects) where
    abbrev made : (beginning : Beginning) (entries : List Entry) (caller : ℕ) → StandsFor stored beginning entries → (reached beginning entries).moment ≤ now → has_fetch (reached beginning entries).fetches caller token ≡ true
        → is_gone stale (those_in_time now (reached beginning entries).objects) ≡ false → Insertion
    made beginning entries caller stands later opened here =
        record {
          room = room;
          old = laid stored (reached beginning entries);
          views = stored.objects;
          left = left;
          now = now;
          caller = caller;
          token = token;
          object = object;
          stale = stale;
          fetches = without_fetch token (reached beginning entries).fetches;
          falling = stands.ordered.falling;
          kept = refl;
          opened = opened;
          here = here_so beginning entries stands later here;
          thinned = thinned;
          closed = refl;
        }

    left_tested : AreTested stored.issued stored.objects → AreTested stored.issued left
    left_tested tested = subst (AreTested stored.issued) (sym thinned) (filter_tested stored.issued (λ (kept : StoredObject). in_time now kept.view.object) stored.objects tested)

    left_ordered : AreOrdered stored.issued stored.bans stored.objects → AreOrdered stored.issued stored.bans left
    left_ordered ordered = record { falling = ordered.falling; tested = left_tested ordered.tested }

    -- there is no room
    pub full_places : in_time now object ≡ true → HasNone room (size_of object) stale left → Places StandsFor stored (record stored { objects = left }) room used now token object stale NoRoom
    full_places lives full beginning entries caller sound stands later is_room place opened here =
        let i = made beginning entries caller stands later opened here in
        moves stored (record stored { objects = left }) room beginning entries caller now (Insert token object stale) (keeping i left) (record { told = replies.NoRoom; kept = replies.NoRoom }) stands later is_room
        (no_room i (record { told = replies.NoRoom; kept = replies.NoRoom }) lives full refl refl) refl (left_ordered stands.ordered)

    -- memory was wanting
    pub refused_places : Places StandsFor stored (record stored { objects = left }) room used now token object stale Refused
    refused_places beginning entries caller sound stands later is_room place opened here =
        let i = made beginning entries caller stands later opened here in
        moves stored (record stored { objects = left }) room beginning entries caller now (Insert token object stale) (keeping i left) (record { told = replies.Refused; kept = replies.Refused }) stands later is_room
        (refuses_late i (record { told = replies.Refused; kept = replies.Refused }) refl refl) refl (left_ordered stands.ordered)

    -- the object is stored
    pub stored_places : in_time now object ≡ true → (bound : ℕ) → MakesRoom room (size_of object) stale left bound → (later_ : List StoredObject) → later_ ≡ first_of used token object stale stored.issued left ∷ filter (stays_from stale bound) left
        → Places StandsFor stored (record stored { objects = later_ }) room used now token object stale IsStored
    stored_places lives bound makes later_ first beginning entries caller sound stands later is_room place opened here =
        let i = made beginning entries caller stands later opened here in
        let first_ : later_ ≡ first_of i.old.entries token object stale stored.issued left ∷ filter (stays_from stale bound) left =
        first ∙ ap (λ (n : ℕ). first_of n token object stale stored.issued left ∷ filter (stays_from stale bound) left) (sym place) in
        moves stored (record stored { objects = later_ }) room beginning entries caller now (Insert token object stale) (keeping i later_) (record { told = replies.Stored token; kept = replies.Stored token }) stands later is_room
        (stores i bound later_ (record { told = replies.Stored token; kept = replies.Stored token }) lives makes first_ refl refl) refl
        (record {
          falling = stands.ordered.falling;
          tested = subst (AreTested stored.issued) (sym first) (first_tested stored.issued used token object stale bound left (left_tested stands.ordered.tested));
        })

-- a ban is issued
pub ban_moves : (stored : Stored) (now : ℕ) (ban : BanWords) (all : List Issued) (later_ : List StoredObject) (count : ℕ) → all ≡ issued_behind stored.issued now ban ∷ stored.bans → count ≡ stored.issued + 1 → later_ ≡ settled count (ban_fates now ban stored.objects) stored.objects
    → MovesOn StandsFor stored (record { issued = count; bans = all; objects = later_ }) now (Ban ban) replies.Banned
ban_moves stored now ban all later_ count pushed counts settles beginning entries caller sound stands later =
    let old : State = laid stored (reached beginning entries) in
    moves stored (record { issued = count; bans = all; objects = later_ }) beginning.params.room beginning entries caller now (Ban ban) _ (record { told = replies.Banned; kept = replies.Banned }) stands later refl
    (bans_so old stored.objects later_ all (issued_behind stored.issued now ban) ban (ban_fates now ban stored.objects) count now (record { told = replies.Banned; kept = replies.Banned }) refl stands.ordered.tested refl pushed refl counts settles refl refl) refl
    (rw (settles, counts, pushed)
    (record {
      falling = (omega arith, stands.ordered.falling);
      tested = settled_tested (stored.issued + 1) (stored.issued + 1) (ban_fates now ban stored.objects) stored.objects (omega arith) (more_tested stored.issued stored.objects stands.ordered.tested);
    }))

-- objects are purged
pub key_moves : (stored : Stored) (now : ℕ) (key : List (List ℕ)) (later_ : List StoredObject) (count : ℕ) → later_ ≡ filter (is_spared now (has_key key)) stored.objects → count ≡ length (filter (is_purged now (has_key key)) stored.objects)
    → MovesOn StandsFor stored (record stored { objects = later_ }) now (Purge key) (replies.Purged count)
key_moves stored now key later_ count left counts beginning entries caller sound stands later =
    moves stored (record stored { objects = later_ }) beginning.params.room beginning entries caller now (Purge key) _ (record { told = replies.Purged count; kept = replies.Purged count }) stands later refl
    (purges (laid stored (reached beginning entries)) stored.objects later_ (has_key key) (Purge key) _ count now (record { told = replies.Purged count; kept = replies.Purged count }) refl refl refl left counts refl refl) refl
    (record { falling = stands.ordered.falling; tested = subst (AreTested stored.issued) (sym left) (filter_tested stored.issued (is_spared now (has_key key)) stored.objects stands.ordered.tested) })

pub xkey_moves : (stored : Stored) (now : ℕ) (keys : List (List ℕ)) (later_ : List StoredObject) (count : ℕ) → later_ ≡ filter (is_spared now (has_xkey keys)) stored.objects → count ≡ length (filter (is_purged now (has_xkey keys)) stored.objects)
    → MovesOn StandsFor stored (record stored { objects = later_ }) now (Xkey keys false) (replies.Purged count)
xkey_moves stored now keys later_ count left counts beginning entries caller sound stands later =
    moves stored (record stored { objects = later_ }) beginning.params.room beginning entries caller now (Xkey keys false) _ (record { told = replies.Purged count; kept = replies.Purged count }) stands later refl
    (purges (laid stored (reached beginning entries)) stored.objects later_ (has_xkey keys) (Xkey keys false) _ count now (record { told = replies.Purged count; kept = replies.Purged count }) refl refl refl left counts refl refl) refl
    (record { falling = stands.ordered.falling; tested = subst (AreTested stored.issued) (sym left) (filter_tested stored.issued (is_spared now (has_xkey keys)) stored.objects stands.ordered.tested) })

pub soft_moves : (stored : Stored) (now : ℕ) (keys : List (List ℕ)) (later_ : List StoredObject) (count : ℕ) → later_ ≡ map (softening now keys) stored.objects → count ≡ length (filter (is_purged now (has_xkey keys)) stored.objects)
    → MovesOn StandsFor stored (record stored { objects = later_ }) now (Xkey keys true) (replies.Purged count)
soft_moves stored now keys later_ count left counts beginning entries caller sound stands later =
    moves stored (record stored { objects = later_ }) beginning.params.room beginning entries caller now (Xkey keys true) _ (record { told = replies.Purged count; kept = replies.Purged count }) stands later refl
    (softens (laid stored (reached beginning entries)) stored.objects later_ keys count now (record { told = replies.Purged count; kept = replies.Purged count }) refl left counts refl refl) refl
    (record { falling = stands.ordered.falling; tested = subst (AreTested stored.issued) (sym left) (softened_tested stored.issued now keys stored.objects stands.ordered.tested) })

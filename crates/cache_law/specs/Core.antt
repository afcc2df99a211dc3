-- What one call does to the history of a cache.
use Rattle.std.specs.Prelude.{◌≡◌, ℕ, Bool, true, false, not, List, [], ◌∷◌, ◌++◌, ◌/◌, ◌&&◌, nat_le, max, length}
use Rattle.cache_law.specs.declared.setting.Params.{Params}
use Rattle.cache_law.specs.declared.object.Object.{Object}
use Rattle.cache_law.specs.declared.call.Query.{Query}
use Rattle.cache_law.specs.declared.call.Call.{Call}
use Rattle.cache_law.specs.declared.call.Call.TheVariants.{Lookup, Insert, Drop, End}
use Rattle.cache_law.specs.declared.call.Entry.{Entry}
use Rattle.cache_law.specs.declared.cache.Told.{Told}
use Rattle.cache_law.specs.Object.{in_time}
use Rattle.cache_law.specs.Lookup.{matches, is_fresh}
use Rattle.cache_law.specs.State.{State, has_round, has_fetch}
use Rattle.cache_law.specs.Beginning.{Beginning}
use Rattle.cache_law.specs.History.{Fits, Follows, lawful_entry, reached, bytes_of_all}

-- a call's moment: the reading of the clock, or the moment of the newest entry where that is greater
abbrev pub moment_of : Beginning → List Entry → ℕ → ℕ
moment_of beginning entries reading = max (reached beginning entries).moment reading

-- the call fits behind these entries, where it is answered as the law says
abbrev pub FitsBehind : Beginning → List Entry → ℕ → ℕ → Call → Type 0
FitsBehind beginning entries caller moment call =
    Fits beginning.params (reached beginning entries) (bytes_of_all entries) (lawful_entry beginning.params (reached beginning entries) caller moment call)

abbrev pub entry_of : ℕ → Call → Told → Entry
entry_of caller call told = record { caller = caller; moment = told.moment; call = call; reply = told.reply }

-- one entry of this call joined the history, and this was told of it
pub record Entered (beginning : Beginning) (old new : List Entry) (caller reading : ℕ) (call : Call) (told : Told) : Type 0 where
  pub joined : new ≡ old ++ entry_of caller call told ∷ []
  pub moment : told.moment ≡ moment_of beginning old reading
  pub place : told.place ≡ length old
  pub follows : Follows beginning.params (reached beginning old) (entry_of caller call told)
  pub fits : Fits beginning.params (reached beginning old) (bytes_of_all old) (entry_of caller call told)

-- the calls for which memory is kept: the end of an open round, and the insertion and the drop of an open fetch
abbrev pub is_kept : State → ℕ → Call → Bool
is_kept state caller (Insert token object stale) = has_fetch state.fetches caller token
is_kept state caller (Drop token) = has_fetch state.fetches caller token
is_kept state caller End = has_round state.rounds caller
is_kept state caller call = false

abbrev pub is_lookup : Call → Bool
is_lookup (Lookup query) = true
is_lookup call = false

-- the call opens nothing
abbrev pub is_closing : Call → Bool
is_closing (Drop token) = true
is_closing End = true
is_closing call = false

abbrev pub is_none : List Entry → Bool
is_none [] = true
is_none (entry ∷ entries) = false

-- The history is full as a segment: it is kept in segments, and takes half of its limit or more, rounded down. It ends
-- before a call of a caller that has no round, unless that closes something.
abbrev pub is_segment_full : Params → State → List Entry → ℕ → Call → Bool
is_segment_full params state entries caller call =
    params.segments && not (has_round state.rounds caller) && not (is_closing call) && not (is_none entries) && nat_le (params.history / 2) (bytes_of_all entries)

-- the object may answer the lookup at the moment: it is in time, matches the request, and is fresh for it
pub record Serves (moment : ℕ) (query : Query) (object : Object) : Type 0 where
  pub lives : in_time moment object ≡ true
  pub suits : matches query object ≡ true
  pub fresh : is_fresh moment query.options object ≡ true

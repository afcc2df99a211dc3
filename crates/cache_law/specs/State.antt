-- What a cache holds after some calls, as plain lists, and each change of these lists.
use Rattle.std.specs.Prelude.{ℕ, Bool, false, List, [], ◌+◌, ◌*◌, ◌==◌, ◌&&◌, Option, Some, None, not, filter, find, fold, map, length, fold, min, sum_by, option_and_then, if◌then◌else◌}
use Rattle.std.specs.List.{list_any}
use Rattle.std.specs.Option.{option_map_or}
use Rattle.cache_law.specs.declared.object.ObjectView.{ObjectView}
use Rattle.cache_law.specs.declared.ban.Issued.{Issued}
use Rattle.cache_law.specs.declared.state.OpenFetch.{OpenFetch}
use Rattle.cache_law.specs.declared.state.OpenRound.{OpenRound}
use Rattle.cache_law.specs.declared.vcl.Vcl.{Vcl}
use Rattle.cache_law.specs.declared.vcl.LoadedVcl.{LoadedVcl}
use Rattle.cache_law.specs.declared.vcl.Counter.{Counter}
use Rattle.cache_law.specs.declared.vcl.ForcedHealth.{ForcedHealth}
use Rattle.cache_law.specs.Object.{in_time, size_of, same_texts}

-- A stored object, the place in the history of the entry that used it last, and the bans that a lookup has still to test it
-- on, newest first. What stored it or gave it, or was told what it is a marker of, used it.
pub record Held : Type 0 where
  pub view : ObjectView
  pub used : ℕ
  pub pending : List Issued

pub record State : Type 0 where
  -- how many entries there are, and how many bans were issued, from a run's beginning on
  pub entries : ℕ
  pub issued : ℕ
  -- the moment of the newest entry
  pub moment : ℕ
  -- the next number to be drawn
  pub next : ℕ
  -- the next number of a VCL
  pub next_vcl : ℕ
  -- the VCL that rounds begin under, and all VCLs, in the order in which they were loaded
  pub active : Vcl
  pub vcls : List LoadedVcl
  -- what directors have counted, and the health that backends were set to
  pub counters : List Counter
  pub health : List ForcedHealth
  -- all bans that were issued, newest first
  pub bans : List Issued
  -- the objects, newest first
  pub objects : List Held
  -- the open fetches and rounds, newest first
  pub fetches : List OpenFetch
  pub rounds : List OpenRound

-- the objects that are in time at the moment
abbrev pub those_in_time : ℕ → List Held → List Held
those_in_time moment objects = filter (λ held. in_time moment held.view.object) objects

-- The state as it is at a moment: what isn't in time any more is gone. A call is answered from this state,
-- so that no rule of a call tests again whether an object is in time.
abbrev pub at_moment : ℕ → State → State
at_moment moment state = record state { moment = moment; objects = those_in_time moment state.objects }

-- the state as it is at its own moment
abbrev pub as_seen : State → State
as_seen state = at_moment state.moment state

abbrev pub has_round : List OpenRound → ℕ → Bool
has_round rounds caller = list_any (λ round. round.caller == caller) rounds

abbrev pub has_fetch : List OpenFetch → ℕ → ℕ → Bool
has_fetch fetches caller token = list_any (λ fetch. (fetch.token == token) && (fetch.caller == caller)) fetches

-- a fetch of this number is open
abbrev pub is_open : List OpenFetch → ℕ → Bool
is_open fetches token = list_any (λ fetch. fetch.token == token) fetches

-- no open fetch has the number
abbrev pub is_closed : List OpenFetch → ℕ → Bool
is_closed fetches token = not (is_open fetches token)

-- the least of a number and of another that may be there
abbrev pub least_of : ℕ → Option ℕ → ℕ
least_of token other = option_map_or (min token) other token

-- the least token that is known, once a fetch is seen that may be of the key
abbrev pub least_with : List (List ℕ) → Option ℕ → OpenFetch → Option ℕ
least_with key known fetch = if same_texts fetch.key key then Some (least_of fetch.token known) else known

-- the least token of the open fetches of a key
abbrev pub least_token : List (List ℕ) → List OpenFetch → Option ℕ
least_token key fetches = fold (least_with key) None fetches

-- the token that the caller's newest lookup in its open round was told to wait for
abbrev pub told_to_wait : List OpenRound → ℕ → Option ℕ
told_to_wait rounds caller = option_and_then (λ round. round.waits) (find (λ round. round.caller == caller) rounds)

-- the same, while that token isn't closed
abbrev pub awaits : State → ℕ → Option ℕ
awaits state caller =
    option_and_then (λ token. if is_open state.fetches token then Some token else None) (told_to_wait state.rounds caller)

-- the round remembers what its caller was told to wait for
abbrev pub remembering : ℕ → Option ℕ → OpenRound → OpenRound
remembering caller token round = if round.caller == caller then record round { waits = token } else round

-- the rounds, of which the caller's remembers so
abbrev pub with_wait : ℕ → Option ℕ → List OpenRound → List OpenRound
with_wait caller token rounds = map (remembering caller token) rounds

-- the fetches without the one of this number
abbrev pub without_fetch : ℕ → List OpenFetch → List OpenFetch
without_fetch token fetches = filter (λ fetch. not (fetch.token == token)) fetches

-- the fetches without those of a caller
abbrev pub without_fetches_of : ℕ → List OpenFetch → List OpenFetch
without_fetches_of caller fetches = filter (λ fetch. not (fetch.caller == caller)) fetches

abbrev pub without_round_of : ℕ → List OpenRound → List OpenRound
without_round_of caller rounds = filter (λ round. not (round.caller == caller)) rounds

-- a stale object was named, and isn't there any more
abbrev pub is_gone : Option ℕ → List Held → Bool
is_gone None objects = false
is_gone (Some stale) objects = not (list_any (λ held. held.view.number == stale) objects)

-- the objects without the stale one
abbrev pub without_stale : Option ℕ → List Held → List Held
without_stale None objects = objects
without_stale (Some stale) objects = filter (λ held. not (held.view.number == stale)) objects

-- the bans that the stale object has still to be tested on
abbrev pub inherited : Option ℕ → List Held → List Issued
inherited None objects = []
inherited (Some stale) objects = option_map_or (λ held. held.pending) (find (λ held. held.view.number == stale) objects) []

-- the sizes of the objects
abbrev pub sizes_of : List Held → ℕ
sizes_of objects = sum_by (λ held. size_of held.view.object) objects

-- how many rounds and fetches are open
abbrev pub count_open : State → ℕ
count_open state = length state.rounds + length state.fetches

-- what is reserved for the closing of what is open: 64 bytes each
abbrev pub reserve : State → ℕ
reserve state = 64 * count_open state

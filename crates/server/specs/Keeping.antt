-- What keepers are told of connections, and what that counts.
use Rattle.std.specs.Prelude.{ℕ, ◌||◌, Bool, true, false, List, [], ◌++◌, sum_by}
use Rattle.std.specs.List.{flat_map, list_any}
use Rattle.wire.specs.Calls.{joined_count}
use Rattle.connection.specs.declared.ended.Ended.{Ended}
use Rattle.connection.specs.declared.ended.Ended.TheVariants as ended
use Rattle.server.specs.declared.keeping.Event.{Event}
use Rattle.server.specs.declared.keeping.Event.TheVariants.{Led, Over}
use Rattle.server.specs.declared.tally.Tally.{Tally}

-- A keeper was told these events, behind all that it was told before.
abbrev pub IsTold : {N E : Type 0} → (N → List E → Type 0) → N → N → List E → Type 0
IsTold {E = E} Told old new events = (before : List E) → Told old before → Told new (before ++ events)

-- the places of a round in the history
abbrev pub places_in : {L : Type 0} → Event L → List ℕ
places_in (Led round) = round.numbers.items
places_in (Over link how) = []

-- the places of all rounds, one behind another
abbrev pub places_of : {L : Type 0} → List (Event L) → List ℕ
places_of events = flat_map places_in events

-- ---- what is counted

abbrev pub round_in : {L : Type 0} → Event L → ℕ
round_in (Led round) = 1
round_in (Over link how) = 0

-- a call of the connection's last round didn't fit the history
abbrev pub found_full : Ended → Bool
found_full ended.HistoryFull = true
found_full other = false

abbrev pub tells_full : {L : Type 0} → Event L → Bool
tells_full (Led round) = false
tells_full (Over link how) = found_full how

-- how many rounds there were, as far as 64 bits go, and whether a connection found the history full
abbrev pub tally_of : {L : Type 0} → List (Event L) → Tally
tally_of events = record { rounds = joined_count 0 (sum_by round_in events); found_full = list_any tells_full events }

-- two tallies in one
abbrev pub added : Tally → Tally → Tally
added one other = record { rounds = joined_count one.rounds other.rounds; found_full = one.found_full || other.found_full }

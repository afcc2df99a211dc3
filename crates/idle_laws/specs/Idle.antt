-- Callers with and without open rounds.
use Rattle.std.specs.Prelude.{◌≡◌, true, false, List}
use Rattle.std.specs.List.{AllByRecursion}
use Rattle.cache_law.specs.declared.call.Entry.{Entry}
use Rattle.cache_law.specs.State.{State, has_round}

-- each open fetch is one of a caller with an open round
abbrev pub HaveRounds : State → Type 0
HaveRounds state = AllByRecursion (λ fetch. has_round state.rounds fetch.caller ≡ true) state.fetches

-- in the state none of the entries' callers has an open round
abbrev pub AllIdle : State → List Entry → Type 0
AllIdle state entries = AllByRecursion (λ entry. has_round state.rounds entry.caller ≡ false) entries

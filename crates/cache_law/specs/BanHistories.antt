-- What a history owes of its bans: which objects a ban of it has spared, and which it was tested on.
use Rattle.std.specs.Prelude.{◌≡◌, ◌⊎◌, ℕ, Bool, true, false, List, [], ◌∷◌, ◌==◌, Option, Some, None, if◌then◌else◌}
use Rattle.std.specs.List.{list_any}
use Rattle.cache_law.specs.declared.setting.Params.{Params}
use Rattle.cache_law.specs.declared.ban.Ban.{Ban as BanWords}
use Rattle.cache_law.specs.declared.ban.Issued.{Issued}
use Rattle.cache_law.specs.declared.call.Query.{Query}
use Rattle.cache_law.specs.declared.call.Call.{Call}
use Rattle.cache_law.specs.declared.call.Call.TheVariants.{Lookup, Insert}
use Rattle.cache_law.specs.declared.call.Reply.{Reply}
use Rattle.cache_law.specs.declared.call.Reply.TheVariants.{Hit, Grace, Stored}
use Rattle.cache_law.specs.declared.call.Entry.{Entry}
use Rattle.cache_law.specs.declared.object.ObjectView.{ObjectView}
use Rattle.cache_law.specs.Object.{key_of, same_texts}
use Rattle.cache_law.specs.State.{State, Held, at_moment}
use Rattle.cache_law.specs.Bans.{matches, meets}
use Rattle.cache_law.specs.BansAtOnce.{issued_behind}
use Rattle.cache_law.specs.History.{next_state}

-- the object that a reply gives
abbrev pub given : Reply → Option ObjectView
given (Hit view) = Some view
given (Grace view token) = Some view
given reply = None

-- one of the objects
abbrev pub IsAmong : Held → List Held → Type 0
IsAmong held [] = ⊥
IsAmong held (other ∷ objects) = (held ≡ other) ⊎ IsAmong held objects

-- one of the entries stored an object under the number
abbrev pub WasStored : ℕ → List Entry → Type 0
WasStored number [] = ⊥
WasStored number (entry ∷ entries) = (entry.reply ≡ Stored number) ⊎ WasStored number entries

-- the ban that an entry issues in the state
abbrev pub issued_in : State → Entry → BanWords → Issued
issued_in state entry words = issued_behind state.issued entry.moment words

-- In the state an object of the number was there and in time when the entry issued the ban, which didn't match it.
pub record WasSpared (state : State) (entry : Entry) (words : BanWords) (number : ℕ) : Type 0 where
  pub held : Held
  pub there : IsAmong held (at_moment entry.moment state).objects
  pub numbered : held.view.number ≡ number
  pub spared : matches held.view.object (issued_in state entry words) ≡ false

-- one of the numbers
abbrev pub has_number : List ℕ → ℕ → Bool
has_number numbers number = list_any (λ own. own == number) numbers

-- the stale object has one of the numbers
abbrev pub is_of : List ℕ → Option ℕ → Bool
is_of numbers None = false
is_of numbers (Some stale) = has_number numbers stale

-- The numbers of an object and of those that were stored in its place, behind a call with this reply: an object that takes
-- the place of one of them has its body from it, or was made in its stead.
abbrev pub with_heir : List ℕ → Call → Reply → List ℕ
with_heir numbers (Insert token object stale) (Stored number) = if is_of numbers stale then number ∷ numbers else numbers
with_heir numbers call reply = numbers

abbrev pub heirs : List ℕ → List Entry → List ℕ
heirs numbers [] = numbers
heirs numbers (entry ∷ entries) = heirs (with_heir numbers entry.call entry.reply) entries

-- In the state the entry looked up an object of one of the numbers, which the ban didn't match with the lookup's own request,
-- and left no ban waiting for it.
pub record IsTested (params : Params) (state : State) (entry : Entry) (numbers : List ℕ) (issued : Issued) : Type 0 where
  pub query : Query
  pub called : entry.call ≡ Lookup query
  pub held : Held
  pub there : IsAmong held (at_moment entry.moment state).objects
  pub numbered : has_number numbers held.view.number ≡ true
  pub ours : same_texts (key_of held.view.object) query.key ≡ true
  pub unmatched : meets held.view.object query.request issued ≡ false
  pub left : Held
  pub stays : IsAmong left (next_state params state entry).objects
  pub same : left.view.number ≡ held.view.number
  pub cleared : left.pending ≡ []

-- one of the entries behind the state tested an object on the ban that had one of the numbers then
abbrev pub WasTested : Params → State → List ℕ → Issued → List Entry → Type 0
WasTested params state numbers issued [] = ⊥
WasTested params state numbers issued (entry ∷ entries) =
    IsTested params state entry numbers issued
    ⊎ WasTested params (next_state params state entry) (with_heir numbers entry.call entry.reply) issued entries

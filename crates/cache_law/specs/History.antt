-- Histories: what an entry takes, which entry may follow, and what a whole history owes.
use Rattle.std.specs.Prelude.{◌≡◌, ℕ, Bool, true, None, List, [], ◌∷◌, ◌+◌, ◌^◌, ◌≤◌, nat_lt, length, sum_by}
use Rattle.cache_law.specs.declared.call.Call.{Call}
use Rattle.cache_law.specs.declared.call.Call.TheVariants.{Begin, Draw, Lookup, Pick, Insert, Ban, BanList, Purge, Xkey, SetHealth, Load, Switch, Discard, VclList, Drop, End}
use Rattle.cache_law.specs.declared.call.Reply.{Reply}
use Rattle.cache_law.specs.declared.call.Reply.TheVariants.{Loaded}
use Rattle.cache_law.specs.declared.call.Entry.{Entry}
use Rattle.cache_law.specs.declared.setting.Params.{Params}
use Rattle.directors.specs.declared.target.Member.{Member}
use Rattle.cache_law.specs.Object.{texts_len, fields_len, object_len}
use Rattle.cache_law.specs.State.{State, at_moment, awaits, count_open, reserve}
use Rattle.cache_law.specs.Beginning.{Beginning}
use Rattle.cache_law.specs.Law.{step_of, after, MayAnswer}

-- the names of members
abbrev pub members_len : List Member → ℕ
members_len members = sum_by (λ member. length member.name) members

-- the texts of a call
abbrev pub call_len : Call → ℕ
call_len Begin = 0
call_len Draw = 0
call_len (Lookup query) = texts_len query.key + length query.request.url + fields_len query.request.fields
call_len (Pick vcl target word) = length target.name + members_len target.members
call_len (Insert token object stale) = object_len object
call_len (Ban ban) = texts_len ban.words
call_len BanList = 0
call_len (Purge key) = texts_len key
call_len (Xkey keys soft) = texts_len keys
call_len (SetHealth backend given) = length backend
call_len (Load source) = length source.name + length source.text + texts_len source.backends
call_len (Switch name) = length name
call_len (Discard name) = length name
call_len VclList = 0
call_len (Drop token) = 0
call_len End = 0

-- what the entry of a call takes: 64 bytes, and the texts of the call
abbrev pub bytes_of : Call → ℕ
bytes_of call = 64 + call_len call

abbrev pub bytes_of_all : List Entry → ℕ
bytes_of_all entries = sum_by (λ entry. bytes_of entry.call) entries

-- a VCL's number has 32 bits
abbrev pub is_numbered : Reply → Bool
is_numbered (Loaded number) = nat_lt number (2 ^ 32)
is_numbered reply = true

-- the most entries that a run makes, over all its histories
abbrev pub most_entries : ℕ
most_entries = 2 ^ 63

-- a lookup comes only where its caller waits for nothing
abbrev pub HasWaited : State → ℕ → Call → Type 0
HasWaited state caller (Lookup query) = awaits state caller ≡ None
HasWaited state caller call = Unit {0}

-- the entry may come next: no moment goes back, its caller waits for nothing, and the call may be answered so
pub record Follows (params : Params) (state : State) (entry : Entry) : Type 0 where
  pub no_earlier : state.moment ≤ entry.moment
  pub waited : HasWaited state entry.caller entry.call
  pub answer : MayAnswer (at_moment entry.moment state) entry.call (step_of params state entry.caller entry.moment entry.call).reply entry.reply

abbrev pub next_state : Params → State → Entry → State
next_state params state entry = after params state entry.caller entry.moment entry.call entry.reply

-- the call's entry, where it is answered as the law says
abbrev pub lawful_entry : Params → State → ℕ → ℕ → Call → Entry
lawful_entry params state caller moment call =
    record { caller = caller; moment = moment; call = call; reply = (step_of params state caller moment call).reply }

-- The entry fits a history of this many bytes that reached the state: with it, and with what is reserved for the closing of
-- what is open behind it, neither the limit nor the number of a run's entries is passed; and no VCL is loaded under a number
-- that is too great. So a refused insertion is judged by what is open behind the refusal.
pub record Fits (params : Params) (state : State) (used : ℕ) (entry : Entry) : Type 0 where
  pub number : is_numbered entry.reply ≡ true
  pub within : used + bytes_of entry.call + reserve (next_state params state entry) ≤ params.history
  pub counted : state.entries + 1 + count_open (next_state params state entry) ≤ most_entries

-- the state that entries reach from a state
abbrev pub reached_from : Params → State → List Entry → State
reached_from params state [] = state
reached_from params state (entry ∷ entries) = reached_from params (next_state params state entry) entries

-- the state that entries reach from the beginning
abbrev pub reached : Beginning → List Entry → State
reached beginning entries = reached_from beginning.params beginning.base entries

-- each entry follows those before it
abbrev pub FollowAll : Params → State → List Entry → Type 0
FollowAll params state [] = Unit {0}
FollowAll params state (entry ∷ entries) = Follows params state entry × FollowAll params (next_state params state entry) entries

-- each entry fits behind those before it, where so many bytes are taken before the first
abbrev pub WithinAll : Params → State → ℕ → List Entry → Type 0
WithinAll params state used [] = Unit {0}
WithinAll params state used (entry ∷ entries) =
    Fits params state used entry × WithinAll params (next_state params state entry) (used + bytes_of entry.call) entries

-- What is open at the beginning can be closed within the limit and the number of a run's entries; each entry follows those
-- before it, and fits.
pub record Legal (beginning : Beginning) (entries : List Entry) : Type 0 where
  pub opens : reserve beginning.base ≤ beginning.params.history
  pub counts : beginning.base.entries + count_open beginning.base ≤ most_entries
  pub follow : FollowAll beginning.params beginning.base entries
  pub within : WithinAll beginning.params beginning.base 0 entries

-- The cache as a desk and a shelf: where its history begins, and the history; and how what it keeps follows from that.
use Rattle.std.specs.Prelude.{◌⊎◌, ◌≡◌, ◌↔◌, ◌≤◌, ◌+◌, ◌*◌, ℕ, Bool, true, List, IsTrue, length}
use Rattle.cache_law.specs.declared.call.Entry.{Entry}
use Rattle.cache_law.specs.declared.call.Call.{Call}
use Rattle.cache_law.specs.declared.setting.Params.{Params}
use Rattle.cache_law.specs.Core.{FitsBehind}
use Rattle.cache_law.specs.Law.{answered, refused}
use Rattle.cache_law.specs.State.{State, at_moment, count_open, reserve}
use Rattle.cache_law.specs.Beginning.{Beginning}
use Rattle.cache_law.specs.History.{Fits, bytes_of, bytes_of_all, is_numbered, lawful_entry, most_entries, reached}
use Rattle.cache_law.specs.Bases.{IsBase, IsSound}
use Rattle.cache_frame.specs.Asked.{judged}
use Rattle.cache_desk.specs.Desk.{DeskState, bare}
use Rattle.cache_desk.specs.Stock.{Stock, with_stock, without_stock}

-- the state of a desk and a stock
abbrev pub base_with : DeskState → Stock → State
base_with desk stock = with_stock stock (bare desk)

-- Where an answer left so much open that no more entries will close it than had to have room with the call's, or less than before, there is room
-- for these and for the call's entry.
abbrev pub HasRoomBehind : ℕ → ℕ → ℕ → DeskState → DeskState → Type 0
HasRoomBehind entries capacity closings old new =
    (entries + closings + 1 ≤ capacity) ⊎ ((new.rounds ≡ old.rounds) × (length new.fetches + 1 ≤ length old.fetches))

-- what clauses see of a framed cache; how many objects wait for its lurker, its shelf says
pub record Plain : Type 0 where
  pub beginning : Beginning
  pub entries : List Entry
  pub unswept : ℕ

-- the desk and the shelf stand for what the entries reach
pub record StandFor {S : Type 0} (Stands : S → Beginning → List Entry → Type 0) (desk_ : DeskState) (shelf_ : S) (beginning : Beginning) (entries : List Entry) : Type 0 where
  pub sound : IsSound (reached beginning entries)
  pub desk : bare desk_ ≡ without_stock (reached beginning entries)
  pub shelf : Stands shelf_ beginning entries

-- With the call's entry, and with what is reserved for so many open rounds and fetches, neither this limit nor the number of a run's
-- entries is passed.
abbrev pub IsWithin : ℕ → ℕ → ℕ → Call → ℕ → Type 0
IsWithin limit used entries call closings = (used + bytes_of call + 64 * closings ≤ limit) × (entries + 1 + closings ≤ most_entries)

-- so many rounds and fetches are open behind what the call is judged by, whatever the desk and the shelf stand for
abbrev pub Reserves : {S : Type 0} → (S → Beginning → List Entry → Type 0) → ℕ → DeskState → S → ℕ → ℕ → Call → Bool → ℕ → Type 0
Reserves Stands room desk shelf now caller call untested closings =
    (beginning : Beginning) (entries : List Entry) → StandFor Stands desk shelf beginning entries → (reached beginning entries).moment ≤ now
    → 64 * closings ≡ reserve (judged call untested (refused (at_moment now (reached beginning entries)) call) (answered room (at_moment now (reached beginning entries)) caller call).state)

-- A call fits behind a history of this many bytes, with so many rounds and fetches open behind what it is judged by.
pub record HasFit {S : Type 0} (Stands : S → Beginning → List Entry → Type 0) (params : Params) (used : ℕ) (desk : DeskState) (shelf : S) (now caller : ℕ) (call : Call) (untested : Bool) (closings : ℕ) : Type 0 where
  pub number : (stock : Stock) → is_numbered (answered params.room (at_moment now (with_stock stock (bare desk))) caller call).reply ≡ true
  pub within : IsWithin params.history used desk.entries call closings
  pub reserves : Reserves Stands params.room desk shelf now caller call untested closings

-- it doesn't fit, whatever history of this many bytes the desk and the shelf stand for
abbrev pub FitsNot : {S : Type 0} → (S → Beginning → List Entry → Type 0) → Params → ℕ → DeskState → S → ℕ → ℕ → Call → Type 0
FitsNot Stands params used desk shelf now caller call =
    (beginning : Beginning) (entries : List Entry) → StandFor Stands desk shelf beginning entries → (reached beginning entries).moment ≤ now → beginning.params ≡ params → used ≡ bytes_of_all entries
    → FitsBehind beginning entries caller now call → ⊥

-- this is whether it fits, whatever the desk and the shelf stand for
abbrev pub FitsIf : {S : Type 0} → (S → Beginning → List Entry → Type 0) → Params → ℕ → DeskState → S → ℕ → ℕ → Call → Bool → Type 0
FitsIf Stands params used desk shelf now caller call fits =
    (beginning : Beginning) (entries : List Entry) → StandFor Stands desk shelf beginning entries → (reached beginning entries).moment ≤ now → beginning.params ≡ params
    → (IsTrue fits ↔ Fits params (reached beginning entries) used (lawful_entry params (reached beginning entries) caller now call))

-- What is kept beside the entries, and the number of entries that there is room for.
pub record Sound {S : Type 0} (Stands : S → Beginning → List Entry → Type 0) (beginning : Beginning) (entries : List Entry) (room used : ℕ) (desk_ : DeskState) (shelf_ : S) : Type 0 where
  pub base : IsBase beginning.base
  pub desk : bare desk_ ≡ without_stock (reached beginning entries)
  pub shelf : Stands shelf_ beginning entries
  pub counts : used ≡ bytes_of_all entries
  pub within : used + reserve (bare desk_) ≤ beginning.params.history
  pub counted : desk_.entries + count_open (bare desk_) ≤ most_entries
  pub numbers : desk_.next ≤ desk_.entries + 1
  pub reserved : length entries + length desk_.rounds + length desk_.fetches ≤ room

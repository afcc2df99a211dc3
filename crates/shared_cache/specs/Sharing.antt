-- What a call of a shared cache does to what its caller's pass knows.
use Rattle.std.specs.Prelude.{◌≡◌, ℕ, ◌+◌, ◌-◌, List, [], ◌∷◌, ◌++◌, length, Some, true, false}
use Rattle.std.specs.Option.{option_map_or}
use Rattle.cache_law.specs.declared.call.Call.{Call}
use Rattle.cache_law.specs.declared.call.Entry.{Entry}
use Rattle.cache_law.specs.declared.cache.Told.{Told}
use Rattle.cache_law.specs.declared.cache.StepError.{StepError}
use Rattle.cache_law.specs.declared.cache.StepError.TheVariants.{HistoryFull, NoMemory, SegmentFull}
use Rattle.cache_law.specs.Beginning.{Beginning}
use Rattle.cache_law.specs.Core.{Entered, FitsBehind, moment_of, is_kept, is_segment_full}
use Rattle.cache_law.specs.History.{Legal, reached}
use Rattle.turnstile.specs.declared.knowledge.Known.{Known}
use Rattle.turnstile.specs.Knowledge.{places_from, Silent, Grown}

-- The history is legal, and isn't kept in segments.
pub record IsKeptWhole (beginning : Beginning) (entries : List Entry) : Type 0 where
  pub legal : Legal beginning entries
  pub unsegmented : beginning.params.segments ≡ false

-- whose an entry is
abbrev pub caller_of : Entry → ℕ
caller_of entry = entry.caller

-- what a pass of a shared cache knows
abbrev pub CallerKnows : Type 0
CallerKnows = Known Entry Beginning

-- the number of entries of the run that were made before the history
abbrev pub made_before : CallerKnows → ℕ
made_before k = option_map_or (λ beginning. beginning.base.entries) k.setting 0

-- the places of the pass's own entries in what it has seen, among all entries of the run
abbrev pub numbers : CallerKnows → List ℕ
numbers k = places_from caller_of k.number (made_before k) k.seen

-- The history is legal and isn't kept in segments, and so many entries of the run were made before it.
pub record IsShared (beginning : Beginning) (history : List Entry) (from : ℕ) : Type 0 where
  pub whole : IsKeptWhole beginning history
  pub before : from ≡ beginning.base.entries

-- what is told of an entry, with its place in the history
abbrev pub within : Beginning → Told → Told
within beginning told = record told { place = told.place - beginning.base.entries }

-- One entry joined the history, and its place among all entries of the run was told.
pub record EnteredInRun (beginning : Beginning) (old new : List Entry) (caller reading : ℕ) (call : Call) (told : Told) : Type 0 where
  pub entered : Entered beginning old new caller reading call (within beginning told)
  pub place : told.place ≡ beginning.base.entries + length old

-- The history that the pass has seen is legal from where the cache begins.
pub record SeesLegal (k : CallerKnows) : Type 0 where
  pub beginning : Beginning
  pub begins : k.setting ≡ Some beginning
  pub legal : Legal beginning k.seen

-- One entry of this call was added to what the pass had seen and others had entered since, by the pass's number, and it
-- is the one place that the pass gained.
pub record Called (k after : CallerKnows) (reading : ℕ) (call : Call) (told : Told) : Type 0 where
  pub beginning : Beginning
  pub begins : k.setting ≡ Some beginning
  pub between : List Entry
  pub others : Silent caller_of k between
  pub entered : Entered beginning (k.seen ++ between) after.seen k.number reading call (within beginning told)
  pub place : told.place ≡ beginning.base.entries + length (k.seen ++ between)
  pub gained : numbers after ≡ numbers k ++ told.place ∷ []

-- why a call made no entry, in the history that its pass has then seen
abbrev pub Cause : Beginning → List Entry → ℕ → ℕ → Call → StepError → Type 0
Cause beginning seen number reading call HistoryFull = ¬ (FitsBehind beginning seen number (moment_of beginning seen reading) call)
Cause beginning seen number reading call NoMemory = ¬ (is_kept (reached beginning seen) number call ≡ true)
Cause beginning seen number reading call SegmentFull = is_segment_full beginning.params (reached beginning seen) seen number call ≡ true

-- Nothing was added to what the pass had seen and others had entered since. No segments are kept, so none ends.
pub record Declined (k after : CallerKnows) (reading : ℕ) (call : Call) (error : StepError) : Type 0 where
  pub beginning : Beginning
  pub begins : k.setting ≡ Some beginning
  pub grown : Grown caller_of k after.seen
  pub same : numbers after ≡ numbers k
  pub unsegmented : beginning.params.segments ≡ false
  pub cause : Cause beginning after.seen k.number reading call error

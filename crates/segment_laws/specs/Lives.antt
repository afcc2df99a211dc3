-- Callers of a cache whose history is kept in segments: what each does in a segment, and what that comes to over all segments.
use Rattle.std.specs.Prelude.{⊤, ◌≡◌, ◌==◌, ◌<◌, ◌≤◌, ℕ, ◌+◌, List, [], ◌∷◌, ◌++◌, length, map}
use Rattle.std.specs.List.{count_by, flat_map}
use Rattle.cache_law.specs.declared.call.Entry.{Entry}
use Rattle.cache_law.specs.declared.setting.Params.{Params}
use Rattle.cache_law.specs.State.{State}
use Rattle.cache_law.specs.Beginning.{Beginning}
use Rattle.cache_law.specs.History.{Legal, reached}
use Rattle.cache_law.specs.Bases.{AreAlike, IsBase, IsClosed}
use Rattle.cache_law.specs.Segments.{Segmented, from}
use Rattle.turnstile.specs.Knowledge.{places_from}

-- ---- segments

-- a segment, and where its history begins
pub record Span : Type 0 where
  pub beginning : Beginning
  pub entries : List Entry

abbrev pub entries_of : List Span → List Entry
entries_of spans = flat_map (λ span. span.entries) spans

-- nothing was open, and a history begins in this base
pub record Reopens (state base : State) : Type 0 where
  pub closed : IsClosed state
  pub is_base : IsBase base
  pub alike : AreAlike base state

-- Each of the segments is legal from where it begins: the first in the base, each later one where the cache was reopened behind the one
-- before.
abbrev pub AreSpans : Params → State → List Span → Type 0
AreSpans params base [] = ⊤
AreSpans params base (span ∷ []) = (span.beginning ≡ from params base) × Legal span.beginning span.entries
AreSpans params base (span ∷ next ∷ spans) =
    (span.beginning ≡ from params base) × Legal span.beginning span.entries × Reopens (reached span.beginning span.entries) next.beginning.base
    × AreSpans params next.beginning.base (next ∷ spans)

-- ---- places

-- how often a number stands in a list
abbrev pub times : ℕ → List ℕ → ℕ
times k numbers = count_by (λ number. k == number) numbers

-- The place of each entry, counted from there, stands once among the numbers, and no other number does.
pub record EachOnce (first : ℕ) (entries : List Entry) (numbers : List ℕ) : Type 0 where
  pub within : (k : ℕ) → k < length entries → times (first + k) numbers ≡ 1
  pub before : (k : ℕ) → k < first → times k numbers ≡ 0
  pub beyond : (k : ℕ) → first + length entries ≤ k → times k numbers ≡ 0

-- the places of a caller's entries, counted from there
abbrev pub own_places : ℕ → ℕ → List Entry → List ℕ
own_places number at entries = places_from (λ entry. entry.caller) number at entries

-- ---- callers

-- where a caller stands between two segments: its number, whom it tells, and what is open for it
pub record Stand (N T : Type 0) : Type 0 where
  pub number : ℕ
  pub keeper : N
  pub talk : T

-- all events of a caller, which has some in each segment
abbrev pub all_of : {E : Type 0} → List (List E) → List E
all_of life = flat_map (λ events. events) life

module _ {E T : Type 0} (Waits : T → T → Type 0) (Steps : T → E → T → Type 0) where
  -- What was open went on by these events, one after another, and may have been read further behind them.
  abbrev pub Goes : T → List E → T → Type 0
  Goes before [] after = Waits before after
  Goes before (event ∷ events) after = (mid : T) × Steps before event mid × Goes mid events after

module _ {N E T : Type 0} (Tells : N → N → List E → Type 0) (places_in : E → List ℕ) (Waits : T → T → Type 0) (Steps : T → E → T → Type 0)
    (Holds : Beginning → List Entry → ℕ → List E → Type 0) where
  -- A caller's part in a segment are these events: its keeper was told of them, what was open for it went on by them, they are so over
  -- the segment, and their calls are all that it made there.
  pub record HasPart (span : Span) (old new : Stand N T) (events : List E) : Type 0 where
    pub same : new.number ≡ old.number
    pub tells : Tells old.keeper new.keeper events
    pub goes : Goes Waits Steps old.talk events new.talk
    pub holds : Holds span.beginning span.entries old.number events
    pub places : own_places old.number span.beginning.base.entries span.entries ≡ flat_map places_in events

  abbrev pub HaveParts : Span → List (Stand N T) → List (Stand N T) → List (List E) → Type 0
  HaveParts span [] [] [] = ⊤
  HaveParts span (old ∷ olds) (new ∷ news) (events ∷ parts) = HasPart span old new events × HaveParts span olds news parts
  HaveParts span olds news parts = ⊥

  -- What callers do while the history is one segment. Each entry of it is of one call of one of them.
  pub record HaveWorked (olds news : List (Stand N T)) (beginning : Beginning) (entries : List Entry) : Type 0 where
    pub parts : List (List E)
    pub have : HaveParts (record { beginning = beginning; entries = entries }) olds news parts
    pub each_once : EachOnce beginning.base.entries entries (flat_map (λ events. flat_map places_in events) parts)

  -- the events of each segment are so over that segment
  abbrev pub HoldInEach : ℕ → List Span → List (List E) → Type 0
  HoldInEach number [] [] = ⊤
  HoldInEach number (span ∷ spans) (events ∷ life) = Holds span.beginning span.entries number events × HoldInEach number spans life
  HoldInEach number spans life = ⊥

  -- A caller's life over segments, of which the first begins behind so many entries: its keeper was told of the events of all, in order;
  -- what was open for it went on by them; those of each segment are so over that; and their calls are all that it made.
  pub record HasLived (before : ℕ) (spans : List Span) (old new : Stand N T) (life : List (List E)) : Type 0 where
    pub same : new.number ≡ old.number
    pub tells : Tells old.keeper new.keeper (all_of life)
    pub goes : Goes Waits Steps old.talk (all_of life) new.talk
    pub hold : HoldInEach old.number spans life
    pub places : own_places old.number before (entries_of spans) ≡ flat_map places_in (all_of life)

  abbrev pub HaveLived : ℕ → List Span → List (Stand N T) → List (Stand N T) → List (List (List E)) → Type 0
  HaveLived before spans [] [] [] = ⊤
  HaveLived before spans (old ∷ olds) (new ∷ news) (life ∷ lives) = HasLived before spans old new life × HaveLived before spans olds news lives
  HaveLived before spans olds news lives = ⊥

  -- One run, whose history has these segments and then this last one: each legal from where the ones before it end, and each, with its
  -- own beginning, one in which all callers had a part. Each place among all entries of the run is that of one call of one caller.
  pub record IsOneRun (params : Params) (begun : State) (olds news : List (Stand N T)) (segments : List (List Entry)) (last : List Entry) : Type 0 where
    pub segmented : Segmented params begun (segments ++ last ∷ [])
    pub spans : List Span
    pub are_spans : AreSpans params begun spans
    pub entries : map (λ span. span.entries) spans ≡ segments ++ last ∷ []
    pub lives : List (List (List E))
    pub lived : HaveLived begun.entries spans olds news lives
    pub each_once : EachOnce begun.entries (entries_of spans) (flat_map (λ life. flat_map places_in (all_of life)) lives)

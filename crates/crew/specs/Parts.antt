-- What workers over one cache have done, as a run tells it.
use Rattle.std.specs.Prelude.{◌≡◌, ℕ, List, [], ◌∷◌, ◌++◌, length}
use Rattle.std.specs.List.{flat_map}
use Rattle.cache_law.specs.declared.call.Entry.{Entry}
use Rattle.turnstile.specs.Knowledge.{places, places_from}
use Rattle.shared_cache.specs.Sharing.{caller_of}
use Rattle.entrance.specs.Arriving.{IsNew}
use Rattle.wire.specs.Telling.{LinkTold}

-- where a worker stands between two connections: its kit, and the front of the history that it has seen
pub record Stand (K : Type 0) : Type 0 where
  pub kit : K
  pub seen : List Entry

-- One worker's part: the number under which it made its calls, its kit when it began, its kit and what it had seen when it left, its
-- keeper, and the events of each connection that it has served.
pub record Part (K N E : Type 0) : Type 0 where
  pub number : ℕ
  pub first : K
  pub last : K
  pub seen : List Entry
  pub keeper : N
  pub came : List (List E)

-- Below, the calls that were made for a connection with these events have these places; and this is told of one that was served for a
-- caller of this number, from one kit to another, and from what was told of it when it was new.
module _ {K E : Type 0} (places_of : List E → List ℕ) (Tells : ℕ → K → K → LinkTold → List E → Type 0) where
  -- A connection was accepted, served, and ended. Each entry of its calls stands behind all that the worker had seen before, and they
  -- are all entries of this number in what it has seen since.
  pub record OneTold (number : ℕ) (before after : Stand K) (events : List E) : Type 0 where
    pub opening : LinkTold
    pub address : List ℕ
    pub is_new : IsNew opening address
    pub tells : Tells number before.kit after.kit opening events
    pub between : List Entry
    pub seen : after.seen ≡ before.seen ++ between
    pub places : places_of events ≡ places_from caller_of number (length before.seen) between

  -- connections served one behind another, each from where the one before it left the worker
  abbrev pub AllTold : ℕ → Stand K → Stand K → List (List E) → Type 0
  AllTold number before after [] = after ≡ before
  AllTold number before after (events ∷ others) = (mid : Stand K) × OneTold number before mid events × AllTold number mid after others

  -- from the first kit, before anything of the history was seen
  abbrev pub PartTold : {N : Type 0} → Part K N E → Type 0
  PartTold part =
      AllTold part.number (record { kit = part.first; seen = [] }) (record { kit = part.last; seen = part.seen }) part.came

-- the places of all calls that were made for these connections
abbrev pub all_places : {E : Type 0} → (List E → List ℕ) → List (List E) → List ℕ
all_places places_of came = flat_map places_of came

-- the events of these connections, one behind another
abbrev pub all_events : {E : Type 0} → List (List E) → List E
all_events came = flat_map (λ events. events) came

-- the connections of all workers, in the workers' order
abbrev pub all_came : {K N E : Type 0} → List (Part K N E) → List (List E)
all_came parts = flat_map (λ part. part.came) parts

-- The calls of a worker's part are all that the history has of its number.
abbrev pub HasPlaces : {K N E : Type 0} → (List E → List ℕ) → List Entry → Part K N E → Type 0
HasPlaces places_of history part = places caller_of part.number history ≡ all_places places_of part.came

-- What holds of each state of a run, and from which of them a history may begin; and states that go on alike: one may have
-- fewer bans, and fewer that wait for an object, where later equal ones do their work.
use Rattle.std.specs.Prelude.{⊤, ◌≡◌, ◌≢◌, ◌⊎◌, ℕ, ◌+◌, ◌<◌, ◌≤◌, Bool, true, false, List, [], ◌∷◌, ◌&&◌, nat_le}
use Rattle.std.specs.List.{list_any, AllByRecursion}
use Rattle.cache_law.specs.declared.ban.Issued.{Issued}
use Rattle.cache_law.specs.Bans.{is_equal}
use Rattle.cache_law.specs.ShownBans.{IsPartOf}
use Rattle.cache_law.specs.declared.vcl.LoadedVcl.{LoadedVcl}
use Rattle.cache_law.specs.State.{State, Held, as_seen, is_closed, those_in_time}
use Rattle.cache_law.specs.BansAtOnce.{AwaitIssued}
use Rattle.cache_law.specs.Room.{AreUsedApart}
use Rattle.cache_law.specs.RoundVcls.{IsOneOf}

-- the bans have numbers below the bound, each a lesser one than the ban before it
abbrev pub AreFalling : ℕ → List Issued → Type 0
AreFalling bound [] = ⊤
AreFalling bound (ban ∷ bans) = (ban.number < bound) × AreFalling ban.number bans

-- no two of the objects have one number
abbrev pub AreNumberedApart : List Held → Type 0
AreNumberedApart [] = ⊤
AreNumberedApart (held ∷ objects) = AllByRecursion (λ other. held.view.number ≢ other.view.number) objects × AreNumberedApart objects

-- each VCL has a lesser number than those that were loaded later
abbrev pub AreRising : List LoadedVcl → Type 0
AreRising [] = ⊤
AreRising (loaded ∷ vcls) = AllByRecursion (λ later. loaded.vcl.number < later.vcl.number) vcls × AreRising vcls

-- What holds in each state of a run.
pub record IsSound (state : State) : Type 0 where
  -- an entry draws one number at most, and issues one ban at most
  pub drew : state.next ≤ state.entries + 1
  pub issued : state.issued ≤ state.entries
  pub falling : AreFalling (state.issued + 1) state.bans
  pub waiting : AwaitIssued state.bans state.objects
  -- each object has a number of its own, of a fetch that is closed, and a last use of its own
  pub apart : AreNumberedApart state.objects
  pub drawn : AllByRecursion (λ held. held.view.number < state.next) state.objects
  pub stored : AllByRecursion (λ held. is_closed state.fetches held.view.number ≡ true) state.objects
  pub uses : AreUsedApart state.objects
  pub used : AllByRecursion (λ held. held.used < state.entries) state.objects
  pub opened : AllByRecursion (λ fetch. fetch.token < state.next) state.fetches
  -- each VCL has a number of its own, and the active one is there
  pub rising : AreRising state.vcls
  pub loaded : AllByRecursion (λ loaded. loaded.vcl.number < state.next_vcl) state.vcls
  pub active : IsOneOf (record { vcl = state.active; is_discarded = false }) state.vcls

-- no round and no fetch is open
pub record IsClosed (state : State) : Type 0 where
  pub rounds : state.rounds ≡ []
  pub fetches : state.fetches ≡ []

-- one of the bans
abbrev pub IsIn : Issued → List Issued → Type 0
IsIn issued [] = ⊥
IsIn issued (ban ∷ bans) = (issued ≡ ban) ⊎ IsIn issued bans

-- the ban waits for one of the objects
abbrev pub IsAwaited : Issued → List Held → Type 0
IsAwaited ban [] = ⊥
IsAwaited ban (held ∷ objects) = IsIn ban held.pending ⊎ IsAwaited ban objects

-- A history may begin in the state: it is sound, nothing is open, each object is in time, and each ban waits for one of them.
pub record IsBase (state : State) : Type 0 where
  pub sound : IsSound state
  pub closed : IsClosed state
  pub in_time : those_in_time state.moment state.objects ≡ state.objects
  pub needed : AllByRecursion (λ ban. IsAwaited ban state.objects) state.bans

-- one of the bans that isn't older does the ban's work
abbrev pub is_completed : List Issued → Issued → Bool
is_completed bans ban = list_any (λ later. nat_le ban.number later.number && is_equal later.ban ban.ban) bans

-- these bans are some of the others, and each of the others is among them or is completed by one of them
pub record IsThinned (kept whole : List Issued) : Type 0 where
  pub part : IsPartOf kept whole
  pub covers : AllByRecursion (λ ban. IsIn ban kept ⊎ (is_completed kept ban ≡ true)) whole

-- the objects are the same, but for bans that needn't wait for the one any more
pub record IsHeldAlike (less more : Held) : Type 0 where
  pub rest : record less { pending = more.pending } ≡ more
  pub pending : IsThinned less.pending more.pending

abbrev pub AreHeldAlike : List Held → List Held → Type 0
AreHeldAlike [] [] = ⊤
AreHeldAlike (held ∷ less) (other ∷ more) = IsHeldAlike held other × AreHeldAlike less more
AreHeldAlike less more = ⊥

-- the states are the same, but for bans
pub record AreAlikeAsSeen (less more : State) : Type 0 where
  pub rest : record less { bans = more.bans; objects = more.objects } ≡ more
  pub bans : IsPartOf less.bans more.bans
  pub objects : AreHeldAlike less.objects more.objects

-- the same of the objects that are in time
abbrev pub AreAlike : State → State → Type 0
AreAlike less more = AreAlikeAsSeen (as_seen less) (as_seen more)

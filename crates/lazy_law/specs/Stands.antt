-- What a cache keeps that tests its objects on bans later stands for what the law holds, where each ban acts at once.
use Rattle.std.specs.Prelude.{◌≡◌, ◌≤◌, ◌+◌, ℕ, Bool, true, List, map}
use Rattle.std.specs.List.{list_any, AllByRecursion}
use Rattle.cache_law.specs.declared.ban.BanLine.{BanLine}
use Rattle.cache_law.specs.declared.ban.Issued.{Issued}
use Rattle.cache_law.specs.Bans.{is_equal}
use Rattle.cache_law.specs.Bases.{AreFalling}
use Rattle.cache_law.specs.ShownBans.{has_newer, IsPartOf}
use Rattle.cache_law.specs.State.{Held, State, those_in_time}
use Rattle.lazy_law.specs.Placed.{Lazy, Placed, above, kept_bans, seen, since}

-- a test that passes equal bans alike
abbrev pub PassesAlike : (Issued → Bool) → Type 0
PassesAlike test = (ban later : Issued) → is_equal later.ban ban.ban ≡ true → test later ≡ test ban

-- The bans that are kept answer for the object as all do that were issued: each test that passes equal bans alike finds one among
-- those newer than a mark, or a place, where it finds one among all newer ones.
pub record Agrees (kept bans : List Issued) (placed : Placed) : Type 0 where
  pub on_objects : (test : Issued → Bool) → PassesAlike test → (mark : ℕ) → placed.mark ≤ mark → list_any test (above mark kept) ≡ list_any test (above mark bans)
  pub on_requests : (test : Issued → Bool) → PassesAlike test → (place : ℕ) → placed.place ≤ place → list_any test (since place kept) ≡ list_any test (since place bans)

-- no object was tested on more bans than were issued
pub record IsWithin (issued : ℕ) (placed : Placed) : Type 0 where
  pub place : placed.place ≤ issued
  pub mark : placed.mark ≤ issued

-- the lines are of bans that were issued, newest first, and one that is completed has a newer equal ban before it
pub record AreLines (lines : List BanLine) (bans : List Issued) : Type 0 where
  pub part : IsPartOf (map (λ line. line.issued) lines) bans
  pub completed : AllByRecursion (λ line. line.completed ≡ true → has_newer lines line ≡ true) lines

-- What is kept is right by itself, where these bans were issued.
pub record IsKept (lazy : Lazy) (bans : List Issued) : Type 0 where
  pub falling : AreFalling (lazy.issued + 1) bans
  pub listed : AreLines lazy.lines bans
  pub within : AllByRecursion (IsWithin lazy.issued) lazy.objects
  pub agrees : AllByRecursion (Agrees (kept_bans lazy) bans) lazy.objects

-- At the moment what is kept stands for what the law holds: how many bans were issued, these bans, and these objects. Those of the
-- law's objects that are in time are those that are stored, in time, and not dead.
pub record StandsFor (lazy : Lazy) (moment issued : ℕ) (bans : List Issued) (objects : List Held) : Type 0 where
  pub count : lazy.issued ≡ issued
  pub kept : IsKept lazy bans
  pub same : those_in_time moment objects ≡ seen moment bans lazy.objects

abbrev pub Stands : Lazy → State → Type 0
Stands lazy state = StandsFor lazy state.moment state.issued state.bans state.objects

-- What stands on the desk: all of the law's state but objects and bans.
use Rattle.std.specs.Prelude.{ℕ, List, []}
use Rattle.cache_law.specs.declared.state.OpenFetch.{OpenFetch}
use Rattle.cache_law.specs.declared.state.OpenRound.{OpenRound}
use Rattle.cache_law.specs.declared.vcl.Vcl.{Vcl}
use Rattle.cache_law.specs.declared.vcl.LoadedVcl.{LoadedVcl}
use Rattle.cache_law.specs.declared.vcl.Counter.{Counter}
use Rattle.cache_law.specs.declared.vcl.ForcedHealth.{ForcedHealth}
use Rattle.cache_law.specs.State.{State}

pub record DeskState : Type 0 where
  pub entries : ℕ
  pub moment : ℕ
  pub next : ℕ
  pub next_vcl : ℕ
  pub active : Vcl
  pub vcls : List LoadedVcl
  pub counters : List Counter
  pub health : List ForcedHealth
  pub fetches : List OpenFetch
  pub rounds : List OpenRound

-- the law's state with this desk and nothing on its shelf
abbrev pub bare : DeskState → State
bare desk =
    record {
      entries = desk.entries;
      issued = 0;
      moment = desk.moment;
      next = desk.next;
      next_vcl = desk.next_vcl;
      active = desk.active;
      vcls = desk.vcls;
      counters = desk.counters;
      health = desk.health;
      bans = [];
      objects = [];
      fetches = desk.fetches;
      rounds = desk.rounds;
    }

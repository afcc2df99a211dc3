-- A connection that a caller serves, and what its keeper is told of it.
use Rattle.std.specs.Prelude.{◌≡◌, ◌<◌, ◌≤◌, ℕ, false, List, [], ◌∷◌, ◌++◌, map, Option}
use Rattle.wire.specs.Flow.{Flow}
use Rattle.wire.specs.Tapes.{Tape}
use Rattle.wire.specs.Telling.{LinkTold, dialer_told_by}
use Rattle.wire.specs.declared.peer.Talk.{Talk}
use Rattle.turnstile.specs.Handles.{known}
use Rattle.shared_cache.specs.Passes.{IsPassOf}
use Rattle.shared_cache.specs.Sharing.{SeesLegal}
use Rattle.connection.specs.Serving.{Round as Turn}
use Rattle.connection.specs.declared.ended.Ended.{Ended}
use Rattle.vcl_runs.specs.Languages.{Language}
use Rattle.round_lead.specs.declared.keeping.Round.{Round}
use Rattle.round_lead.specs.declared.site.Shift.{Shift}
use Rattle.round_lead.specs.Seen.{has_open}
use Rattle.server.specs.declared.keeping.Event.{Event}
use Rattle.server.specs.declared.keeping.Event.TheVariants.{Led, Over}
use Rattle.server.specs.declared.responding.Server.{Server}
use Rattle.server.specs.Complete.{AllAnswered, Faults, IsUnhindered}
use Rattle.server.specs.Keeping.{IsTold}
use Rattle.server.specs.Transcripts.{Heard, LeadsAll, LeadsOne, Stand}

abbrev pub stands : {D K Q L : Type 0} → (D → Option (List (Talk L))) → (D → ℕ) → (K → Option Tape) → (K → Option Tape) → Shift D K Q → Stand L
stands talks dial_faults readings words shift =
    record {
      known = known shift.pass;
      readings = readings shift.kit.clock;
      words = words shift.kit.clock;
      dialer = dialer_told_by talks dial_faults shift.kit.dialer;
    }

abbrev pub stand_of : {R C G D K Q M N L : Type 0} → (D → Option (List (Talk L))) → (D → ℕ) → (K → Option Tape) → (K → Option Tape) → Server R C G D K Q M N → Stand L
stand_of talks dial_faults readings words server = stands talks dial_faults readings words server.shift

-- its pass is of the cache, its round isn't open, what it has seen is legal, and its keeper has room for the connection's end
pub record IsSound {R C G D K Q M N : Type 0} (room_of : N → ℕ) (server : Server R C G D K Q M N) : Type 0 where
  pub pass : IsPassOf server.site.shared.now server.shift.pass
  pub idle : has_open (known server.shift.pass) ≡ false
  pub legal : SeesLegal (known server.shift.pass)
  pub room : 0 < room_of server.keeper

-- it may lead a round, for which its keeper has room too
pub record IsReady {R C G D K Q M N : Type 0} (room_of : N → ℕ) (server : Server R C G D K Q M N) : Type 0 where
  pub sound : IsSound room_of server
  pub room : 2 ≤ room_of server.keeper

module _ {P L N K : Type 0} (language : Language P) (heard : L → LinkTold) (Told : N → List (Event K) → Type 0) where
  -- A round was led for this turn, and the keeper was told of it.
  pub record TellsOne (peer : List ℕ) (x y : Stand L) (old new : N) (turn : Turn) : Type 0 where
    pub round : Round
    pub led : LeadsOne language heard peer x y round turn
    pub told : IsTold Told old new (Led round ∷ [])

  -- A round was led for each turn, and the keeper was told of each, in order.
  pub record TellsAll (peer : List ℕ) (x y : Stand L) (old new : N) (turns : List Turn) : Type 0 where
    pub rounds : List Round
    pub led : LeadsAll language heard peer x y rounds turns
    pub told : IsTold Told old new (map Led rounds)

  -- From a connection's first request to its end.
  pub record TellsRounds (peer : List ℕ) (x y : Stand L) (old new : N) (before after : Option Flow) (ended : Ended) : Type 0 where
    pub turns : List Turn
    pub tells : TellsAll peer x y old new turns
    pub link : Heard turns before after ended

-- A connection from a peer was served, from what was told of it when it was new, and is over: these events are its rounds, in order,
-- and then its link, which is shut, and how it ended. Where nothing hindered it, each request that its link had left has a round,
-- which was whole.
pub record IsServed {P L K : Type 0} (language : Language P) (heard : L → LinkTold) (tell : K → LinkTold) (peer : List ℕ) (x y : Stand L) (opening : LinkTold) (events : List (Event K)) : Type 0 where
  pub rounds : List Round
  pub over : K
  pub ended : Ended
  pub events_are : events ≡ map Led rounds ++ Over over ended ∷ []
  pub turns : List Turn
  pub led : LeadsAll language heard peer x y rounds turns
  pub link : Heard turns opening.flow (tell over).flow ended
  pub stays : (tell over).peer ≡ opening.peer
  pub closed : (tell over).is_open ≡ false
  pub faults : Faults opening (tell over) ended
  pub complete : IsUnhindered opening.read_faults (tell over).read_faults opening.write_faults (tell over).write_faults ended → AllAnswered opening.flow turns

-- What is told of a connection over a history.
use Rattle.std.specs.Prelude.{◌≡◌, ℕ, List, [], ◌∷◌, ◌++◌, map, false, Option}
use Rattle.wire.specs.Tapes.{Tape}
use Rattle.wire.specs.declared.peer.Peer.TheVariants.{Accepted}
use Rattle.wire.specs.declared.peer.Talk.{Talk}
use Rattle.cache_law.specs.declared.call.Entry.{Entry}
use Rattle.cache_law.specs.Beginning.{Beginning}
use Rattle.wire.specs.Telling.{LinkTold, Gains, dialer_told_by}
use Rattle.world.specs.declared.kit.Kit.{Kit}
use Rattle.connection.specs.Serving.{Round as Turn}
use Rattle.connection.specs.declared.ended.Ended.{Ended}
use Rattle.vcl_runs.specs.Languages.{Language}
use Rattle.round_lead.specs.declared.keeping.Round.{Round}
use Rattle.round_lead.specs.Tapes.{Went, ToldIn, WasDrawn}
use Rattle.server.specs.declared.keeping.Event.{Event}
use Rattle.server.specs.declared.keeping.Event.TheVariants.{Led, Over}
use Rattle.server.specs.Complete.{AllAnswered, Faults, IsUnhindered}
use Rattle.server.specs.Transcripts.{AreResponses, Heard}

-- A connection from a peer was served, from one kit to the next: these events are its rounds, in order, and then its link, which is
-- shut, and how it ended. The rounds are the responses to its requests, over the history, and the talks that the dialer gained are
-- those of their exchanges, in order. What the clock told meanwhile has their moments and words. Where nothing hindered it, each
-- request that its link had left has a round, which was whole.
pub record Tells {P D K L E : Type 0} (language : Language P) (heard : L → LinkTold) (tell : E → LinkTold) (talks : D → Option (List (Talk L))) (dial_faults : D → ℕ)
    (readings words : K → Option Tape) (beginning : Beginning) (history : List Entry) (number : ℕ) (before after : Kit D K) (opening : LinkTold) (events : List (Event E)) : Type 0 where
  pub address : List ℕ
  pub from : opening.peer ≡ Accepted address
  pub rounds : List Round
  pub over : E
  pub ended : Ended
  pub events_are : events ≡ map Led rounds ++ Over over ended ∷ []
  pub stays : (tell over).peer ≡ opening.peer
  pub closed : (tell over).is_open ≡ false
  pub turns : List Turn
  pub talked : List (Talk L)
  pub gained : Gains (dialer_told_by talks dial_faults before.dialer) (dialer_told_by talks dial_faults after.dialer) talked
  pub responses : AreResponses language (WasDrawn (words before.clock) (words after.clock)) (ToldIn (readings before.clock) (readings after.clock)) heard
      beginning history number address rounds turns talked
  pub reads : Went (readings before.clock) (readings after.clock)
  pub draws : Went (words before.clock) (words after.clock)
  pub link : Heard turns opening.flow (tell over).flow ended
  pub faults : Faults opening (tell over) ended
  pub complete : IsUnhindered opening.read_faults (tell over).read_faults opening.write_faults (tell over).write_faults ended → AllAnswered opening.flow turns

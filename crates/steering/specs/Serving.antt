-- A connection, served by a worker.
use Rattle.std.specs.Prelude.{◌≡◌, ℕ, false, List, Option}
use Rattle.wire.specs.Tapes.{Tape}
use Rattle.wire.specs.declared.peer.Peer.TheVariants.{Accepted}
use Rattle.wire.specs.declared.peer.Talk.{Talk}
use Rattle.turnstile.specs.Handles.{known}
use Rattle.shared_cache.specs.declared.sharing.SharedCache.{SharedCache}
use Rattle.shared_cache.specs.Passes.{IsPassOf}
use Rattle.shared_cache.specs.Sharing.{SeesLegal}
use Rattle.wire.specs.Telling.{LinkTold}
use Rattle.round_lead.specs.declared.site.Shift.{Shift}
use Rattle.vcl_runs.specs.Languages.{Language}
use Rattle.round_lead.specs.Seen.{has_open}
use Rattle.server.specs.declared.keeping.Event.{Event}
use Rattle.server.specs.Serving.{IsServed, stands}

-- its pass is of the cache, it has no open round, and what it has seen is legal
pub record IsReady {C D K Q : Type 0} (cache : SharedCache C) (shift : Shift D K Q) : Type 0 where
  pub pass : IsPassOf cache shift.pass
  pub idle : has_open (known shift.pass) ≡ false
  pub legal : SeesLegal (known shift.pass)

-- A connection was served, from one shift to the next, and from what was told of its link when it was new; these are its events.
pub record Serves {P D K Q L E : Type 0} (language : Language P) (heard : L → LinkTold) (tell : E → LinkTold) (talks : D → Option (List (Talk L))) (dial_faults : D → ℕ)
    (readings words : K → Option Tape) (old new : Shift D K Q) (opening : LinkTold) (events : List (Event E)) : Type 0 where
  pub address : List ℕ
  pub from : opening.peer ≡ Accepted address
  pub served : IsServed language heard tell address (stands talks dial_faults readings words old) (stands talks dial_faults readings words new) opening events

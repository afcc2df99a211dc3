-- Dialers in memory, as clauses see them.
use Rattle.std.specs.Prelude.{◌≡◌, ◌⊎◌, ℕ, true, List, [], ◌∷◌, ◌++◌, map, Contains, Option, Some, None, Box}
use Rattle.std.specs.declared.alloc.Global.{Global}
use Rattle.wire.specs.Causes.{next_count}
use Rattle.wire.specs.Flow.{Flow}
use Rattle.wire.specs.LinkMemory.{LinkState, Direction}
use Rattle.wire.specs.Kept.{items_at, items_of}
use Rattle.wire.specs.declared.kept.Kept.{Kept}
use Rattle.wire.specs.declared.failing_dialer.Dial.{Dial}
use Rattle.wire.specs.Talks.{counted_link}
use Rattle.wire.specs.declared.failing_dialer.Plan.{Plan}
use Rattle.wire.specs.declared.peer.Peer.{Peer}
use Rattle.wire.specs.declared.peer.Talk.{Talk}

-- what came of a dial, as a talk
abbrev pub talk_of : Dial → Talk LinkState
talk_of (Dial.Failed peer) = record { peer = peer; link = None }
talk_of (Dial.Ended link) = record { peer = link.peer; link = Some link }

abbrev pub talks_at : Kept Dial → List (Talk LinkState)
talks_at place = map talk_of (items_at place)

abbrev pub talks_of : Option (Box (Kept Dial) Global) → List (Talk LinkState)
talks_of place = map talk_of (items_of place)

-- a dialer: the connections that it is to give, the numbers of the dials that fail, the number of the next dial, its talks and
-- its counts
pub record DialerState : Type 0 where
  pub planned : List Plan
  pub failing : List ℕ
  pub dials : ℕ
  pub talks : List (Talk LinkState)
  pub dial_faults : ℕ
  pub read_faults : ℕ
  pub write_faults : ℕ

-- a planned connection, as it is dialed
abbrev pub planned_link : Plan → Peer → LinkState
planned_link plan peer =
    let flow : Flow = record { given = []; left = plan.input.items; took = [] } in
    let reads : Direction = record { faults = 0; calls = 0; failing = plan.failing_reads.items; most = plan.most } in
    let writes : Direction = record { faults = 0; calls = 0; failing = plan.failing_writes.items; most = plan.most } in
    record { flow = flow; reads = reads; writes = writes; peer = peer; is_open = true; quiet = 0 }

-- a dial is counted, and takes the first plan unless it fails
abbrev pub Takes : DialerState → DialerState → Option Plan → Type 0
Takes before after (Some plan) =
    (¬ (Contains before.failing before.dials)) × (before.planned ≡ plan ∷ after.planned)
    × (after ≡ record before { planned = after.planned; dials = next_count before.dials })
Takes before after None = (Contains before.failing before.dials ⊎ (before.planned ≡ [])) × (after ≡ record before { dials = next_count before.dials })

abbrev pub failed_dial : DialerState → Peer → DialerState
failed_dial d peer =
    let talk : Talk LinkState = record { peer = peer; link = None } in
    record d { dials = next_count d.dials; talks = d.talks ++ talk ∷ []; dial_faults = next_count d.dial_faults }

-- the dialer once a connection was handed back
abbrev pub handed_back : DialerState → LinkState → DialerState
handed_back d link =
    let talk : Talk LinkState = record { peer = link.peer; link = Some link } in
    record d { talks = d.talks ++ talk ∷ []; read_faults = counted_link d.read_faults link.reads.faults; write_faults = counted_link d.write_faults link.writes.faults }

-- a dial gave the first planned connection
pub record Gives (before after : DialerState) (peer : Peer) (link : LinkState) : Type 0 where
  pub plan : Plan
  pub takes : Takes before after (Some plan)
  pub link_is : link ≡ planned_link plan peer

-- a dial failed
pub record Fails (before after : DialerState) (peer : Peer) : Type 0 where
  pub due : Contains before.failing before.dials ⊎ (before.planned ≡ [])
  pub same : after ≡ failed_dial before peer

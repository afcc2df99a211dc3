-- Connections in memory, as clauses see them.
use Rattle.std.specs.Prelude.{ℕ, ◌++◌, ◌==◌, ◌&&◌, nat_lt, Bool, List, length, take, drop, if◌then◌else◌}
use Rattle.wire.specs.Causes.{next_count}
use Rattle.wire.specs.Flow.{Flow}
use Rattle.wire.specs.declared.peer.Peer.{Peer}

-- one direction: its count of faults, the number of the next call, the numbers of the calls that fail, and how many bytes
-- a call moves at most
pub record Direction : Type 0 where
  pub faults : ℕ
  pub calls : ℕ
  pub failing : List ℕ
  pub most : ℕ

-- a connection: what went over it, its two directions, its other end, whether it wasn't ended yet, and how many waits will find
-- nothing yet
pub record LinkState : Type 0 where
  pub flow : Flow
  pub reads : Direction
  pub writes : Direction
  pub peer : Peer
  pub is_open : Bool
  pub quiet : ℕ

-- a call was made, which failed or didn't
abbrev pub called : Direction → Direction
called d = record d { calls = next_count d.calls }

abbrev pub failed : Direction → Direction
failed d = record d { calls = next_count d.calls; faults = next_count d.faults }

-- the flow once a read gave the first `count` bytes that were left
abbrev pub gave : Flow → ℕ → Flow
gave flow count = record flow { given = flow.given ++ take count flow.left; left = drop count flow.left }

-- the flow once a write took the first `count` bytes of the piece
abbrev pub taken : Flow → List ℕ → ℕ → Flow
taken flow piece count = record flow { took = flow.took ++ take count piece }

-- to take nothing of a piece that isn't empty is a fault
abbrev pub wrote : Direction → List ℕ → ℕ → Direction
wrote d piece count = if count == 0 && nat_lt 0 (length piece) then failed d else called d

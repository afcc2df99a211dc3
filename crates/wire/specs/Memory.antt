-- Sources and sinks in memory, as clauses see them.
use Rattle.std.specs.Prelude.{ℕ, ◌++◌, ◌==◌, ◌&&◌, nat_lt, List, length, take, drop, if◌then◌else◌}
use Rattle.wire.specs.Causes.{next_count}

-- a source: what it has left, its count of faults, the number of the next call, and the numbers of the calls that fail
pub record SourceState : Type 0 where
  pub left : List ℕ
  pub faults : ℕ
  pub calls : ℕ
  pub failing : List ℕ

-- a sink: what it holds, the same three, and how many bytes it takes at most in one call
pub record SinkState : Type 0 where
  pub held : List ℕ
  pub faults : ℕ
  pub calls : ℕ
  pub failing : List ℕ
  pub most : ℕ

-- the state after a read that gave the first `count` bytes
abbrev pub after_read : SourceState → ℕ → SourceState
after_read s count = record s { left = drop count s.left; calls = next_count s.calls }

-- the state after a read that failed
abbrev pub after_failed_read : SourceState → SourceState
after_failed_read s = record s { faults = next_count s.faults; calls = next_count s.calls }

-- the state after a write that took the first `count` bytes of the piece: to take nothing of a piece that isn't empty
-- is a fault
abbrev pub after_write : SinkState → List ℕ → ℕ → SinkState
after_write s piece count = record s { held = s.held ++ take count piece; faults = if count == 0 && nat_lt 0 (length piece) then next_count s.faults else s.faults; calls = next_count s.calls }

-- the state after a write that failed
abbrev pub after_failed_write : SinkState → SinkState
after_failed_write s = record s { faults = next_count s.faults; calls = next_count s.calls }

-- a sink that keeps the first `room` bytes of all that it was given
pub record KeptState : Type 0 where
  pub kept : List ℕ
  pub room : ℕ

-- How fast a client sends a request and takes a response.
use Rattle.std.specs.Prelude.{ℕ, Bool, ◌+◌, ◌*◌, ◌/◌, ◌&&◌, nat_lt, if◌then◌else◌}
use Rattle.wire.specs.Calls.{joined_count}
use Rattle.edge.specs.declared.client_pace.Taking.{Taking}

-- 30 s from a request's first byte on, and 30 s more for each 512 KiB of it that came, in milliseconds
abbrev pub request_millis : ℕ → ℕ
request_millis received = 30000 + received / 524288 * 30000

-- the writes took 30 s, and less than 1,000 bytes a second were taken
abbrev pub is_slow : Taking → Bool
is_slow taking = nat_lt 29999 taking.millis && nat_lt taking.bytes taking.millis

-- behind writes of 30 s the count begins anew
abbrev pub counted_from : Taking → Taking
counted_from taking = if nat_lt 29999 taking.millis then (record { millis = 0; bytes = 0 }) else taking

-- a write of so many milliseconds more, in which so many bytes were taken
abbrev pub behind_write : Taking → ℕ → ℕ → Taking
behind_write taking millis bytes = record {
  millis = joined_count (counted_from taking).millis millis;
  bytes = joined_count (counted_from taking).bytes bytes;
}

-- Calls that fail at chosen numbers.
use Rattle.std.specs.Prelude.{ℕ, ◌+◌, ◌-◌, ◌^◌, List, min}
use Rattle.wire.specs.Causes.{next_count}

-- the numbers of the calls that fail, the number of the next call, and the count of faults
pub record Counted : Type 0 where
  pub failing : List ℕ
  pub calls : ℕ
  pub faults : ℕ

abbrev pub uncalled : List ℕ → Counted
uncalled failing = record { failing = failing; calls = 0; faults = 0 }

-- the sum of two counts that stop at the greatest of 64 bits
abbrev pub joined_count : ℕ → ℕ → ℕ
joined_count count more = min (count + more) (2 ^ 64 - 1)

-- a fault is counted, and so are those of other calls
abbrev pub missed : Counted → Counted
missed c = record c { faults = next_count c.faults }

abbrev pub joined : Counted → ℕ → Counted
joined c faults = record c { faults = joined_count c.faults faults }

-- a call was made, which failed or didn't
abbrev pub called : Counted → Counted
called c = record c { calls = next_count c.calls }

abbrev pub failed : Counted → Counted
failed c = record c { calls = next_count c.calls; faults = next_count c.faults }

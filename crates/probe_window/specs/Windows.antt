-- The window of a probe: the latest results, and whether they say that the backend is well (Varnish Reference Manual, VCL-Probe).
use Rattle.std.specs.Prelude.{ℕ, ◌-◌, Bool, true, false, ◌||◌, nat_le, nat_lt, nat_eq, List, [], ◌∷◌, ◌++◌, length, drop, replicate, count_by}

-- what counts of a probe's results: the latest ones, the oldest first, and how many of them are to be good
pub record Counted : Type 0 where
  pub threshold : ℕ
  pub results : List Bool

abbrev pub counted : ℕ → List Bool → Counted
counted threshold results = record { threshold = threshold; results = results }

-- the last ones of a list
abbrev pub latest : ℕ → List Bool → List Bool
latest most results = drop (length results - most) results

-- a window begins with bad results, and so many good ones behind them
abbrev pub beginning : ℕ → ℕ → List Bool
beginning window initial = replicate (window - initial) false ++ replicate initial true

-- the window after these results, the oldest first: the last ones of those that it begins with and of these
abbrev pub window_of : ℕ → ℕ → List Bool → List Bool
window_of window initial results = latest window (beginning window initial ++ results)

-- healthy: at least so many of the results are good
abbrev pub is_healthy : Counted → Bool
is_healthy counted = nat_le counted.threshold (count_by (λ good. good) counted.results)

-- a result more
abbrev pub with_result : Counted → Bool → Counted
with_result old good = counted old.threshold (latest (length old.results) (old.results ++ good ∷ []))

-- a window of no result or of more than 64, or one of the other numbers is over it
abbrev pub is_out_of_range : ℕ → ℕ → ℕ → Bool
is_out_of_range window threshold initial = nat_eq window 0 || nat_lt 64 window || nat_lt window threshold || nat_lt window initial

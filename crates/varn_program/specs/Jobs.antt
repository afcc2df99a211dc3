-- What is played, and what comes of it.
use Rattle.std.specs.Prelude.{◌≡◌, ◌⊎◌, ⊤, false, ℕ, Option, List}
use Rattle.vmod_host.specs.declared.signature.Stored.{Stored}
use Rattle.varn_program.specs.declared.job.Job.{Job}
use Rattle.varn_program.specs.declared.job.Job.TheVariants.{Replay, Load}
use Rattle.varn_program.specs.declared.outcome.Outcome.{Outcome}
use Rattle.varn_program.specs.Run.{EndsReplay, IsComplete}
use Rattle.varn_program.specs.Load.{IsLoaded, Loads}

-- a replay keeps no segments
abbrev pub IsUnsegmented : Job → Type 0
IsUnsegmented (Replay params) = params.segments ≡ false
IsUnsegmented (Load seed steps) = ⊤

-- How a job ends: a replay plays what the source has left, and a load leaves the source as it is.
abbrev pub Plays : List Stored → Job → Option (List ℕ) → Option (List ℕ) → Option (List ℕ) → Option (List ℕ) → Type 0 → Outcome → Type 0
Plays stored (Replay params) left0 left1 held0 held1 untouched outcome = EndsReplay stored params left0 left1 held0 held1 outcome
Plays stored (Load seed steps) left0 left1 held0 held1 untouched outcome = untouched × Loads stored seed steps held0 held1 outcome

-- A job that nothing hinders is whole, or memory was wanting.
abbrev pub IsWhole : List Stored → Job → Option (List ℕ) → Option (List ℕ) → Option (List ℕ) → Type 0 → Type 0 → Outcome → Type 0
IsWhole stored (Replay params) left held0 held1 read_failed write_failed outcome = IsComplete stored params left held0 held1 (read_failed ⊎ write_failed) outcome
IsWhole stored (Load seed steps) left held0 held1 read_failed write_failed outcome = IsLoaded stored seed steps write_failed outcome

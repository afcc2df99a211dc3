-- When a fault of the outside may be told.
use Rattle.std.specs.Prelude.{ℕ, ◌+◌, ◌-◌, ◌^◌, ◌≤◌, ◌<◌, ◌≡◌, ◌==◌, ◌&&◌, ◌↔◌, Bool, List, length, min, if◌then◌else◌, Option, Some, Result, Ok, Err, OnErr, IfOk, IsErr, IsNone, IfSome}
use Rattle.std.specs.IoError.{error_kind}
use Rattle.std.specs.declared.io.Error.{Error}
use Rattle.std.specs.declared.io.ErrorKind.TheVariants.{Interrupted}
use Rattle.wire.specs.declared.traits.Failed.{Failed}

-- the next number of a count that stops at the greatest of 64 bits
abbrev pub next_count : ℕ → ℕ
next_count n = min (n + 1) (2 ^ 64 - 1)

-- the count of faults rose, as far as 64 bits go
abbrev pub Rose : ℕ → ℕ → Type 0
Rose before now = next_count before ≤ now

-- a count never falls, and an error comes only where it rose
pub record HasCause {T E : Type 0} (before now : ℕ) (result : Result T E) : Type 0 where
  pub later : before ≤ now
  pub failed : OnErr result (Rose before now)

-- a sink that takes nothing of a piece that isn't empty has a fault
abbrev pub TakesOrRose : {E : Type 0} → ℕ → ℕ → Result ℕ E → List ℕ → Type 0
TakesOrRose before now result piece = IfOk result (λ taken. taken ≡ 0 → 0 < length piece → Rose before now)

-- A reader's or writer's answer, what comes of it, and the count of faults before and after it. The count rises at
-- an error, and at 0 where that is a fault; a call that a signal interrupted is made again.
abbrev pub Settles : Result ℕ Error → Bool → Option (Result ℕ Failed) → ℕ → ℕ → Type 0
Settles (Ok count) none_is_fault settled before now =
    (settled ≡ Some (Ok count)) × (now ≡ if count == 0 && none_is_fault then next_count before else before)
Settles (Err error) none_is_fault settled before now =
    (now ≡ next_count before)
    × (IsNone settled ↔ (error_kind error ≡ Interrupted))
    × IfSome settled (λ answer. IsErr answer)

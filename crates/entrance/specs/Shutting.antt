-- When no more connections are accepted, and why.
use Rattle.std.specs.Prelude.{◌≡◌, ◌==◌, ◌||◌, ◌≤◌, ℕ, Bool, true, Option, Some, None}
use Rattle.entrance.specs.declared.remains.Reason.{Reason}
use Rattle.entrance.specs.declared.remains.Reason.TheVariants.{Full, Ended, Failed, NoMemory}

-- as many were accepted as may be, the listener said its end, a call of it failed, or a worker has no memory for another
abbrev pub is_shut : ℕ → ℕ → Bool → Bool → Bool → Bool
is_shut count most ended failed wanting = count == most || ended || failed || wanting

-- Each reason has its cause: so many were accepted, the listener said its end, or its count of failed calls isn't 0. That memory
-- was wanting has none. Without a reason no worker found the door shut.
abbrev pub Why : Option Reason → ℕ → ℕ → ℕ → ℕ → Bool → Type 0
Why None most accepted left faults ended = left ≡ 0
Why (Some Full) most accepted left faults ended = accepted ≡ most
Why (Some Ended) most accepted left faults ended = ended ≡ true
Why (Some Failed) most accepted left faults ended = 1 ≤ faults
Why (Some NoMemory) most accepted left faults ended = Unit {0}

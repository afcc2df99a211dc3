-- The connections that were dialed, where they are told.
use Rattle.std.specs.Prelude.{◌≡◌, ◌==◌, ℕ, List, ◌++◌, Option, Some, None, if◌then◌else◌}
use Rattle.wire.specs.Causes.{next_count}

-- a told list grows by these; one that isn't told doesn't begin to be
abbrev pub Adds : {X : Type 0} → Option (List X) → Option (List X) → List X → Type 0
Adds None None more = Unit {0}
Adds None (Some after) more = ⊥
Adds (Some before) None more = ⊥
Adds (Some before) (Some after) more = after ≡ before ++ more

-- a count behind a link that was handed back: it rises exactly where the link's own isn't 0
abbrev pub counted_link : ℕ → ℕ → ℕ
counted_link count faults = if faults == 0 then count else next_count count

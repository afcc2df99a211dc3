-- What a wait for connections comes to, as clauses say it.
use Rattle.std.specs.Prelude.{◌≡◌, ℕ, Bool, true, false, List}
use Rattle.wire.specs.Causes.{next_count}
use Rattle.world.specs.declared.awaited.Awaited.{Awaited}
use Rattle.world.specs.declared.awaited.Awaited.TheVariants.{Came, NobodyYet, End}

-- this holds of a connection that came, and of its address
abbrev pub IfCame : {L : Type 0} → Awaited L → (L → List ℕ → Type 0) → Type 0
IfCame (Came link address) says = says link address
IfCame NobodyYet says = Unit {0}
IfCame End says = Unit {0}

-- this holds where nobody came yet
abbrev pub IfNobodyYet : {L : Type 0} → Awaited L → Type 0 → Type 0
IfNobodyYet (Came link address) says = Unit {0}
IfNobodyYet NobodyYet says = says
IfNobodyYet End says = Unit {0}

abbrev pub is_end : {L : Type 0} → Awaited L → Bool
is_end (Came link address) = false
is_end NobodyYet = false
is_end End = true

-- the number of given connections behind such a wait, up to the greatest of 64 bits
abbrev pub given_behind : {L : Type 0} → ℕ → Awaited L → ℕ
given_behind given (Came link address) = next_count given
given_behind given NobodyYet = given
given_behind given End = given

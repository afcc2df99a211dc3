-- How many fields objects have (RFC 9110, 5.4: a server sets limits of its own).
use Rattle.std.specs.Prelude.{⊤, ℕ, ◌≤◌, List}
use Rattle.std.specs.List.{AllByRecursion}
use Rattle.cache_law.specs.declared.call.Call.{Call}
use Rattle.cache_law.specs.declared.call.Call.TheVariants.{Insert}
use Rattle.cache_law.specs.declared.call.Entry.{Entry}
use Rattle.cache_law.specs.Object.{count_fields}
use Rattle.cache_law.specs.State.{Held}

-- no object has more fields than so many
abbrev pub HaveFew : ℕ → List Held → Type 0
HaveFew most objects = AllByRecursion (λ held. count_fields held.view.object ≤ most) objects

-- the object that an insertion hands over has no more
abbrev pub HandsFew : ℕ → Call → Type 0
HandsFew most (Insert token object stale) = count_fields object ≤ most
HandsFew most call = ⊤

-- the same of each insertion
abbrev pub HandFew : ℕ → List Entry → Type 0
HandFew most entries = AllByRecursion (λ entry. HandsFew most entry.call) entries

-- What is kept stands for the state that a history reaches: each object looks as the history has it (Varnish Users Guide, "Purging and
-- banning", on the ban lurker).
use Rattle.std.specs.Prelude.{◌≡◌, ◌≤◌, ◌⊎◌, ℕ, true, List, Option, Some, None}
use Rattle.std.specs.List.{AllByRecursion}
use Rattle.cache_law.specs.declared.object.Object.{Object}
use Rattle.cache_law.specs.declared.call.Entry.{Entry}
use Rattle.cache_law.specs.Beginning.{Beginning}
use Rattle.cache_law.specs.History.{reached}
use Rattle.cache_law.specs.State.{State, is_open}
use Rattle.ban_lurker.specs.Looks.{look_of}
use Rattle.lazy_law.specs.Placed.{Lazy, Placed}
use Rattle.lazy_law.specs.Stands.{Stands}

-- at its own mark, and at each later one, the object of the number looks as it is stored
abbrev pub IsKnownBy : (ℕ → ℕ → Option Object) → Placed → Type 0
IsKnownBy known placed = (mark : ℕ) → placed.mark ≤ mark → known placed.view.number mark ≡ Some placed.view.object

-- no object was stored under the number so far: it is to be drawn, or its fetch is open
abbrev pub IsUnborn : State → ℕ → Type 0
IsUnborn state number = (state.next ≤ number) ⊎ (is_open state.fetches number ≡ true)

-- What is kept stands for the state that the entries reach, and looks as they have it.
pub record StandsAt (lazy : Lazy) (beginning : Beginning) (entries : List Entry) : Type 0 where
  pub stands : Stands lazy (reached beginning entries)
  pub looks : AllByRecursion (IsKnownBy (look_of beginning entries)) lazy.objects
  pub unborn : (number : ℕ) → IsUnborn (reached beginning entries) number → (mark : ℕ) → look_of beginning entries number mark ≡ None

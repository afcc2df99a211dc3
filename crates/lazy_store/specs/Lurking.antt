-- What the lurker does, one object after another.
use Rattle.std.specs.Prelude.{◌≡◌, ℕ, Bool, ◌&&◌, List, [], ◌∷◌}
use Rattle.cache_law.specs.declared.ban.Issued.{Issued}
use Rattle.lazy_law.specs.Placed.{Lazy, Placed, is_unswept}
use Rattle.lazy_law.specs.Insertion.{has_number}
use Rattle.lazy_law.specs.Sweeping.{swept_lazy}

-- the object has this number, and waits for the lurker
abbrev pub is_waiting_as : ℕ → List Issued → Placed → Bool
is_waiting_as number bans placed = has_number number placed && is_unswept bans placed

-- the objects of these numbers are swept, the last one first
abbrev pub swept_each : List ℕ → Lazy → Lazy
swept_each [] lazy = lazy
swept_each (number ∷ numbers) lazy = swept_lazy (has_number number) (swept_each numbers lazy)

-- some were swept, and nothing else has changed
pub record AreSwept (old new : Lazy) : Type 0 where
  pub numbers : List ℕ
  pub is : new ≡ swept_each numbers old

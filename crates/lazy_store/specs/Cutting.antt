-- Lines that no object needs go.
use Rattle.std.specs.Prelude.{◌≡◌, ℕ, true, List, [], ◌∷◌, ◌++◌}
use Rattle.cache_law.specs.declared.ban.BanLine.{BanLine}
use Rattle.lazy_law.specs.Banning.{MayBeCut, cut_to, is_needed, needed_lines}
use Rattle.lazy_law.specs.Placed.{Lazy}

-- the oldest lines are gone, of which no object needs one
pub record AreCut (old new : Lazy) : Type 0 where
  pub left : ℕ
  pub may : MayBeCut left old
  pub is : new ≡ cut_to left old

-- an object needs the oldest of the lines, where there is one
abbrev pub IsOldestNeeded : Lazy → Type 0
IsOldestNeeded lazy = (newer : List BanLine) (oldest : BanLine) → lazy.lines ≡ newer ++ oldest ∷ [] → is_needed lazy.objects oldest ≡ true

-- the lines are left that objects need
abbrev pub with_needed : Lazy → Lazy
with_needed lazy = record lazy { lines = needed_lines lazy.objects lazy.lines }

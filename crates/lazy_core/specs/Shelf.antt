-- The lazy cache's shelf: for which of the law's bans and objects that stands what its store keeps.
use Rattle.std.specs.Prelude.{ℕ, List, map}
use Rattle.cache_law.specs.declared.call.Entry.{Entry}
use Rattle.cache_law.specs.Beginning.{Beginning}
use Rattle.cache_law.specs.History.{reached}
use Rattle.cache_desk.specs.Stock.{Stock}
use Rattle.lazy_law.specs.Placed.{Lazy, held_of, kept_bans}
use Rattle.lazy_law.specs.Standing.{StandsAt}
use Rattle.lazy_store.specs.Cutting.{AreCut}
use Rattle.lazy_store.specs.Lurking.{AreSwept}
use Rattle.lazy_store.specs.Uses.{AreUsedBefore}
use Rattle.lazy_core.specs.declared.shelf.LazyShelf.{LazyShelf}

-- The stock with which a history begins: each object is in time and was tested on all bans on objects alone then, so it is as the law
-- holds it.
abbrev pub stock_in : Lazy → Stock
stock_in lazy = record { issued = lazy.issued; bans = kept_bans lazy; objects = map (held_of (kept_bans lazy)) lazy.objects }

-- What is kept stands for what the entries reach, and no object was used at the place of a later entry.
pub record StandsBehind (lazy : Lazy) (beginning : Beginning) (entries : List Entry) : Type 0 where
  pub stands : StandsAt lazy beginning entries
  pub uses : AreUsedBefore (reached beginning entries).entries lazy.objects

abbrev pub ShelfStands : LazyShelf → Beginning → List Entry → Type 0
ShelfStands shelf beginning entries = StandsBehind shelf.store beginning entries

-- Some objects were tested on the bans on objects alone, of which no place moved, and then the oldest lines are gone of which no object
-- needs one.
pub record AreSweptAndCut (old new : Lazy) : Type 0 where
  pub swept : Lazy
  pub sweeps : AreSwept old swept
  pub cuts : AreCut swept new

-- The plain cache's shelf: what stands on it, and for which of the law's bans and objects that stands.
use Rattle.std.specs.Prelude.{◌≡◌, ℕ, List}
use Rattle.cache_law.specs.declared.ban.Issued.{Issued}
use Rattle.cache_law.specs.declared.call.Entry.{Entry}
use Rattle.cache_law.specs.State.{as_seen}
use Rattle.cache_law.specs.Beginning.{Beginning}
use Rattle.cache_law.specs.History.{reached}
use Rattle.cache_desk.specs.Stock.{Stock, with_stock}
use Rattle.flat_core.specs.declared.stored_object.StoredObject.{StoredObject}
use Rattle.flat_core.specs.StoredObject.{AreOrdered, held_all}

-- how many bans were issued, the bans, and the objects in memory
pub record Stored : Type 0 where
  pub issued : ℕ
  pub bans : List Issued
  pub objects : List StoredObject

-- the same as the law has it
abbrev pub stock_in : Stored → Stock
stock_in stored = record { issued = stored.issued; bans = stored.bans; objects = held_all stored.bans stored.objects }

-- They are what the entries reach, but for objects that aren't in time any more.
pub record StandsFor (stored : Stored) (beginning : Beginning) (entries : List Entry) : Type 0 where
  pub ordered : AreOrdered stored.issued stored.bans stored.objects
  pub issued : stored.issued ≡ (reached beginning entries).issued
  pub reaches : as_seen (with_stock (stock_in stored) (reached beginning entries)) ≡ as_seen (reached beginning entries)

-- What a run of workers over one cache comes to.
use Rattle.std.specs.Prelude.{◌≡◌, ℕ, Bool, true, List, ◌++◌, Option, length, map}
use Rattle.cache_law.specs.declared.call.Entry.{Entry}
use Rattle.cache_law.specs.Beginning.{Beginning}
use Rattle.cache_law.specs.History.{Legal}
use Rattle.wire.specs.Telling.{LinkTold}
use Rattle.entrance.specs.declared.remains.Reason.{Reason}
use Rattle.entrance.specs.declared.remains.Reason.TheVariants.{Full, Ended, Failed, NoMemory}
use Rattle.wire.specs.Causes.{Rose}
use Rattle.wire.specs.Talks.{Adds}
use Rattle.world.specs.declared.kit.Kit.{Kit}
use Rattle.crew.specs.Leaving.{AllWhole}
use Rattle.crew.specs.Parts.{Part, all_came, all_places}
use Rattle.crew.specs.Places.{EachOnce}

-- There is one legal history. The run is made of parts, one for each worker: the world got their kits back, and their keepers stand,
-- in the order of the parts; so many connections were served by all of them. Each part is whole over the history, and each place of
-- the history is that of one call, which was made for one connection or beside the workers.
pub record Ran {N E D K : Type 0} (Unused : Kit D K → Type 0) (Told : N → List E → Type 0) (places_of : List E → List ℕ)
    (Tells : Beginning → List Entry → ℕ → Kit D K → Kit D K → LinkTold → List E → Type 0) (beginning : Beginning)
    (history : List Entry) (before after : Option (List (Kit D K))) (keepers : List N) (connections : ℕ) (beside : List ℕ) : Type 0 where
  pub legal : Legal beginning history
  pub parts : List (Part (Kit D K) N E)
  pub whole : AllWhole Unused Told places_of (Tells beginning history) history parts
  pub kits_are : Adds before after (map (λ (p : Part (Kit D K) N E). p.last) parts)
  pub keepers_are : keepers ≡ map (λ (p : Part (Kit D K) N E). p.keeper) parts
  pub count_is : connections ≡ length (all_came parts)
  pub each_once : EachOnce history (beside ++ all_places places_of (all_came parts))

-- Why no more connections were accepted, and what is then so: as many were served as may be; or the world tells that a listener said its
-- end; or its count of failed calls of listeners rose. That memory was wanting has no sign.
abbrev pub Stopped : Reason → ℕ → ℕ → Bool → ℕ → ℕ → Type 0
Stopped Full most count ended faults faults' = count ≡ most
Stopped Ended most count ended faults faults' = ended ≡ true
Stopped Failed most count ended faults faults' = Rose faults faults'
Stopped NoMemory most count ended faults faults' = Unit {0}

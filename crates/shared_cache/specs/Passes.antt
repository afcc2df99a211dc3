-- When a pass is one of a shared cache.
use Rattle.cache_law.specs.declared.call.Entry.{Entry}
use Rattle.cache_law.specs.Beginning.{Beginning}
use Rattle.turnstile.specs.declared.handles.Pass.{Pass}
use Rattle.turnstile.specs.Handles as lock
use Rattle.shared_cache.specs.declared.sharing.SharedCache.{SharedCache}

module _ {C : Type 0} where
  -- it is a pass of this cache, and in no call
  abbrev pub IsPassOf : SharedCache C → Pass Entry Beginning → Type 0
  IsPassOf cache pass = lock.IsPassOf cache.lock pass

-- What a caller's pass knows behind calls.
use Rattle.std.specs.Prelude.{◌≡◌, ℕ, List, ◌++◌}
use Rattle.cache_law.specs.declared.call.Entry.{Entry}
use Rattle.turnstile.specs.Knowledge.{saw}
use Rattle.shared_cache.specs.Sharing.{CallerKnows, numbers}

-- The history grew behind what the pass had seen, and the pass has gained these places.
pub record HasCalled (k after : CallerKnows) (places : List ℕ) : Type 0 where
  pub between : List Entry
  pub knows : after ≡ saw k (k.seen ++ between)
  pub gained : numbers after ≡ numbers k ++ places

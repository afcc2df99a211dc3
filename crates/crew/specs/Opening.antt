-- Where a run begins.
use Rattle.std.specs.Prelude.{◌≡◌, [], Some, false}
use Rattle.cache_law.specs.Beginning.{Beginning}
use Rattle.cache_law.specs.History.{Legal}
use Rattle.turnstile.specs.Knowledge.{opened}
use Rattle.shared_cache.specs.Sharing.{CallerKnows}

-- The empty history is legal from there, no round is open, no segments are kept, and no entry of the run was made before.
pub record CanBegin (beginning : Beginning) : Type 0 where
  pub legal : Legal beginning []
  pub idle : beginning.base.rounds ≡ []
  pub unsegmented : beginning.params.segments ≡ false
  pub first : beginning.base.entries ≡ 0

-- It has seen no entry yet of a cache that may begin so.
pub record IsStart (k : CallerKnows) : Type 0 where
  pub beginning : Beginning
  pub begins : k.setting ≡ Some beginning
  pub can_begin : CanBegin beginning
  pub unseen : k.seen ≡ []

-- It is the first pass of such a cache, under the number 0.
pub record IsFirst (k : CallerKnows) : Type 0 where
  pub beginning : Beginning
  pub knows : k ≡ opened 0 beginning
  pub can_begin : CanBegin beginning

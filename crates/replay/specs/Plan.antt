-- What a session goes by.
use Rattle.std.specs.Prelude.{List}
use Rattle.cache_law.specs.Beginning.{Beginning}
use Rattle.replay.specs.declared.policy.Request.{Request}
use Rattle.replay.specs.declared.policy.Given.{Given}
use Rattle.replay.specs.declared.policy.Want.{Want}

pub record Plan : Type 1 where
  -- after these givens, newest first, a round of this request wants this
  pub wants : Request → List Given → Want → Type 0
  -- the limits of the cache, and its state before the first line
  pub beginning : Beginning

abbrev pub plan_of : (Request → List Given → Want → Type 0) → Beginning → Plan
plan_of wants beginning = record { wants = wants; beginning = beginning }

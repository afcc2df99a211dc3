-- What a round of the lurker does to what its pass knows: nothing is entered, and a verdict is of the history that is seen.
use Rattle.std.specs.Prelude.{◌≡◌, ⊤, Some}
use Rattle.cache_law.specs.Beginning.{Beginning}
use Rattle.turnstile.specs.Knowledge.{Meets, saw}
use Rattle.ban_lurker.specs.declared.chore.Chore.{Chore}
use Rattle.ban_lurker.specs.declared.chore.Verdict.{Verdict}
use Rattle.ban_lurker.specs.Verdicts.{IsChoreOf, IsVerdictOf}
use Rattle.shared_cache.specs.declared.errands.Errand.{Errand}
use Rattle.shared_cache.specs.declared.errands.Errand.TheVariants.{Settled, Moved, Idle}
use Rattle.shared_cache.specs.Sharing.{CallerKnows, caller_of}

-- The pass had turns in which it entered nothing: it has seen what others entered since.
pub record HasTurned (k after : CallerKnows) : Type 0 where
  pub knows : after ≡ saw k after.seen
  pub meets : Meets caller_of k after.seen

-- the chore, or the verdict, is of the history that the pass has seen
pub record SeesChore (chore : Chore) (k : CallerKnows) : Type 0 where
  pub beginning : Beginning
  pub begins : k.setting ≡ Some beginning
  pub of_history : IsChoreOf beginning k.seen chore

pub record SeesVerdict (verdict : Verdict) (k : CallerKnows) : Type 0 where
  pub beginning : Beginning
  pub begins : k.setting ≡ Some beginning
  pub of_history : IsVerdictOf beginning k.seen verdict

-- what an errand carries is of the history that its pass has seen
abbrev pub IsErrandOf : CallerKnows → Errand → Type 0
IsErrandOf k (Settled verdict) = SeesVerdict verdict k
IsErrandOf k (Moved verdict) = SeesVerdict verdict k
IsErrandOf k Idle = ⊤

-- What a call asked of the shelf before anything was changed, and by which state it is judged then whether it fits.
use Rattle.std.specs.Prelude.{Bool, true, false, Option, Some, None}
use Rattle.cache_law.specs.declared.call.Call.{Call}
use Rattle.cache_law.specs.declared.call.Call.TheVariants as calls
use Rattle.cache_law.specs.State.{State}
use Rattle.cache_frame.specs.declared.finding.Asked.{Asked}
use Rattle.cache_frame.specs.declared.finding.Asked.TheVariants.{Lookup, Insert, Nothing}
use Rattle.cache_frame.specs.declared.finding.Found.{Found}
use Rattle.cache_frame.specs.declared.finding.StaleObject.TheVariants.{Gone, Untested}

-- what a lookup found in an open round
abbrev pub found_in : {M : Type 0} → Asked M → Option (Found M)
found_in (Lookup found) = Some found
found_in (Insert stale) = None
found_in Nothing = None

-- the stale object is gone
abbrev pub says_gone : {M : Type 0} → Asked M → Bool
says_gone (Insert Gone) = true
says_gone asked = false

-- the stale object couldn't be tested
abbrev pub is_untested : {M : Type 0} → Asked M → Bool
is_untested (Insert Untested) = true
is_untested asked = false

-- Of the states behind a refusal and behind the law's reply, that by which the call is judged: an insertion whose stale object
-- couldn't be tested is refused.
abbrev pub judged : Call → Bool → State → State → State
judged (calls.Insert token object stale) true refusal law = refusal
judged call untested refusal law = law

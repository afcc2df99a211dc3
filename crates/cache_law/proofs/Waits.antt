-- Who waits for nothing may make any call.
use Rattle.std.proofs.Common.{◌≡◌, ℕ, None}
use Rattle.cache_law.specs.declared.call.Call.{Call}
use Rattle.cache_law.specs.declared.call.Call.TheVariants.{Lookup}
use Rattle.cache_law.specs.State.{State, awaits}
use Rattle.cache_law.specs.History.{HasWaited}

pub HasWaited-none : (state : State) (caller : ℕ) (call : Call) → awaits state caller ≡ None → HasWaited state caller call
HasWaited-none state caller (Lookup query) none_ = none_
HasWaited-none state caller call none_ = tt

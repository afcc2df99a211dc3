-- Steps of a cache that has a lurker, and the history that they lead to.
use Rattle.std.specs.Prelude.{◌≡◌, ◌≢◌, ℕ, Bool, true, false, List, [], ◌∷◌, filter}
use Rattle.std.specs.List.{AllByRecursion}
use Rattle.cache_law.specs.declared.cache.Told.{Told}
use Rattle.cache_law.specs.declared.call.Call.TheVariants.{BanList}
use Rattle.cache_law.specs.declared.call.Entry.{Entry}
use Rattle.cache_law.specs.declared.call.Reply.TheVariants.{Refused}
use Rattle.cache_law.specs.Beginning.{Beginning}
use Rattle.cache_law.specs.Core.{Entered}
use Rattle.cache_law.specs.History.{HasWaited, reached}
use Rattle.ban_lurker.specs.Verdicts.{IsVerdictOf}
use Rattle.core_steps.specs.declared.step.CoreStep.{CoreStep}
use Rattle.core_steps.specs.declared.step.CoreStep.TheVariants.{Call, Lurk, Settle}

-- the step may come behind these entries: who was told to wait for a fetch has done so, and a verdict is of the history
abbrev pub MayCome : Beginning → List Entry → CoreStep → Type 0
MayCome beginning entries (Call caller reading call) = HasWaited (reached beginning entries) caller call
MayCome beginning entries (Lurk count) = Unit {0}
MayCome beginning entries (Settle verdict) = IsVerdictOf beginning entries verdict

-- a call that is answered enters one entry, which follows those before it; the lurker enters none
abbrev pub Moves : Beginning → List Entry → CoreStep → List Entry → Type 0
Moves beginning old (Call caller reading call) new = (told : Told) × Entered beginning old new caller reading call told
Moves beginning old (Lurk count) new = new ≡ old
Moves beginning old (Settle verdict) new = new ≡ old

-- steps, one after another
abbrev pub Grows : Beginning → List Entry → List CoreStep → List Entry → Type 0
Grows beginning old [] new = new ≡ old
Grows beginning old (step ∷ steps) new = (between : List Entry) × Moves beginning old step between × Grows beginning between steps new

abbrev pub is_call : CoreStep → Bool
is_call (Call caller reading call) = true
is_call (Lurk count) = false
is_call (Settle verdict) = false

-- the steps without the lurker's
abbrev pub erased : List CoreStep → List CoreStep
erased steps = filter is_call steps

-- the law leaves the entry one answer: it is no insertion that was refused for want of memory, and no list of bans
abbrev pub IsBound : Entry → Type 0
IsBound entry = (entry.reply ≢ Refused) × (entry.call ≢ BanList)

abbrev pub AllBound : List Entry → Type 0
AllBound entries = AllByRecursion IsBound entries

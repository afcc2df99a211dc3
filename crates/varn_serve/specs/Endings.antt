-- How a run ends by what connections came to.
use Rattle.std.specs.Prelude.{◌≡◌, ◌++◌, ◌||◌, ℕ, Bool, true, false, List, [], ◌∷◌, codes, Option, if◌then◌else◌}
use Rattle.std.specs.Fmt.{decimal}
use Rattle.std.specs.Io.KnownBytes.{Appends}
use Rattle.entrance.specs.declared.remains.Reason.{Reason}
use Rattle.entrance.specs.declared.remains.Reason.TheVariants as reason
use Rattle.console_link.specs.declared.talk.ConsoleEnd.{ConsoleEnd}
use Rattle.console_link.specs.declared.talk.ConsoleEnd.TheVariants as end
use Rattle.console_link.specs.declared.talk.ConsoleTalk.{ConsoleTalk}
use Rattle.varn_serve.specs.declared.ending.Status.{Status}
use Rattle.varn_serve.specs.declared.ending.Status.TheVariants.{Done, WriteFault, NoMemory, ListenFault, HistoryFull}

abbrev pub by_reason : Reason → Status
by_reason reason.Full = Done
by_reason reason.Ended = Done
by_reason reason.Failed = ListenFault
by_reason reason.NoMemory = NoMemory

-- a talk of a console found the history full
abbrev pub is_full_end : ConsoleEnd → Bool
is_full_end end.HistoryFull = true
is_full_end other = false

abbrev pub has_full : List ConsoleTalk → Bool
has_full [] = false
has_full (talk ∷ talks) = is_full_end talk.ended || has_full talks

-- how a run ends whose workers left for this reason, but for what is told of it; whether a connection or a talk found the history full
abbrev pub verdict_of : Reason → Bool → Status
verdict_of why is_full = if is_full then HistoryFull else by_reason why

-- the line that tells how many rounds there were
abbrev pub rounds_line : ℕ → List ℕ
rounds_line n = codes "rounds " ++ decimal n ++ (10 ∷ [])

-- The line was written, or the sink failed, or memory was wanting for it.
abbrev pub Reports : Option (List ℕ) → Option (List ℕ) → Type 0 → ℕ → Status → Type 0
Reports held held' failed rounds Done = Appends held held' (rounds_line rounds)
Reports held held' failed rounds WriteFault = failed
Reports held held' failed rounds NoMemory = held' ≡ held
Reports held held' failed rounds other = ⊥

-- How a run is told that ended so: the line is written only where it was whole.
abbrev pub Told : Option (List ℕ) → Option (List ℕ) → Type 0 → ℕ → Status → Status → Type 0
Told held held' failed rounds Done status = Reports held held' failed rounds status
Told held held' failed rounds other status = (status ≡ other) × (held' ≡ held)

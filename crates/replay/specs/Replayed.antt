-- What a session that was played leaves: its history and its text, for each way in which it may end.
use Rattle.std.specs.Prelude.{◌≡◌, ◌⊎◌, ℕ, Bool, true, false, Option, Some, None, Result, Ok, Err, List, [], ◌∷◌, ◌++◌, if◌then◌else◌}
use Rattle.std.specs.Io.KnownBytes.{Appends}
use Rattle.session_text.specs.declared.session.Session.{Session}
use Rattle.vmod_host.specs.declared.signature.Stored.{Stored}
use Rattle.cache_law.specs.declared.call.Entry.{Entry}
use Rattle.cache_law.specs.History.{Legal}
use Rattle.replay.specs.declared.event.Event.{Event}
use Rattle.replay.specs.declared.event.NumberedEvent.{NumberedEvent}
use Rattle.replay.specs.declared.event.Script.{Script}
use Rattle.replay.specs.declared.rounds.Break.TheVariants as breaks
use Rattle.replay.specs.declared.schedule.Halt.{Halt}
use Rattle.replay.specs.declared.schedule.Halt.TheVariants as halts
use Rattle.replay.specs.declared.session.ReplayError.{ReplayError}
use Rattle.replay.specs.declared.session.ReplayError.TheVariants.{Idle, Unanswered, WriteFault, HistoryFull, NoMemory}
use Rattle.replay.specs.declared.session.Replayed.{Replayed}
use Rattle.replay.specs.Plan.{Plan}
use Rattle.replay.specs.Scene.{Scene, AtRest, opening_scene}
use Rattle.replay.specs.Pieces.{Pieces, pieces, Takes, LosesEnd, IsFrontOf}
use Rattle.replay.specs.Endings.{IsIdle, WantsTooMuch}
use Rattle.replay.specs.Went.{Went, events_in}
use Rattle.replay.specs.Build.{IsBuilt}

-- the refusal for a halt
abbrev pub error_for : Halt → ReplayError
error_for (halts.Idle line) = Idle line
error_for (halts.Broken breaks.WriteFault) = WriteFault
error_for (halts.Broken breaks.HistoryFull) = HistoryFull
error_for (halts.Broken breaks.NoMemory) = NoMemory

abbrev pub refusal_of : Result (Unit {0}) Halt → Bool → ℕ → Option ReplayError
refusal_of (Ok u) nobody_waits end = if nobody_waits then None else Some (Unanswered end)
refusal_of (Err halt) nobody_waits end = Some (error_for halt)

abbrev pub is_write_fault : Option ReplayError → Bool
is_write_fault (Some WriteFault) = true
is_write_fault ending = false

-- What becomes of an ending once all that was kept is to be written: a write fault stays one, and any other ending stands
-- where all of it was written, and else is a write fault, with some of the end lost.
pub record IsWritten (old : Pieces) (held : Option (List ℕ)) (ending told : Option ReplayError) : Type 0 where
  pub fault : is_write_fault ending ≡ true → (told ≡ ending) × (held ≡ old.held)
  pub other : is_write_fault ending ≡ false → ((told ≡ ending) × Takes old (pieces held []) []) ⊎ ((told ≡ Some WriteFault) × LosesEnd old held [])

-- The session came so far: from the opening scene on, moves that read these events lead to this history, and
-- to a scene and a text of which this holds. The history is legal.
pub record CameTo (plan : Plan) (events : List Event) (history : List Entry) (holds : Scene → List ℕ → Type 0) : Type 0 where
  pub went : Went plan (opening_scene plan) events [] history holds
  pub legal : Legal plan.beginning history

-- The same, where an end came that may come within the session: some of its events were read.
abbrev pub CutOff : Plan → List Event → List Entry → (Scene → List ℕ → Type 0) → Type 0
CutOff plan events history holds =
    (heard : List Event) × (rest : List Event) × (events ≡ heard ++ rest) × CameTo plan heard history holds

-- no client is under way
pub record NobodyWaits (scene : Scene) : Type 0 where
  pub for_replies : scene.waiting ≡ []
  pub for_tokens : scene.parked ≡ []

-- what the history and the sink hold after each ending
abbrev pub EndsSo : Plan → Script → List Entry → Option (List ℕ) → Option (List ℕ) → Option ReplayError → Type 0
-- the whole transcript: the schedule is at rest, and nobody waits
EndsSo plan script history before now None =
    CameTo plan (events_in script.events) history (λ scene text. AtRest scene × NobodyWaits scene × Appends before now text)
-- the text of the lines before the idle one
EndsSo plan script history before now (Some (Idle line)) =
    (played : List NumberedEvent) × (idle : NumberedEvent) × (rest : List NumberedEvent) × (script.events ≡ played ++ idle ∷ rest) × (idle.number ≡ line)
    × CameTo plan (events_in played) history (λ scene text. AtRest scene × IsIdle scene idle.event × Appends before now text)
-- the text of all lines, and somebody waits
EndsSo plan script history before now (Some (Unanswered line)) =
    (line ≡ script.end)
    × CameTo plan (events_in script.events) history (λ scene text. AtRest scene × (NobodyWaits scene → ⊥) × Appends before now text)
-- a front of the text over the history, and not the whole of it
EndsSo plan script history before now (Some WriteFault) =
    CutOff plan (events_in script.events) history (λ scene text. (front : List ℕ) × IsFrontOf front text × Appends before now front)
-- the call that is wanted doesn't fit the history
EndsSo plan script history before now (Some HistoryFull) =
    CutOff plan (events_in script.events) history (λ scene text. WantsTooMuch plan history scene × Appends before now text)
EndsSo plan script history before now (Some NoMemory) =
    CutOff plan (events_in script.events) history (λ scene text. Appends before now text)

abbrev pub IsReplayed : Plan → Script → Option (List ℕ) → Option (List ℕ) → Replayed → Type 0
IsReplayed plan script before now replayed = EndsSo plan script replayed.played.history before now replayed.refusal

-- nothing was played, and nothing written
pub record NothingPlayed (history : List Entry) (before now : Option (List ℕ)) : Type 0 where
  pub history_is : history ≡ []
  pub held_is : now ≡ before

-- the session's events were played, and this ended it
abbrev pub PlayedTo : List Stored → Plan → Session → List Entry → Option (List ℕ) → Option (List ℕ) → Option ReplayError → Type 0
PlayedTo stored plan session history before now refusal =
    (script : Script) × IsBuilt stored session script × EndsSo plan script history before now refusal

-- what the history and the sink hold after each ending of a session
abbrev pub SessionEnds : List Stored → Plan → Session → List Entry → Option (List ℕ) → Option (List ℕ) → Option ReplayError → Type 0
SessionEnds stored plan session history before now (Some NoMemory) =
    NothingPlayed history before now ⊎ PlayedTo stored plan session history before now (Some NoMemory)
SessionEnds stored plan session history before now None = PlayedTo stored plan session history before now None
SessionEnds stored plan session history before now (Some (Idle line)) = PlayedTo stored plan session history before now (Some (Idle line))
SessionEnds stored plan session history before now (Some (Unanswered line)) = PlayedTo stored plan session history before now (Some (Unanswered line))
SessionEnds stored plan session history before now (Some WriteFault) = PlayedTo stored plan session history before now (Some WriteFault)
SessionEnds stored plan session history before now (Some HistoryFull) = PlayedTo stored plan session history before now (Some HistoryFull)

-- What a load leaves: the session of a number that is played into memory, and its summary.
use Rattle.std.specs.Prelude.{◌≡◌, ◌⊎◌, false, ℕ, Option, Some, None, List, []}
use Rattle.std.specs.Io.KnownBytes.{Appends}
use Rattle.wire.specs.Content.{AppendsPart}
use Rattle.session_text.specs.declared.session.Session.{Session as TheSession}
use Rattle.session_text.specs.Generated.{generated}
use Rattle.session_text.specs.Sessions.{IsSession}
use Rattle.cache_law.specs.declared.setting.Params.{Params}
use Rattle.cache_law.specs.declared.call.Entry.{Entry}
use Rattle.vmod_host.specs.declared.signature.Stored.{Stored}
use Rattle.replay.specs.Laws.{NothingStops}
use Rattle.replay.specs.Replayed.{SessionEnds}
use Rattle.replay.specs.declared.session.ReplayError.{ReplayError}
use Rattle.replay.specs.declared.session.ReplayError.TheVariants as refusals
use Rattle.load_summary.specs.declared.summary.Summary.{Summary}
use Rattle.load_summary.specs.Counts.{summary_of}
use Rattle.load_summary.specs.Texts.{text_of}
use Rattle.varn_program.specs.Words.{usual}
use Rattle.varn_program.specs.Run.{IsUnplayed, note_of, opening_boot, plan}
use Rattle.varn_program.specs.declared.outcome.Status.{Status}
use Rattle.varn_program.specs.declared.outcome.Status.TheVariants.{Done, Words, Session, ReadFault, WriteFault, NoMemory, HistoryFull}
use Rattle.varn_program.specs.declared.outcome.Outcome.{Outcome}

-- a load has the limits of a replay that gives none
abbrev pub usual_limits : Params
usual_limits = record { room = usual; history = usual; segments = false }

-- The session of this number with so many steps was played over the history, this was written in memory, and this ended it.
abbrev pub IsPlayed : List Stored → ℕ → ℕ → List Entry → Option (List ℕ) → Option ReplayError → Type 0
IsPlayed stored seed steps history written ending =
    (session : TheSession) × IsSession (generated seed steps) session × SessionEnds stored (plan usual_limits opening_boot) session history (Some []) written ending

-- the same, whatever was written
abbrev pub IsEnded : List Stored → ℕ → ℕ → List Entry → Option ReplayError → Type 0
IsEnded stored seed steps history ending = (written : Option (List ℕ)) × IsPlayed stored seed steps history written ending

-- the summary of the load, whose transcript this is
abbrev pub told : ℕ → Outcome → List ℕ → List ℕ
told steps outcome transcript = text_of (summary_of steps outcome.history outcome.swept transcript)

-- The whole session was played, and of its summary so much was written.
abbrev pub IsTold : List Stored → ℕ → ℕ → Outcome → (List ℕ → Type 0) → Type 0
IsTold stored seed steps outcome Writes =
    (outcome.note ≡ None) × (transcript : List ℕ) × IsPlayed stored seed steps outcome.history (Some transcript) None × Writes (told steps outcome transcript)

-- how a load ends, by its status
abbrev pub LoadsAs : List Stored → ℕ → ℕ → Option (List ℕ) → Option (List ℕ) → Outcome → Status → Type 0
-- the whole summary
LoadsAs stored seed steps held0 held1 outcome Done = IsTold stored seed steps outcome (Appends held0 held1)
LoadsAs stored seed steps held0 held1 outcome Words = ⊥
-- the text is no session, or it is stopped at the noted line; that there is no such number, only tests show
LoadsAs stored seed steps held0 held1 outcome Session =
    (held1 ≡ held0)
    × (IsUnplayed (generated seed steps) outcome
    ⊎ ((line : ℕ) × (outcome.note ≡ note_of line 7) × IsEnded stored seed steps outcome.history (Some (refusals.Idle line)))
    ⊎ ((line : ℕ) × (outcome.note ≡ note_of line 8) × IsEnded stored seed steps outcome.history (Some (refusals.Unanswered line))))
LoadsAs stored seed steps held0 held1 outcome ReadFault = ⊥
-- a front of the summary
LoadsAs stored seed steps held0 held1 outcome WriteFault = IsTold stored seed steps outcome (AppendsPart held0 held1)
LoadsAs stored seed steps held0 held1 outcome HistoryFull = (held1 ≡ held0) × (outcome.note ≡ None) × IsEnded stored seed steps outcome.history (Some refusals.HistoryFull)
-- nothing was played, or all that there was memory for
LoadsAs stored seed steps held0 held1 outcome NoMemory =
    (held1 ≡ held0) × (outcome.note ≡ None)
    × ((outcome.history ≡ []) ⊎ ((ending : Option ReplayError) × IsEnded stored seed steps outcome.history ending))

abbrev pub Loads : List Stored → ℕ → ℕ → Option (List ℕ) → Option (List ℕ) → Outcome → Type 0
Loads stored seed steps held0 held1 outcome = LoadsAs stored seed steps held0 held1 outcome outcome.status

-- Where the session of the number is one that nothing stops over the history that is handed out, and the sink didn't fail,
-- the summary was written, or memory was wanting.
abbrev pub IsLoaded : List Stored → ℕ → ℕ → Type 0 → Outcome → Type 0
IsLoaded stored seed steps failed outcome =
    (session : TheSession) → IsSession (generated seed steps) session → NothingStops stored (plan usual_limits opening_boot) session outcome.history → (failed → ⊥)
    → (outcome.status ≡ Done) ⊎ (outcome.status ≡ NoMemory)

-- ---- how it is told

-- The summary was written, or the sink failed, or memory was wanting for it.
abbrev pub Reports : Option (List ℕ) → Option (List ℕ) → Type 0 → Summary → Status → Type 0
Reports held0 held1 failed summary Done = Appends held0 held1 (text_of summary)
Reports held0 held1 failed summary WriteFault = AppendsPart held0 held1 (text_of summary) × failed
Reports held0 held1 failed summary NoMemory = held1 ≡ held0
Reports held0 held1 failed summary other = ⊥

-- the status of a load that was played with this one and not to its end: a sink in memory fails only for want of memory
abbrev pub unloaded : Status → Status
unloaded WriteFault = NoMemory
unloaded status = status

-- what is told of a load that was played with this status: of one that was whole, its summary
abbrev pub TellsAs : ℕ → Option (List ℕ) → Option (List ℕ) → Type 0 → List ℕ → Outcome → Status → Status → Type 0
TellsAs steps held0 held1 failed transcript played Done status = Reports held0 held1 failed (summary_of steps played.history played.swept transcript) status
TellsAs steps held0 held1 failed transcript played other status = (status ≡ unloaded other) × (held1 ≡ held0)

pub record Tells (steps : ℕ) (held0 held1 : Option (List ℕ)) (failed : Type 0) (transcript : List ℕ) (played outcome : Outcome) : Type 0 where
  pub tells : TellsAs steps held0 held1 failed transcript played played.status outcome.status
  pub rest : outcome ≡ record played { status = outcome.status }

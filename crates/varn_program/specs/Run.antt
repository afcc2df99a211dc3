-- What a run leaves, for each way in which it may end.
use Rattle.std.specs.Prelude.{◌≡◌, ◌⊎◌, ◌≤◌, ℕ, Option, Some, None, List, [], ◌∷◌, codes, length}
use Rattle.wire.specs.Content.{ReadsUpTo}
use Rattle.session_text.specs.declared.session.Session.{Session as TheSession}
use Rattle.session_text.specs.declared.session.FaultKind.{FaultKind}
use Rattle.session_text.specs.Faults.{kind_number}
use Rattle.session_text.specs.Sessions.{IsSession, IsFault}
use Rattle.cache_law.specs.declared.setting.Params.{Params}
use Rattle.vmod_host.specs.declared.signature.Stored.{Stored}
use Rattle.cache_law.specs.declared.setting.Boot.{Boot}
use Rattle.cache_law.specs.declared.call.Entry.{Entry}
use Rattle.cache_law.specs.Beginning.{beginning_of}
use Rattle.replay.specs.Laws.{NothingStops}
use Rattle.replay.specs.declared.session.ReplayError.{ReplayError}
use Rattle.replay.specs.declared.session.ReplayError.TheVariants as refusals
use Rattle.replay.specs.Plan.{Plan, plan_of}
use Rattle.replay.specs.Turns.{Wants as TurnWants}
use Rattle.replay.specs.Replayed.{SessionEnds, PlayedTo as SessionPlayedTo}
use Rattle.replay.specs.declared.policy.Request.{Request}
use Rattle.replay.specs.declared.policy.Given.{Given}
use Rattle.replay.specs.declared.policy.Want.{Want}
use Rattle.vcl_library.specs.Meaning.{vcl}
use Rattle.varn_program.specs.Words.{AsksReplay}
use Rattle.varn_program.specs.declared.outcome.Status.{Status}
use Rattle.varn_program.specs.declared.outcome.Status.TheVariants.{Done, Words, Session, ReadFault, WriteFault, NoMemory, HistoryFull}
use Rattle.varn_program.specs.declared.outcome.Note.{Note}
use Rattle.varn_program.specs.declared.outcome.Outcome.{Outcome}

-- the VCL that a session begins under, which declares one backend
abbrev pub opening_text : List ℕ
opening_text = codes "vcl 4.1; backend default { .host = \"127.0.0.1\"; .port = \"8080\"; }"

abbrev pub opening_boot : Boot
opening_boot = record { text = opening_text; backends = codes "default" ∷ [] }

abbrev pub note_of : ℕ → ℕ → Option Note
note_of line kind = Some (record { line = line; kind = kind })

-- the outcome of a run in which nothing was played
abbrev pub stopped : Status → Option Note → Outcome
stopped status note = record { status = status; note = note; history = []; swept = [] }

-- the outcome of a session that was played
abbrev pub outcome_of : List Entry → List ℕ → Option ReplayError → Outcome
outcome_of history swept None = record { status = Done; note = None; history = history; swept = swept }
outcome_of history swept (Some (refusals.Idle line)) = record { status = Session; note = note_of line 7; history = history; swept = swept }
outcome_of history swept (Some (refusals.Unanswered line)) = record { status = Session; note = note_of line 8; history = history; swept = swept }
outcome_of history swept (Some refusals.WriteFault) = record { status = WriteFault; note = None; history = history; swept = swept }
outcome_of history swept (Some refusals.HistoryFull) = record { status = HistoryFull; note = None; history = history; swept = swept }
outcome_of history swept (Some refusals.NoMemory) = record { status = NoMemory; note = None; history = history; swept = swept }

-- what a client of a session wants, led by VCL
abbrev pub Wants : Request → List Given → Want → Type 0
Wants = TurnWants vcl

-- what a session goes by that begins under this VCL
abbrev pub plan : Params → Boot → Plan
plan params boot = plan_of Wants (beginning_of params boot)

-- the text of a session: all that the source had left, or its first 67,108,865 bytes where it had more
abbrev pub IsText : Option (List ℕ) → Option (List ℕ) → List ℕ → Type 0
IsText before after text = ReadsUpTo 67108864 before after text

-- nothing was played, and nothing written
pub record Nothing (held0 held1 : Option (List ℕ)) (history : List Entry) : Type 0 where
  pub history_is : history ≡ []
  pub held_is : held1 ≡ held0

-- the source's text is a session, and playing it ended so
abbrev pub PlayedTo : List Stored → Params → Option (List ℕ) → Option (List ℕ) → Option (List ℕ) → Option (List ℕ) → List Entry → Option ReplayError → Type 0
PlayedTo stored params left0 left1 held0 held1 history refusal =
    (text : List ℕ) × (session : TheSession) × IsText left0 left1 text × IsSession text session
    × SessionEnds stored (plan params opening_boot) session history held0 held1 refusal

-- the source's text is no session
abbrev pub IsRefused : Option (List ℕ) → Option (List ℕ) → Option Note → Type 0
IsRefused left0 left1 note =
    (text : List ℕ) × (line : ℕ) × (kind : FaultKind) × IsText left0 left1 text × IsFault text line kind × (note ≡ note_of line (kind_number kind))

-- a line of the session is idle, or is its end with somebody unanswered
abbrev pub IsStopped : List Stored → Params → Option (List ℕ) → Option (List ℕ) → Option (List ℕ) → Option (List ℕ) → List Entry → Option Note → Type 0
IsStopped stored params left0 left1 held0 held1 history note =
    ((line : ℕ) × (note ≡ note_of line 7) × PlayedTo stored params left0 left1 held0 held1 history (Some (refusals.Idle line)))
    ⊎ ((line : ℕ) × (note ≡ note_of line 8) × PlayedTo stored params left0 left1 held0 held1 history (Some (refusals.Unanswered line)))

-- how a replay ends, by its status
abbrev pub EndsAs : List Stored → Params → Option (List ℕ) → Option (List ℕ) → Option (List ℕ) → Option (List ℕ) → List Entry → Option Note → Status → Type 0
-- the whole transcript over the history
EndsAs stored params left0 left1 held0 held1 history told Done = (told ≡ None) × PlayedTo stored params left0 left1 held0 held1 history None
EndsAs stored params left0 left1 held0 held1 history told Words = ⊥
-- refused before anything was written, or stopped at the noted line
EndsAs stored params left0 left1 held0 held1 history told Session =
    (Nothing held0 held1 history × IsRefused left0 left1 told) ⊎ IsStopped stored params left0 left1 held0 held1 history told
EndsAs stored params left0 left1 held0 held1 history told ReadFault = (told ≡ None) × Nothing held0 held1 history
EndsAs stored params left0 left1 held0 held1 history told WriteFault = (told ≡ None) × PlayedTo stored params left0 left1 held0 held1 history (Some refusals.WriteFault)
EndsAs stored params left0 left1 held0 held1 history told HistoryFull = (told ≡ None) × PlayedTo stored params left0 left1 held0 held1 history (Some refusals.HistoryFull)
EndsAs stored params left0 left1 held0 held1 history told NoMemory =
    (told ≡ None) × (Nothing held0 held1 history ⊎ PlayedTo stored params left0 left1 held0 held1 history (Some refusals.NoMemory))

abbrev pub EndsReplay : List Stored → Params → Option (List ℕ) → Option (List ℕ) → Option (List ℕ) → Option (List ℕ) → Outcome → Type 0
EndsReplay stored params left0 left1 held0 held1 outcome = EndsAs stored params left0 left1 held0 held1 outcome.history outcome.note outcome.status

-- The session was played, and this came of it.
pub record HasEnded (stored : List Stored) (params : Params) (session : TheSession) (held0 held1 : Option (List ℕ)) (outcome : Outcome) : Type 0 where
  pub ending : Option ReplayError
  pub ends : SessionEnds stored (plan params opening_boot) session outcome.history held0 held1 ending
  pub outcome_is : outcome ≡ outcome_of outcome.history outcome.swept ending

-- The text isn't played: it is no session, or memory was wanting.
abbrev pub IsUnplayed : List ℕ → Outcome → Type 0
IsUnplayed text outcome =
    ((line : ℕ) × (kind : FaultKind) × IsFault text line kind × (outcome ≡ stopped Session (note_of line (kind_number kind))))
    ⊎ (outcome ≡ stopped NoMemory None)

-- The source has the bytes of this session left.
pub record HasSession (left : Option (List ℕ)) (session : TheSession) : Type 0 where
  pub bytes : List ℕ
  pub left_is : left ≡ Some bytes
  pub short : length bytes ≤ 67108864
  pub reads : IsSession bytes session

-- Where the source has a session, nothing stops it over the history that is handed out, and no call of the outside failed,
-- the run is whole: its status is Done, and the sink holds the transcript behind what it held. Or memory was wanting.
abbrev pub IsComplete : List Stored → Params → Option (List ℕ) → Option (List ℕ) → Option (List ℕ) → Type 0 → Outcome → Type 0
IsComplete stored params left held0 held1 failed outcome =
    (session : TheSession) → HasSession left session → NothingStops stored (plan params opening_boot) session outcome.history → (failed → ⊥)
    → ((outcome.status ≡ Done) × SessionPlayedTo stored (plan params opening_boot) session outcome.history held0 held1 None) ⊎ (outcome.status ≡ NoMemory)

-- How a run ends: status Words exactly for words that ask for no replay, with nothing read or written; else as the replay
-- that they ask for.
abbrev pub Ends : List Stored → List (List ℕ) → Option (List ℕ) → Option (List ℕ) → Option (List ℕ) → Option (List ℕ) → Outcome → Type 0
Ends stored words left0 left1 held0 held1 outcome =
    (((params : Params) → AsksReplay words params → ⊥) × (outcome ≡ stopped Words None) × (left1 ≡ left0) × (held1 ≡ held0))
    ⊎ ((params : Params) × AsksReplay words params × EndsReplay stored params left0 left1 held0 held1 outcome)

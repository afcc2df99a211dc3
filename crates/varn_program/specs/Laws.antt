-- What is one of a replay: its status and its note, its history and its text.
use Rattle.std.specs.Prelude.{◌≡◌, ◌⊎◌, Option, List, ℕ}
use Rattle.std.specs.List.{AllByRecursion}
use Rattle.std.specs.Io.KnownBytes.{Appends}
use Rattle.session_text.specs.declared.session.Session.{Session as TheSession}
use Rattle.vmod_host.specs.declared.signature.Stored.{Stored}
use Rattle.cache_law.specs.declared.setting.Params.{Params}
use Rattle.replay.specs.Laws.{AllBound, IsPlain}
use Rattle.varn_program.specs.Run.{EndsReplay, HasSession}
use Rattle.varn_program.specs.declared.outcome.Outcome.{Outcome}
use Rattle.varn_program.specs.declared.outcome.Status.{Status}
use Rattle.varn_program.specs.declared.outcome.Status.TheVariants.{Done, Words, Session, ReadFault, WriteFault, NoMemory, HistoryFull}

-- a status that comes of the session alone: of no fault of the outside, and of no want of memory
abbrev pub IsOwnStatus : Status → Type 0
IsOwnStatus Done = Unit {0}
IsOwnStatus Session = Unit {0}
IsOwnStatus HistoryFull = Unit {0}
IsOwnStatus Words = ⊥
IsOwnStatus ReadFault = ⊥
IsOwnStatus WriteFault = ⊥
IsOwnStatus NoMemory = ⊥

-- Two replays of one session within the same limits, each with a status of its own, have the same status and note, the same history, and wrote the same
-- text: over one history, and over all in which the law of the cache leaves each entry one answer. What a round does is said by the trees
-- of the texts of VCL alone; the texts that the console is given are plain.
abbrev pub OneReplay : List Stored → Params → Type 0
OneReplay stored params =
    (session : TheSession) (left left1 left2 held0 held1 held2 held3 : Option (List ℕ)) (one other : Outcome)
    → HasSession left session → AllByRecursion IsPlain session.lines
    → EndsReplay stored params left left1 held0 held1 one → EndsReplay stored params left left2 held2 held3 other
    → IsOwnStatus one.status → IsOwnStatus other.status
    → (other.history ≡ one.history) ⊎ (AllBound one.history × AllBound other.history)
    → (other.status ≡ one.status) × (other.note ≡ one.note) × (other.history ≡ one.history)
    × (text : List ℕ) × Appends held0 held1 text × Appends held2 held3 text

-- What is one of a session: its text and its scene over given entries, its history where no insertion was refused,
-- and its ending.
use Rattle.std.specs.Prelude.{◌≡◌, ◌≢◌, ◌⊎◌, ◌++◌, ◌∷◌, ℕ, Bool, true, false, Option, Some, None, List}
use Rattle.std.specs.List.{AllByRecursion}
use Rattle.std.specs.Io.KnownBytes.{Appends}
use Rattle.cache_law.specs.declared.call.Call.{Call}
use Rattle.cache_law.specs.declared.call.Call.TheVariants.{BanList}
use Rattle.cache_law.specs.declared.call.Entry.{Entry}
use Rattle.cache_law.specs.declared.call.Reply.TheVariants.{Refused}
use Rattle.cache_law.specs.History.{Legal}
use Rattle.replay.specs.declared.event.Event.{Event}
use Rattle.replay.specs.declared.event.Script.{Script}
use Rattle.replay.specs.declared.session.ReplayError.{ReplayError}
use Rattle.replay.specs.declared.session.ReplayError.TheVariants.{Idle, Unanswered, WriteFault, HistoryFull, NoMemory}
use Rattle.replay.specs.Plan.{Plan}
use Rattle.replay.specs.Scene.{Scene, AtRest, Run, opening_scene}
use Rattle.session_text.specs.declared.session.Session.{Session}
use Rattle.vmod_host.specs.declared.signature.Stored.{Stored}
use Rattle.session_text.specs.declared.session.Line.TheVariants as lines
use Rattle.session_text.specs.declared.session.NumberedLine.{NumberedLine}
use Rattle.vcl_refusals.specs.Outcomes.{IsPlainText}
use Rattle.cli_console.specs.Orders.{IsOrderOf}
use Rattle.cli_console.specs.declared.orders.Order.TheVariants as order
use Rattle.replay.specs.declared.console.Instruction.{Instruction}
use Rattle.replay.specs.Console.{LeadsTo}
use Rattle.replay.specs.Replayed.{EndsSo, PlayedTo, SessionEnds}

-- the call asks for the list of bans, of which the law allows several
abbrev pub asks_bans : Call → Bool
asks_bans BanList = true
asks_bans call = false

-- the law leaves the entry one answer: it is no insertion that was refused for want of memory, and no list of bans
abbrev pub IsBound : Entry → Type 0
IsBound entry = (entry.reply ≢ Refused) × (asks_bans entry.call ≡ false)

abbrev pub AllBound : List Entry → Type 0
AllBound entries = AllByRecursion IsBound entries

-- Over given entries a session has one scene and one text: two runs that read the same events, enter the same entries
-- and come to rest are one.
abbrev pub OneText : Plan → Type 0
OneText plan =
    (events : List Event) (entries : List Entry) (scene other : Scene) (text said : List ℕ)
    → Run plan (opening_scene plan) scene events entries text → Run plan (opening_scene plan) other events entries said
    → AtRest scene → AtRest other → (other ≡ scene) × (said ≡ text)

-- A session has one history in which the law leaves each entry one answer, and so one scene and one text with it.
abbrev pub OneHistory : Plan → Type 0
OneHistory plan =
    (events : List Event) (entries others : List Entry) (scene other : Scene) (text said : List ℕ)
    → Run plan (opening_scene plan) scene events entries text → Run plan (opening_scene plan) other events others said
    → AtRest scene → AtRest other
    → Legal plan.beginning entries → Legal plan.beginning others → AllBound entries → AllBound others
    → (others ≡ entries) × (other ≡ scene) × (said ≡ text)

-- an ending that the session itself has: neither the sink's fault nor want of memory
abbrev pub IsOwnEnding : Option ReplayError → Type 0
IsOwnEnding None = Unit {0}
IsOwnEnding (Some (Idle line)) = Unit {0}
IsOwnEnding (Some (Unanswered line)) = Unit {0}
IsOwnEnding (Some HistoryFull) = Unit {0}
IsOwnEnding (Some WriteFault) = ⊥
IsOwnEnding (Some NoMemory) = ⊥

-- A session has one ending over a history, and over all histories in which the law leaves each entry one answer: whole, Idle at one line,
-- Unanswered, or a call that doesn't fit at one place. History and text are one with it.
abbrev pub OneEnding : Plan → Type 0
OneEnding plan =
    (script : Script) (history other : List Entry) (before now before2 now2 : Option (List ℕ)) (ending ending2 : Option ReplayError)
    → EndsSo plan script history before now ending → EndsSo plan script other before2 now2 ending2
    → IsOwnEnding ending → IsOwnEnding ending2
    → (other ≡ history) ⊎ (AllBound history × AllBound other)
    → (ending2 ≡ ending) × (other ≡ history) × (text : List ℕ) × Appends before now text × Appends before2 now2 text

-- Over this history nothing stops the session before its end: no line is idle, `end` isn't unanswered, and no call that is
-- wanted lacks room.
abbrev pub NothingStops : List Stored → Plan → Session → List Entry → Type 0
NothingStops stored plan session history =
    (before now : Option (List ℕ)) (ending : ReplayError) → IsOwnEnding (Some ending) → PlayedTo stored plan session history before now (Some ending) → ⊥

-- a line of the console leads to one thing
abbrev pub LeadsToOne : List Stored → List ℕ → Type 0
LeadsToOne stored line = (one other : Instruction) → LeadsTo stored line one → LeadsTo stored line other → other ≡ one

-- The text of a VCL that the line brings, if it brings one, is plain: none of its patterns nests too deep.
abbrev pub BringsPlainText : List ℕ → Type 0
BringsPlainText line = (name text : List ℕ) → IsOrderOf line (order.Inline name text) → IsPlainText text

-- the line of a session brings no other text than such a one
abbrev pub IsPlain : NumberedLine → Type 0
IsPlain line = (text : List ℕ) → line.line ≡ lines.Cli text → BringsPlainText text

-- A session whose texts of VCLs are plain has one ending over a history, and over all histories in which the law leaves each
-- entry one answer; and history and text are one with it.
abbrev pub OneSession : Plan → Type 0
OneSession plan =
    (stored : List Stored) (session : Session) (history other : List Entry) (before now before2 now2 : Option (List ℕ)) (ending ending2 : Option ReplayError)
    → AllByRecursion IsPlain session.lines
    → SessionEnds stored plan session history before now ending → SessionEnds stored plan session other before2 now2 ending2
    → IsOwnEnding ending → IsOwnEnding ending2
    → (other ≡ history) ⊎ (AllBound history × AllBound other)
    → (ending2 ≡ ending) × (other ≡ history) × (text : List ℕ) × Appends before now text × Appends before2 now2 text

-- Where a session is idle at a line, that is the number of one of its lines that is none of the console's.
abbrev pub ConsoleIsHeard : Plan → Type 0
ConsoleIsHeard plan =
    (stored : List Stored) (session : Session) (history : List Entry) (before now : Option (List ℕ)) (line : ℕ)
    → SessionEnds stored plan session history before now (Some (Idle line))
    → (front : List NumberedLine) × (one : NumberedLine) × (back : List NumberedLine)
    × (session.lines ≡ front ++ one ∷ back) × (one.number ≡ line) × ((text : List ℕ) → one.line ≡ lines.Cli text → ⊥)

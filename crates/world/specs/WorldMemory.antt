-- Worlds in memory, as clauses see them.
use Rattle.std.specs.Prelude.{ℕ, ◌++◌, ◌||◌, Bool, false, List, [], ◌∷◌, drop, Option, Some, None}
use Rattle.wire.specs.Calls.{Counted, called, failed, joined, joined_count, uncalled}
use Rattle.wire.specs.DialerMemory.{DialerState}
use Rattle.wire.specs.LinkMemory.{LinkState}
use Rattle.wire.specs.Tapes.{Tape, ClockState}
use Rattle.wire.specs.declared.failing_dialer.Plan.{Plan}
use Rattle.world.specs.Files.{ShelfState}
use Rattle.world.specs.ListenerMemory.{ListenerState}
use Rattle.world.specs.declared.failing_world.Listening.{Listening}
use Rattle.world.specs.declared.file.File.{File}
use Rattle.world.specs.declared.kit.Kit.{Kit}

-- a kit that is to be given: its dialer's connections and the numbers of the dials that fail, its clock's readings and words
pub record PlannedState : Type 0 where
  pub dials : List Plan
  pub failing : List ℕ
  pub readings : List ℕ
  pub words : List ℕ

-- a world: the listeners that it is to give, its calls of listen, its files, the numbers of the calls of a shelf that fail and how
-- many did at those that were handed back, the kits that it is to give, the
-- ports that were asked for, the links that were handed back and their number, the number of those that the listeners gave that were,
-- the kits that were, and whether such a listener said its end
pub record WorldState : Type 0 where
  pub listening : List Listening
  pub listens : Counted
  pub files : List File
  pub failing_reads : List ℕ
  pub read_faults : ℕ
  pub planned : List PlannedState
  pub ports : List ℕ
  pub links : List LinkState
  pub kept : ℕ
  pub given : ℕ
  pub kits : List (Kit DialerState ClockState)
  pub ended : Bool

-- the first planned listener, as it is made
abbrev pub first_listener : List Listening → Option ListenerState
first_listener [] = None
first_listener (first ∷ rest) =
    let listener : ListenerState = record { coming = first.coming.items; accepts = uncalled first.failing.items; ended = false; given = 0; quiet = first.quiet } in
    Some listener

-- the world once it gave the first planned listener
abbrev pub listened : WorldState → ℕ → WorldState
listened w port = record w { listening = drop 1 w.listening; listens = called w.listens; ports = w.ports ++ port ∷ [] }

-- the world once a listen failed, and where memory for its port was wanting
abbrev pub refused : WorldState → ℕ → WorldState
refused w port = record w { listens = failed w.listens; ports = w.ports ++ port ∷ [] }

abbrev pub forgotten : WorldState → WorldState
forgotten w = record w { listens = failed w.listens }

abbrev pub new_tape : List ℕ → Tape
new_tape values = record { told = []; left = values }

-- a planned kit, as it is given
abbrev pub kit_of : PlannedState → Kit DialerState ClockState
kit_of plan =
    let dialer : DialerState = record { planned = plan.dials; failing = plan.failing; dials = 0; talks = []; dial_faults = 0; read_faults = 0; write_faults = 0 } in
    let clock : ClockState = record { readings = new_tape plan.readings; words = new_tape plan.words } in
    record { dialer = dialer; clock = clock }

abbrev pub first_kit : List PlannedState → Option (Kit DialerState ClockState)
first_kit [] = None
first_kit (first ∷ rest) = Some (kit_of first)

-- the world once a listener was handed back
abbrev pub retired : WorldState → ListenerState → WorldState
retired w listener = record w { listens = joined w.listens listener.accepts.faults; given = joined_count w.given listener.given; ended = listener.ended || w.ended }

-- the world once a shelf was handed back
abbrev pub reshelved : WorldState → ShelfState → WorldState
reshelved w shelf = record w { read_faults = joined_count w.read_faults shelf.reads.faults }

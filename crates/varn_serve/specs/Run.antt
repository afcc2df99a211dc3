-- What a server's run comes to.
use Rattle.std.specs.Prelude.{◌≡◌, ◌⊎◌, ◌||◌, ℕ, Bool, true, false, List, [], Option, Some, None}
use Rattle.std.specs.Io.KnownBytes.{Appends}
use Rattle.cache_law.specs.declared.call.Entry.{Entry}
use Rattle.cache_law.specs.declared.setting.Boot.{Boot}
use Rattle.cache_law.specs.declared.setting.Params.{Params}
use Rattle.cache_law.specs.Beginning.{Beginning, beginning_of}
use Rattle.vcl_tree.specs.declared.error.VclError.TheVariants as error
use Rattle.vcl_store.specs.Refusals.{IsRefusalOf}
use Rattle.vmod_host.specs.declared.signature.Stored.{Stored}
use Rattle.world.specs.declared.file.File.{File}
use Rattle.world.specs.Files.{IsShelved}
use Rattle.boot_file.specs.declared.error.BootError.{BootError}
use Rattle.boot_file.specs.declared.error.BootError.TheVariants as without
use Rattle.boot_file.specs.Booting.{Boots}
use Rattle.console_job.specs.declared.opening.OpenError.{OpenError}
use Rattle.console_job.specs.declared.opening.OpenError.TheVariants as lacking
use Rattle.world.specs.Keeping.{MayAdd}
use Rattle.command_line.specs.declared.order.ServeOptions.{ServeOptions}
use Rattle.server.specs.declared.keeping.Event.{Event}
use Rattle.server.specs.declared.tally.Tally.{Tally}
use Rattle.server.specs.Keeping.{places_of, tally_of}
use Rattle.crew.specs.Parts.{all_came, all_events}
use Rattle.crew.specs.Running.{Ran}
use Rattle.console_link.specs.declared.talk.ConsoleTalk.{ConsoleTalk}
use Rattle.console_job.specs.Operating.{places_of_talks}
use Rattle.wire.specs.Telling.{LinkTold}
use Rattle.vcl_runs.specs.Languages.{Language}
use Rattle.vcl_library.specs.Meaning.{vcl}
use Rattle.steering.specs.Telling.{Tells}
use Rattle.wire.specs.Calls.{joined_count}
use Rattle.wire.specs.Tapes.{Tape}
use Rattle.wire.specs.declared.peer.Talk.{Talk}
use Rattle.world.specs.declared.kit.Kit.{Kit}
use Rattle.varn_serve.specs.declared.ending.Served.{Served}
use Rattle.varn_serve.specs.declared.ending.Status.{Status}
use Rattle.varn_serve.specs.declared.ending.Status.TheVariants.{Done, ReadFault, WriteFault, NoMemory, ListenFault, Vcl, HistoryFull}
use Rattle.varn_serve.specs.declared.ending.VclNote.{VclNote}
use Rattle.varn_serve.specs.Endings.{has_full, rounds_line}

abbrev pub limits_of : ServeOptions → Params
limits_of order = record { room = order.room; history = order.history; segments = false }

-- ---- the history

-- how a run may end in which nothing was served
abbrev pub is_unserved : Status → Bool
is_unserved ReadFault = true
is_unserved NoMemory = true
is_unserved ListenFault = true
is_unserved Vcl = true
is_unserved other = false

-- nothing was served, for this
abbrev pub unserved : {N : Type 0} → Status → Option VclNote → Served N
unserved status note = record { status = status; note = note; history = []; keepers = []; connections = 0; tally = record { rounds = 0; found_full = false }; console = [] }

-- Nothing was served: nothing was handed back, of the console's outside neither, and nothing was kept or counted.
pub record IsIdle {N K O : Type 0} (before after : Option (List K)) (operators operators' : O) (served : Served N) : Type 0 where
  pub kits : after ≡ before
  pub untouched : operators' ≡ operators
  pub no_entry : served.history ≡ []
  pub no_keeper : served.keepers ≡ []
  pub no_connection : served.connections ≡ 0
  pub no_talk : served.console ≡ []
  pub no_round : served.tally ≡ record { rounds = 0; found_full = false }
  pub unserved : is_unserved served.status ≡ true

-- Workers ran over one cache, from the limits of the order and the VCL of its file, and a console beside them where the order names a
-- port for it. `Ran` says what the workers' run comes to, of which these places are the console's, and `MayOperate` what the console's.
pub record Runs {N O : Type 0} (Ran : Beginning → List Entry → List N → ℕ → Tally → List ℕ → Type 0) (MayOperate : Beginning → List Entry → Option ℕ → O → O → List ConsoleTalk → Type 0)
    (operators operators' : O) (files : Option (List File)) (stored : List Stored) (order : ServeOptions) (served : Served N) : Type 0 where
  pub boot : Boot
  pub boots : Boots files order.file stored boot
  pub ran : Ran (beginning_of (limits_of order) boot) served.history served.keepers served.connections served.tally (places_of_talks served.console)
  pub operated : MayOperate (beginning_of (limits_of order) boot) served.history order.cli operators operators' served.console

-- Nothing was served, or workers ran.
abbrev pub CameTo : {N K O : Type 0} → (Beginning → List Entry → List N → ℕ → Tally → List ℕ → Type 0) → Option (List K) → Option (List K)
    → (Beginning → List Entry → Option ℕ → O → O → List ConsoleTalk → Type 0) → O → O → Option (List File) → List Stored → ServeOptions → Served N → Type 0
CameTo Ran before after MayOperate operators operators' files stored order served =
    IsIdle before after operators operators' served ⊎ Runs Ran MayOperate operators operators' files stored order served

-- What a run of workers comes to whose rounds this language steers: one legal history, of which each round is a response. The tally
-- counts the events of all connections. Each place of the history is that of a call of a round, or one of those beside the workers.
abbrev pub RanIn : {P L N D K E : Type 0} → Language P → (Kit D K → Type 0) → (L → LinkTold) → (D → Option (List (Talk L))) → (D → ℕ) → (K → Option Tape) → (K → Option Tape)
    → (E → LinkTold) → (N → List (Event E) → Type 0) → Option (List (Kit D K)) → Option (List (Kit D K)) → Beginning → List Entry → List N → ℕ → Tally → List ℕ → Type 0
RanIn language unused heard talks dial_faults readings words tell Told before after beginning history keepers connections tally beside =
    (ran : Ran unused Told (λ events. places_of events)
    (λ began seen number first last opening events. Tells language heard tell talks dial_faults readings words began seen number first last opening events)
    beginning history before after keepers connections beside) × (tally ≡ tally_of (all_events (all_came ran.parts)))

-- The same where VCL steers the rounds.
abbrev pub RanBy : {L N D K E : Type 0} → (Kit D K → Type 0) → (L → LinkTold) → (D → Option (List (Talk L))) → (D → ℕ) → (K → Option Tape) → (K → Option Tape) → (E → LinkTold)
    → (N → List (Event E) → Type 0) → Option (List (Kit D K)) → Option (List (Kit D K)) → Beginning → List Entry → List N → ℕ → Tally → List ℕ → Type 0
RanBy unused heard talks dial_faults readings words tell Told before after beginning history keepers connections tally beside =
    RanIn vcl unused heard talks dial_faults readings words tell Told before after beginning history keepers connections tally beside

-- The listeners gave this many connections, none of which was thrown away; where nothing was served there may be no listener.
abbrev pub GaveFor : ℕ → ℕ → ℕ → Type 0
GaveFor before after count = (after ≡ joined_count before count) ⊎ ((count ≡ 0) × (after ≡ before))

-- ---- the statuses

-- What may have come from the outside in a run: that reading a file failed, that listening or accepting did, or that the sink did;
-- whether a listener said its end; and what the sink held and holds.
pub record Outside : Type 1 where
  pub read_failed : Type 0
  pub listen_failed : Type 0
  pub write_failed : Type 0
  pub ended : Bool
  pub held : Option (List ℕ)
  pub holds : Option (List ℕ)

-- there is no such file, or its text is refused at the noted place
abbrev pub IsWithoutVcl : Option (List File) → List Stored → List ℕ → Option VclNote → Type 0
IsWithoutVcl files stored name None = IsShelved files name None
IsWithoutVcl files stored name (Some note) = (text : List ℕ) × IsShelved files name (Some text) × IsRefusalOf text stored (error.Refused note.kind note.place)

-- as many connections were served as the order says, or no more came
abbrev pub IsAll : {N : Type 0} → Outside → ServeOptions → Served N → Type 0
IsAll outside order served = (served.connections ≡ order.conns) ⊎ (outside.ended ≡ true)

-- the cause of each status; only a whole run writes
abbrev pub EndsAs : {N : Type 0} → Outside → Option (List File) → List Stored → ServeOptions → Served N → Status → Type 0
EndsAs outside files stored order served Done =
    (served.note ≡ None) × IsAll outside order served × Appends outside.held outside.holds (rounds_line served.tally.rounds)
EndsAs outside files stored order served WriteFault = (served.note ≡ None) × IsAll outside order served × outside.write_failed
EndsAs outside files stored order served ReadFault = (served.note ≡ None) × outside.read_failed × (outside.holds ≡ outside.held)
EndsAs outside files stored order served ListenFault = (served.note ≡ None) × outside.listen_failed × (outside.holds ≡ outside.held)
EndsAs outside files stored order served Vcl = IsWithoutVcl files stored order.file served.note × (outside.holds ≡ outside.held)
EndsAs outside files stored order served HistoryFull = (served.note ≡ None) × (outside.holds ≡ outside.held)
EndsAs outside files stored order served NoMemory = (served.note ≡ None) × (outside.holds ≡ outside.held)

-- there is such a file, and its text is refused at no place
abbrev pub IsAccepted : Option (List File) → List Stored → List ℕ → Type 0
IsAccepted files stored name = (note : Option VclNote) → ¬ IsWithoutVcl files stored name note

-- a connection, or a talk of the console, found the history full
abbrev pub found_full : {N : Type 0} → Served N → Bool
found_full served = served.tally.found_full || has_full served.console

-- Where nothing failed outside, the file is accepted and nobody found the history full, the run is whole, or memory was wanting.
abbrev pub IsComplete : {N : Type 0} → Outside → Option (List File) → List Stored → ServeOptions → Served N → Type 0
IsComplete outside files stored order served =
    ¬ outside.read_failed → ¬ outside.listen_failed → ¬ outside.write_failed → IsAccepted files stored order.file
    → found_full served ≡ false → (served.status ≡ Done) ⊎ (served.status ≡ NoMemory)

-- how a run ends in which nothing was served, though there is a VCL: memory was wanting, or listening failed
abbrev pub Halts : Type 0 → Status → Type 0
Halts failed NoMemory = Unit {0}
Halts failed ListenFault = failed
Halts failed other = ⊥

-- how a run ends in which there could be no console
abbrev pub without_console : OpenError → Status
without_console lacking.Failed = ListenFault
without_console lacking.NoMemory = NoMemory

-- the console's port was asked for, if there is one, or memory was wanting; no other was
abbrev pub MayAskFor : Option (List ℕ) → Option (List ℕ) → Option ℕ → Type 0
MayAskFor before after None = after ≡ before
MayAskFor before after (Some port) = MayAdd before after port

-- a run ends as this exactly where somebody found the history full
abbrev pub is_full_status : Status → Bool
is_full_status HistoryFull = true
is_full_status other = false

-- how a run ends that has no VCL to begin under, and its note
abbrev pub unbooted_status : BootError → Status
unbooted_status without.Missing = Vcl
unbooted_status without.Unreadable = ReadFault
unbooted_status (without.Refused _ _) = Vcl
unbooted_status without.NoMemory = NoMemory

abbrev pub unbooted_note : BootError → Option VclNote
unbooted_note (without.Refused kind place) = Some (record { place = place; kind = kind })
unbooted_note other = None

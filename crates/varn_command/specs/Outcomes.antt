-- The one form in which each command's outcome is handed out.
use Rattle.std.specs.Prelude.{ℕ, false, [], None, option_map}
use Rattle.command_line.specs.declared.fault.OrderError.{OrderError}
use Rattle.command_line.specs.declared.fault.OrderError.TheVariants.{Refused, NoMemory}
use Rattle.server.specs.declared.tally.Tally.{Tally}
use Rattle.audit_laws.specs.Faults.{kind_number}
use Rattle.journal_audit.specs.declared.fault.Expected.{Expected}
use Rattle.varn_audit.specs.declared.outcome.Audited.{Audited}
use Rattle.varn_audit.specs.declared.outcome.Note.{Note as JournalNote}
use Rattle.varn_audit.specs.declared.outcome.Status.{Status as AuditedStatus}
use Rattle.varn_audit.specs.declared.outcome.Status.TheVariants as audited
use Rattle.varn_program.specs.declared.outcome.Note.{Note as LineNote}
use Rattle.varn_program.specs.declared.outcome.Outcome.{Outcome as Played}
use Rattle.varn_program.specs.declared.outcome.Status.{Status as PlayedStatus}
use Rattle.varn_program.specs.declared.outcome.Status.TheVariants as played
use Rattle.varn_serve.specs.declared.ending.Served.{Served}
use Rattle.varn_serve.specs.declared.ending.Status.{Status as ServedStatus}
use Rattle.varn_serve.specs.declared.ending.Status.TheVariants as served
use Rattle.varn_serve.specs.declared.ending.VclNote.{VclNote}
use Rattle.varn_command.specs.declared.outcome.Note.{Note}
use Rattle.varn_command.specs.declared.outcome.Note.TheVariants as note
use Rattle.varn_command.specs.declared.outcome.Outcome.{Outcome}
use Rattle.varn_command.specs.declared.outcome.Status.{Status}
use Rattle.varn_command.specs.declared.outcome.Status.TheVariants as status

-- ---- the status

abbrev pub status_of_played : PlayedStatus → Status
status_of_played played.Done = status.Done
status_of_played played.Words = status.Words
status_of_played played.Session = status.Session
status_of_played played.ReadFault = status.ReadFault
status_of_played played.WriteFault = status.WriteFault
status_of_played played.NoMemory = status.NoMemory
status_of_played played.HistoryFull = status.HistoryFull

abbrev pub status_of_served : ServedStatus → Status
status_of_served served.Done = status.Done
status_of_served served.ReadFault = status.ReadFault
status_of_served served.WriteFault = status.WriteFault
status_of_served served.NoMemory = status.NoMemory
status_of_served served.ListenFault = status.ListenFault
status_of_served served.Vcl = status.Vcl
status_of_served served.HistoryFull = status.HistoryFull

abbrev pub status_of_audited : AuditedStatus → Status
status_of_audited audited.Legal = status.Done
status_of_audited audited.Illegal = status.Illegal
status_of_audited audited.ReadFault = status.ReadFault
status_of_audited audited.WriteFault = status.WriteFault
status_of_audited audited.NoMemory = status.NoMemory

-- the number that the program ends with
abbrev pub code_of : Status → ℕ
code_of status.Done = 0
code_of status.Words = 2
code_of status.Session = 3
code_of status.ReadFault = 4
code_of status.WriteFault = 5
code_of status.NoMemory = 6
code_of status.ListenFault = 7
code_of status.Vcl = 8
code_of status.HistoryFull = 9
code_of status.Illegal = 10

-- ---- what is to blame

abbrev pub line_note : LineNote → Note
line_note told = note.Line told.line told.kind

abbrev pub place_note : VclNote → Note
place_note told = note.Place told.place told.kind

abbrev pub journal_note : JournalNote → Note
journal_note told = note.Line told.line (kind_number told.kind)

-- what was expected there
abbrev pub expected_in : JournalNote → Expected
expected_in told = told.expected

-- ---- what is handed out

-- what nothing counts
abbrev pub none_counted : Tally
none_counted = record { rounds = 0; found_full = false }

-- of a session that was played, or wasn't
abbrev pub of_played : Played → Outcome
of_played one = record {
  status = status_of_played one.status;
  note = option_map line_note one.note;
  expected = None;
  history = one.history;
  connections = 0;
  tally = none_counted;
  console = [];
  swept = one.swept;
  probed = [];
}

-- of a server's run
abbrev pub of_served : Served Tally → Outcome
of_served one = record {
  status = status_of_served one.status;
  note = option_map place_note one.note;
  expected = None;
  history = one.history;
  connections = one.connections;
  tally = one.tally;
  console = one.console;
  swept = [];
  probed = [];
}

-- of an audit
abbrev pub of_audited : Audited → Outcome
of_audited one = record {
  status = status_of_audited one.status;
  note = option_map journal_note one.note;
  expected = option_map expected_in one.note;
  history = [];
  connections = 0;
  tally = none_counted;
  console = [];
  swept = [];
  probed = [];
}

-- of words that give no order
abbrev pub unasked_status : OrderError → Status
unasked_status (Refused fault) = status.Words
unasked_status NoMemory = status.NoMemory

abbrev pub of_unasked : OrderError → Outcome
of_unasked error = record { status = unasked_status error; note = None; expected = None; history = []; connections = 0; tally = none_counted; console = []; swept = []; probed = [] }

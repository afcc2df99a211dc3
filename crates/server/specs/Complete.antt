-- When each request of a connection was answered (RFC 9112, section 9.3).
use Rattle.std.specs.Prelude.{◌≡◌, ◌≢◌, ◌≤◌, ℕ, List, Option, Some, None}
use Rattle.wire.specs.Causes.{Rose}
use Rattle.wire.specs.Flow.{Flow}
use Rattle.wire.specs.Telling.{LinkTold}
use Rattle.connection.specs.Complete.{AnswersAll}
use Rattle.connection.specs.Serving.{Round as Turn}
use Rattle.connection.specs.declared.ended.Ended.{Ended}
use Rattle.connection.specs.declared.ended.Ended.TheVariants.{HistoryFull, NoMemory}
use Rattle.connection.specs.declared.ended.Ended.TheVariants as ending

-- neither a read nor a write of the link failed, the link took what it was given, and neither the history nor want of memory
-- ended the connection
pub record IsUnhindered (reads reads' writes writes' : ℕ) (ended : Ended) : Type 0 where
  pub no_failed_read : ¬ Rose reads reads'
  pub no_failed_write : ¬ Rose writes writes'
  pub fits : ended ≢ HistoryFull
  pub memory : ended ≢ NoMemory

-- each request in all that the link had left has its turn, up to the first whose response closes the connection
abbrev pub AllAnswered : Option Flow → List Turn → Type 0
AllAnswered None turns = Unit {0}
AllAnswered (Some flow) turns = AnswersAll flow.left turns

-- A fault of the link comes only where its count rose.
pub record Faults (opening closing : LinkTold) (ended : Ended) : Type 0 where
  pub reads : ended ≡ ending.ReadFault → Rose opening.read_faults closing.read_faults
  pub writes : ended ≡ ending.WriteFault → Rose opening.write_faults closing.write_faults
  pub later_reads : opening.read_faults ≤ closing.read_faults
  pub later_writes : opening.write_faults ≤ closing.write_faults

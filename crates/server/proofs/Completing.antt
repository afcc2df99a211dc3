-- A connection that nothing hindered is complete.
use Rattle.std.proofs.Common.{◌≡◌, ◌⊎◌, inl, inr, refl, ℕ, List, [], ◌++◌, Option, Some, None}
use Rattle.wire.specs.Causes.{Rose}
use Rattle.wire.specs.Flow.{Flow, Moves}
use Rattle.connection.specs.Requests.{BeginsRequests}
use Rattle.connection.specs.Serving.{Round as Turn, requests_of, sent_of, AllKept, EndsBehind, Stops}
use Rattle.connection.specs.declared.ended.Ended.{Ended}
use Rattle.connection.specs.declared.ended.Ended.TheVariants as ending
use Rattle.connection.proofs.AnswerFacts.{answers_all}
use Rattle.server.specs.Transcripts.{Heard}
use Rattle.server.specs.Complete.{IsUnhindered, AllAnswered}

-- it ended in order
orderly : (reads reads' writes writes' : ℕ) (ended : Ended) → IsUnhindered reads reads' writes writes' ended → (ended ≡ ending.ReadFault → Rose reads reads')
    → (ended ≡ ending.WriteFault → Rose writes writes') → (ended ≡ ending.Closed) ⊎ (ended ≡ ending.BadRequest)
orderly reads reads' writes writes' ending.Closed free read wrote = inl refl
orderly reads reads' writes writes' ending.BadRequest free read wrote = inr refl
orderly reads reads' writes writes' ending.ReadFault free read wrote = absurd (free.no_failed_read (read refl))
orderly reads reads' writes writes' ending.WriteFault free read wrote = absurd (free.no_failed_write (wrote refl))
orderly reads reads' writes writes' ending.HistoryFull free read wrote = absurd (free.fits refl)
orderly reads reads' writes writes' ending.NoMemory free read wrote = absurd (free.memory refl)

all_by : (before after : Option Flow) (read : List ℕ) (turns : List Turn) (rest extra left : List ℕ) (ended : Ended) → Moves before after read (sent_of turns ++ extra)
    → BeginsRequests read (requests_of turns) rest → EndsBehind ended turns left rest extra ⊎ (AllKept turns × Stops ended after left rest extra)
    → (ended ≡ ending.Closed) ⊎ (ended ≡ ending.BadRequest) → AllAnswered before turns
all_by None after read turns rest extra left ended moves requests ends order = tt
all_by (Some before) None read turns rest extra left ended moves requests ends order = absurd moves
all_by (Some before) (Some after) read turns rest extra left ended moves requests ends order = answers_all before after [] read turns rest extra left ended moves requests ends order

-- each request has its answer where nothing hindered the connection
pub all_answered : (turns : List Turn) (before after : Option Flow) (ended : Ended) → Heard turns before after ended → (reads reads' writes writes' : ℕ)
    → (ended ≡ ending.ReadFault → Rose reads reads') → (ended ≡ ending.WriteFault → Rose writes writes') → IsUnhindered reads reads' writes writes' ended → AllAnswered before turns
all_answered turns before after ended heard reads reads' writes writes' read wrote free =
    all_by before after heard.read turns heard.rest heard.extra heard.left ended heard.moves heard.requests heard.ends (orderly reads reads' writes writes' ended free read wrote)

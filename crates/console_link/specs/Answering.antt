-- What is told of one line, on the way to its answer.
use Rattle.std.specs.Prelude.{◌≡◌, ◌⊎◌, ℕ, List, [], ◌∷◌, ◌++◌, Result, Ok, Err, Option, Some, None}
use Rattle.wire.specs.Flow.{Flow, Moves, MovesPart}
use Rattle.wire.specs.Tapes.{Tape, Tells}
use Rattle.world.specs.declared.file.File.{File}
use Rattle.vmod_host.specs.declared.signature.Stored.{Stored}
use Rattle.cache_law.specs.declared.call.Call.{Call}
use Rattle.cache_law.specs.declared.cache.Told.{Told}
use Rattle.cache_law.specs.declared.cache.StepError.TheVariants as step
use Rattle.turnstile.specs.Knowledge.{Grown}
use Rattle.shared_cache.specs.Sharing.{CallerKnows, Called, Declined, caller_of, numbers}
use Rattle.cli_console.specs.declared.message.Message.{Message}
use Rattle.cli_console.specs.Answers.{IsAnswer}
use Rattle.cli_console.specs.Messages.{answer_text, said}
use Rattle.console_link.specs.Lines.{BeginsLine, BeginsLines}
use Rattle.console_link.specs.Talks.{Stand, Turned, IsAnswered, Quits, IsUnanswered, IsFull, Ends, TurnTold, texts_of, too_long}
use Rattle.console_link.specs.declared.talk.ConsoleEnd.{ConsoleEnd}
use Rattle.console_link.specs.declared.talk.ConsoleEnd.TheVariants.{Quit, Closed, TooLong, ReadFault, WriteFault, HistoryFull, NoMemory}
use Rattle.console_link.specs.declared.talk.ConsoleLine.{ConsoleLine}

-- this is kept of a line whose call was entered
pub record IsKept (text : List ℕ) (told : Told) (line : ConsoleLine) : Type 0 where
  pub line_is : line.line ≡ text
  pub moment : line.moment ≡ told.moment
  pub place : line.place ≡ Some told.place

-- the reply is answered; or nothing is said, for want of memory
abbrev pub ReplyTold : Call → Told → ConsoleLine → Option ConsoleEnd → Type 0
ReplyTold call told line None = IsAnswer call told.reply line.sent
ReplyTold call told line (Some NoMemory) = line.sent ≡ []
ReplyTold call told line (Some Quit) = ⊥
ReplyTold call told line (Some Closed) = ⊥
ReplyTold call told line (Some TooLong) = ⊥
ReplyTold call told line (Some ReadFault) = ⊥
ReplyTold call told line (Some WriteFault) = ⊥
ReplyTold call told line (Some HistoryFull) = ⊥

-- the call was entered; it doesn't fit; or memory was wanting before it was entered
abbrev pub EnterTold : CallerKnows → CallerKnows → Option Tape → Option Tape → List ℕ → Call → Result (ConsoleLine × Option ConsoleEnd) ConsoleEnd → Type 0
EnterTold k k' reads reads' text call (Ok entered) =
    (told : Told) × (reading : ℕ) × Tells reads reads' reading × Called k k' reading call told × IsKept text told entered.0 × ReplyTold call told entered.0 entered.1
EnterTold k k' reads reads' text call (Err HistoryFull) = (reading : ℕ) × Tells reads reads' reading × Declined k k' reading call step.HistoryFull
EnterTold k k' reads reads' text call (Err NoMemory) =
    Grown caller_of k k'.seen × (numbers k' ≡ numbers k) × ((reads' ≡ reads) ⊎ ((reading : ℕ) × Tells reads reads' reading))
EnterTold k k' reads reads' text call (Err Quit) = ⊥
EnterTold k k' reads reads' text call (Err Closed) = ⊥
EnterTold k k' reads reads' text call (Err TooLong) = ⊥
EnterTold k k' reads reads' text call (Err ReadFault) = ⊥
EnterTold k k' reads reads' text call (Err WriteFault) = ⊥

module _ (stored : List Stored) (files : Option (List File)) where
  -- how a line is kept, and whether the talk ends behind it
  abbrev pub KeptTold : Stand → Stand → ConsoleLine → Option ConsoleEnd → Type 0
  KeptTold x y line None = IsAnswered stored files x y line
  KeptTold x y line (Some Quit) = Quits stored files x y line
  KeptTold x y line (Some NoMemory) = IsUnanswered stored files x y line
  KeptTold x y line (Some Closed) = ⊥
  KeptTold x y line (Some TooLong) = ⊥
  KeptTold x y line (Some ReadFault) = ⊥
  KeptTold x y line (Some WriteFault) = ⊥
  KeptTold x y line (Some HistoryFull) = ⊥

  -- the line is kept; its call doesn't fit; or memory was wanting before its call was entered
  abbrev pub AnswerTold : Stand → Stand → List ℕ → Result (ConsoleLine × Option ConsoleEnd) ConsoleEnd → Type 0
  AnswerTold x y text (Ok kept) = (kept.0.line ≡ text) × KeptTold x y kept.0 kept.1
  AnswerTold x y text (Err HistoryFull) = IsFull stored files x y text
  AnswerTold x y text (Err NoMemory) = Turned x y
  AnswerTold x y text (Err Quit) = ⊥
  AnswerTold x y text (Err Closed) = ⊥
  AnswerTold x y text (Err TooLong) = ⊥
  AnswerTold x y text (Err ReadFault) = ⊥
  AnswerTold x y text (Err WriteFault) = ⊥

-- the answer tells the moment, which is a reading of the clock; or memory for it was wanting
abbrev pub PingTold : Option Tape → Option Tape → List ℕ → Result (ConsoleLine × Option ConsoleEnd) ConsoleEnd → Type 0
PingTold reads reads' text (Ok kept) =
    (kept.0.line ≡ text) × (kept.0.place ≡ None) × (kept.0.sent ≡ answer_text (said (Message.Pong kept.0.moment))) × (kept.1 ≡ None)
    × Tells reads reads' kept.0.moment
PingTold reads reads' text (Err NoMemory) = (reading : ℕ) × Tells reads reads' reading
PingTold reads reads' text (Err Quit) = ⊥
PingTold reads reads' text (Err Closed) = ⊥
PingTold reads reads' text (Err TooLong) = ⊥
PingTold reads reads' text (Err ReadFault) = ⊥
PingTold reads reads' text (Err WriteFault) = ⊥
PingTold reads reads' text (Err HistoryFull) = ⊥

-- the answer was written, and the talk goes on or ends as it was to; or a front of it was, and a write failed
abbrev pub SentTold : Option Flow → Option Flow → List ℕ → Option ConsoleEnd → Option ConsoleEnd → Type 0
SentTold before after sent ended result =
    ((result ≡ ended) × Moves before after [] sent) ⊎ ((result ≡ Some WriteFault) × MovesPart before after sent)

-- a line over its limit is answered, as far as the link took that; else nothing is
abbrev pub RefusedTold : ConsoleEnd → Option Flow → Option Flow → ConsoleEnd → Type 0
RefusedTold TooLong before after result =
    ((result ≡ TooLong) × Moves before after [] too_long) ⊎ ((result ≡ WriteFault) × MovesPart before after too_long)
RefusedTold ended before after result = (result ≡ ended) × Moves before after [] []

module _ (stored : List Stored) (files : Option (List File)) where
  -- A line was answered and kept, and the talk goes on; or it ends so, wherever the line stood.
  abbrev pub LineAnswered : Stand → Stand → Option Flow → Option Flow → List ConsoleLine → List ConsoleLine → List ℕ → Option ConsoleEnd → Type 0
  LineAnswered x y before after lines lines' text None =
      (kept : ConsoleLine) × (lines' ≡ lines ++ kept ∷ []) × (kept.line ≡ text) × IsAnswered stored files x y kept × Moves before after [] kept.sent
  LineAnswered x y before after lines lines' text (Some ended) =
      (tail : List ConsoleLine) × (extra : List ℕ) × (lines' ≡ lines ++ tail) × Moves before after [] extra
      × ((input next : List ℕ) → BeginsLine input text next → (rest : List ℕ) × BeginsLines input (texts_of tail) rest × Ends stored files ended x y after rest next tail extra)

  -- what one turn of a talk comes to, with the lines that it kept
  abbrev pub NextTold : Stand → Stand → Option Flow → Option Flow → List ℕ → List ℕ → List ConsoleLine → List ConsoleLine → Option ConsoleEnd → Type 0
  NextTold x y before after held left lines lines' result =
      (more : List ConsoleLine) × (lines' ≡ lines ++ more) × TurnTold stored files x y before after held left more result

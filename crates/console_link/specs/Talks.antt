-- What a console came to: its lines, each answered, and how it ended.
use Rattle.std.specs.Prelude.{◌≡◌, ◌⊎◌, ℕ, ◌<◌, List, [], ◌∷◌, ◌++◌, length, take, map, Option, Some, None}
use Rattle.std.specs.List.{flat_map}
use Rattle.std.specs.Option.{option_to_list}
use Rattle.wire.specs.Flow.{Flow, IsOver, Moves}
use Rattle.wire.specs.Tapes.{Tape, Tells}
use Rattle.world.specs.declared.file.File.{File}
use Rattle.vmod_host.specs.declared.signature.Stored.{Stored}
use Rattle.cache_law.specs.declared.call.Call.{Call}
use Rattle.cache_law.specs.declared.cache.Told.{Told}
use Rattle.cache_law.specs.declared.cache.StepError.TheVariants as step
use Rattle.turnstile.specs.Handles.{known}
use Rattle.turnstile.specs.Knowledge.{saw, Grown}
use Rattle.shared_cache.specs.Sharing.{CallerKnows, Called, Declined, caller_of, numbers}
use Rattle.cli_console.specs.declared.command.Command.TheVariants as command
use Rattle.cli_console.specs.declared.message.Message.TheVariants as message
use Rattle.cli_console.specs.Answers.{IsAnswer}
use Rattle.cli_console.specs.Lines.{IsCommand}
use Rattle.cli_console.specs.Messages.{answer_text, said}
use Rattle.console_link.specs.Instructions.{MakesCall, AnswersAlone}
use Rattle.console_link.specs.Lines.{BeginsLine, BeginsLines, IsBegun, IsTooLong}
use Rattle.console_link.specs.declared.desk.Desk.{Desk}
use Rattle.console_link.specs.declared.talk.ConsoleEnd.{ConsoleEnd}
use Rattle.console_link.specs.declared.talk.ConsoleEnd.TheVariants.{Quit, Closed, TooLong, ReadFault, WriteFault, HistoryFull, NoMemory}
use Rattle.console_link.specs.declared.talk.ConsoleLine.{ConsoleLine}

-- what a console changes: what its pass knows, what its clock told, and its shelf's count of faults
pub record Stand : Type 0 where
  pub known : CallerKnows
  pub readings : Option Tape
  pub faults : ℕ

abbrev pub stand_of : {S K : Type 0} → (S → ℕ) → (K → Option Tape) → Desk S K → Stand
stand_of faults readings desk = record { known = known desk.pass; readings = readings desk.clock; faults = faults desk.shelf }

-- what is answered to a line over its limit
abbrev pub too_long : List ℕ
too_long = answer_text (said message.SyntaxError)

abbrev pub texts_of : List ConsoleLine → List (List ℕ)
texts_of lines = map (λ line. line.line) lines

-- all answers, one behind another
abbrev pub sent_of : List ConsoleLine → List ℕ
sent_of lines = flat_map (λ line. line.sent) lines

-- the places of the lines' entries
abbrev pub places_of : List ConsoleLine → List ℕ
places_of lines = flat_map (λ line. option_to_list line.place) lines

-- a front of the text that isn't all of it
abbrev pub IsPart : List ℕ → List ℕ → Type 0
IsPart text part = (n : ℕ) × (n < length text) × (part ≡ take n text)

-- the pass had a turn in which it entered nothing, at most one reading was told, and the shelf was asked for a file or not
pub record Turned (x y : Stand) : Type 0 where
  pub knows : y.known ≡ saw x.known y.known.seen
  pub grown : Grown caller_of x.known y.known.seen
  pub same : numbers y.known ≡ numbers x.known
  pub read : (y.readings ≡ x.readings) ⊎ ((reading : ℕ) × Tells x.readings y.readings reading)

-- The line made no call, and its moment is a reading of the clock.
pub record Alone (x y : Stand) (line : ConsoleLine) : Type 0 where
  pub knows : y.known ≡ x.known
  pub read : Tells x.readings y.readings line.moment
  pub place : line.place ≡ None

module _ (stored : List Stored) (files : Option (List File)) where
  -- The line's call was entered behind what the pass had seen: it is the entry at the line's place.
  pub record Enters (x y : Stand) (line : ConsoleLine) (call : Call) (told : Told) : Type 0 where
    pub makes : MakesCall stored files x.faults y.faults line.line call
    pub reading : ℕ
    pub read : Tells x.readings y.readings reading
    pub called : Called x.known y.known reading call told
    pub moment : line.moment ≡ told.moment
    pub place : line.place ≡ Some told.place

  -- the line was answered and isn't `quit`: by the reply to its call, or without one
  abbrev pub IsAnswered : Stand → Stand → ConsoleLine → Type 0
  IsAnswered x y line =
      ((call : Call) × (told : Told) × Enters x y line call told × IsAnswer call told.reply line.sent)
      ⊎ (Alone x y line × AnswersAlone stored files x.faults y.faults line.line line.moment line.sent)

  -- the line is `quit`, and was answered
  abbrev pub Quits : Stand → Stand → ConsoleLine → Type 0
  Quits x y line = Alone x y line × IsCommand stored line.line (command.Quit line.sent)

  -- the line's call was entered, and it has no answer
  abbrev pub IsUnanswered : Stand → Stand → ConsoleLine → Type 0
  IsUnanswered x y line = (call : Call) × (told : Told) × Enters x y line call told × (line.sent ≡ [])

  -- the line's call doesn't fit the history that the pass has then seen
  pub record IsFull (x y : Stand) (line : List ℕ) : Type 0 where
    pub call : Call
    pub makes : MakesCall stored files x.faults y.faults line call
    pub reading : ℕ
    pub read : Tells x.readings y.readings reading
    pub declined : Declined x.known y.known reading call step.HistoryFull

  -- the lines were answered, one behind another, and none is `quit`
  abbrev pub Follow : Stand → List ConsoleLine → Stand → Type 0
  Follow x [] y = y ≡ x
  Follow x (line ∷ lines) y = (z : Stand) × IsAnswered x z line × Follow z lines y

  -- how a console ended behind lines that were answered: the last line, if it has one, what stands behind the lines in its input, and
  -- what was written behind the answers of those before
  abbrev pub Ends : ConsoleEnd → Stand → Stand → Option Flow → List ℕ → List ℕ → List ConsoleLine → List ℕ → Type 0
  Ends Quit x y after rest left tail extra =
      (last : ConsoleLine) × (tail ≡ last ∷ []) × Quits x y last × (extra ≡ last.sent) × (left ≡ rest)
  Ends Closed x y after rest left tail extra =
      (tail ≡ []) × (y ≡ x) × (extra ≡ []) × (left ≡ rest) × IsBegun rest × IsOver after
  Ends TooLong x y after rest left tail extra = (tail ≡ []) × (y ≡ x) × (extra ≡ too_long) × (left ≡ rest) × IsTooLong rest
  Ends ReadFault x y after rest left tail extra = (tail ≡ []) × (y ≡ x) × (extra ≡ [])
  Ends WriteFault x y after rest left tail extra =
      ((tail ≡ []) × (y ≡ x) × IsPart too_long extra × IsTooLong rest)
      ⊎ ((last : ConsoleLine) × (tail ≡ last ∷ []) × (IsAnswered x y last ⊎ Quits x y last) × IsPart last.sent extra)
  Ends HistoryFull x y after rest left tail extra =
      (tail ≡ []) × (extra ≡ []) × (line : List ℕ) × (next : List ℕ) × BeginsLine rest line next × IsFull x y line
  Ends NoMemory x y after rest left tail extra =
      (extra ≡ []) × (((tail ≡ []) × Turned x y) ⊎ ((last : ConsoleLine) × (tail ≡ last ∷ []) × IsUnanswered x y last))

  -- The lines were answered so far. What the link gave, with the held bytes in front, begins with them, and the rest is held; it
  -- took the answers; the pass gained their places.
  pub record Goes (x y : Stand) (before after : Option Flow) (held left : List ℕ) (lines : List ConsoleLine) : Type 0 where
    pub answered : Follow x lines y
    pub read : List ℕ
    pub moves : Moves before after read (sent_of lines)
    pub begins : BeginsLines (held ++ read) (texts_of lines) left
    pub gained : numbers y.known ≡ numbers x.known ++ places_of lines

  -- A whole talk: the lines in the bytes of the link, in order, each with its answer up to the last, and how it ended there.
  pub record Talked (x y : Stand) (before after : Option Flow) (held left : List ℕ) (lines : List ConsoleLine) (ended : ConsoleEnd) : Type 0 where
    pub front : List ConsoleLine
    pub tail : List ConsoleLine
    pub split : lines ≡ front ++ tail
    pub middle : Stand
    pub answered : Follow x front middle
    pub read : List ℕ
    pub rest : List ℕ
    pub extra : List ℕ
    pub moves : Moves before after read (sent_of front ++ extra)
    pub begins : BeginsLines (held ++ read) (texts_of lines) rest
    pub gained : numbers y.known ≡ numbers x.known ++ places_of lines
    pub ends : Ends ended middle y after rest left tail extra

  -- what one turn of a talk comes to: it goes on, or has ended so
  abbrev pub TurnTold : Stand → Stand → Option Flow → Option Flow → List ℕ → List ℕ → List ConsoleLine → Option ConsoleEnd → Type 0
  TurnTold x y before after held left lines None = Goes x y before after held left lines
  TurnTold x y before after held left lines (Some ended) = Talked x y before after held left lines ended

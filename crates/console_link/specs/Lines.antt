-- The lines in the bytes of a console.
use Rattle.std.specs.Prelude.{◌≡◌, ℕ, ◌==◌, ◌<◌, ◌≤◌, Bool, List, [], ◌∷◌, length, Result, Ok, Err, Option, Some, None}
use Rattle.std.specs.Io.BufRead.{strip_last}
use Rattle.std.specs.List.{position_or_len, before_first, after_first}
use Rattle.message_reader.specs.declared.stop.Stop.{Stop}
use Rattle.message_reader.specs.declared.stop.Stop.TheVariants as stop
use Rattle.wire.specs.Flow.{Flow, IsOver}
use Rattle.console_link.specs.declared.talk.ConsoleEnd.{ConsoleEnd}
use Rattle.console_link.specs.declared.talk.ConsoleEnd.TheVariants.{Quit, Closed, TooLong, ReadFault, WriteFault, HistoryFull, NoMemory}

-- the most bytes of a line, without its LF
abbrev pub line_limit : ℕ
line_limit = 1048576

abbrev pub is_lf : ℕ → Bool
is_lf byte = byte == 10

-- how many bytes stand before the first LF
abbrev pub line_length : List ℕ → ℕ
line_length input = position_or_len is_lf input

-- the input begins with this line, and `rest` stands behind its LF; a CR before the LF is dropped
pub record BeginsLine (input line rest : List ℕ) : Type 0 where
  pub ended : line_length input < length input
  pub within : line_length input ≤ line_limit
  pub line_is : line ≡ strip_last 13 (before_first is_lf input)
  pub rest_is : rest ≡ after_first is_lf input

-- the input begins with these lines, one behind another, and `rest` stands behind them
abbrev pub BeginsLines : List ℕ → List (List ℕ) → List ℕ → Type 0
BeginsLines input [] rest = rest ≡ input
BeginsLines input (line ∷ lines) rest = (next : List ℕ) × BeginsLine input line next × BeginsLines next lines rest

-- what stands there is over the limit of a line, whatever follows
abbrev pub IsTooLong : List ℕ → Type 0
IsTooLong input = line_limit < line_length input

-- at most the beginning of a line stands there
abbrev pub IsBegun : List ℕ → Type 0
IsBegun input = (line_length input ≡ length input) × (length input ≤ line_limit)

-- The input begins with this line, and the rest is held; it is over a line's limit; or no whole line stands there, and no more comes.
abbrev pub LineTold : Option Flow → List ℕ → Result (List ℕ) ConsoleEnd → List ℕ → Type 0
LineTold flow rest (Ok line) input = BeginsLine input line rest
LineTold flow rest (Err TooLong) input = (rest ≡ input) × IsTooLong input
LineTold flow rest (Err Closed) input = (rest ≡ input) × IsBegun input × IsOver flow
LineTold flow rest (Err ReadFault) input = Unit {0}
LineTold flow rest (Err NoMemory) input = Unit {0}
LineTold flow rest (Err Quit) input = ⊥
LineTold flow rest (Err WriteFault) input = ⊥
LineTold flow rest (Err HistoryFull) input = ⊥

-- what is told of bytes that are held, while more may come
abbrev pub TryTold : List ℕ → Result (Option (List ℕ)) ConsoleEnd → List ℕ → Type 0
TryTold rest (Ok (Some line)) input = BeginsLine input line rest
TryTold rest (Ok None) input = (rest ≡ input) × IsBegun input
TryTold rest (Err TooLong) input = (rest ≡ input) × IsTooLong input
TryTold rest (Err NoMemory) input = Unit {0}
TryTold rest (Err Closed) input = ⊥
TryTold rest (Err ReadFault) input = ⊥
TryTold rest (Err Quit) input = ⊥
TryTold rest (Err WriteFault) input = ⊥
TryTold rest (Err HistoryFull) input = ⊥

-- how a console ends where nothing more could be read
abbrev pub ending_of : Stop → ConsoleEnd
ending_of stop.Read = ReadFault
ending_of stop.NoMemory = NoMemory
ending_of stop.Early = NoMemory
ending_of stop.BadHead = NoMemory
ending_of stop.BadBody = NoMemory
ending_of stop.TooLarge = NoMemory

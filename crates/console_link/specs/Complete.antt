-- When every line of a console was answered.
use Rattle.std.specs.Prelude.{◌≡◌, ◌≢◌, ℕ, List, [], ◌∷◌, ◌++◌, Option, Some, None}
use Rattle.wire.specs.Causes.{Rose}
use Rattle.wire.specs.Flow.{Flow}
use Rattle.world.specs.declared.file.File.{File}
use Rattle.vmod_host.specs.declared.signature.Stored.{Stored}
use Rattle.console_link.specs.Lines.{BeginsLines, IsBegun, IsTooLong}
use Rattle.console_link.specs.Talks.{Stand, Follow, Quits, texts_of, sent_of, too_long}
use Rattle.console_link.specs.declared.talk.ConsoleEnd.{ConsoleEnd}
use Rattle.console_link.specs.declared.talk.ConsoleEnd.TheVariants.{Quit, Closed, TooLong, ReadFault, WriteFault, HistoryFull, NoMemory}
use Rattle.console_link.specs.declared.talk.ConsoleLine.{ConsoleLine}

-- neither a read nor a write of the link failed, the link took what it was given, and neither the history nor want of memory ended
-- the talk
pub record IsUnhindered (reads reads' writes writes' : ℕ) (ended : ConsoleEnd) : Type 0 where
  pub no_failed_read : ¬ Rose reads reads'
  pub no_failed_write : ¬ Rose writes writes'
  pub fits : ended ≢ HistoryFull
  pub memory : ended ≢ NoMemory

-- what is written behind the answers
abbrev pub behind_answers : ConsoleEnd → List ℕ
behind_answers TooLong = too_long
behind_answers ended = []

module _ (stored : List Stored) (files : Option (List File)) where
  -- the last line is `quit`, and those before it were answered
  pub record QuitsLast (x y : Stand) (lines : List ConsoleLine) : Type 0 where
    pub front : List ConsoleLine
    pub last : ConsoleLine
    pub split : lines ≡ front ++ last ∷ []
    pub middle : Stand
    pub answered : Follow stored files x front middle
    pub quits : Quits stored files middle y last

  -- each line was answered, up to `quit`, a line over its limit or the end of all bytes
  abbrev pub IsWhole : ConsoleEnd → Stand → Stand → List ConsoleLine → List ℕ → Type 0
  IsWhole Quit x y lines behind = QuitsLast x y lines
  IsWhole Closed x y lines behind = Follow stored files x lines y × IsBegun behind
  IsWhole TooLong x y lines behind = Follow stored files x lines y × IsTooLong behind
  IsWhole ReadFault x y lines behind = ⊥
  IsWhole WriteFault x y lines behind = ⊥
  IsWhole HistoryFull x y lines behind = ⊥
  IsWhole NoMemory x y lines behind = ⊥

  -- All bytes that came and were to come begin with the lines; each was answered, and the link took the answers.
  pub record AnswersAll (x y : Stand) (before after : Flow) (held : List ℕ) (lines : List ConsoleLine) (ended : ConsoleEnd) : Type 0 where
    pub behind : List ℕ
    pub begins : BeginsLines (held ++ before.left) (texts_of lines) behind
    pub whole : IsWhole ended x y lines behind
    pub took : after.took ≡ before.took ++ (sent_of lines ++ behind_answers ended)

  -- the same, where it is told what goes over the link
  abbrev pub IsComplete : Stand → Stand → Option Flow → Option Flow → List ℕ → List ConsoleLine → ConsoleEnd → Type 0
  IsComplete x y (Some before) (Some after) held lines ended = AnswersAll x y before after held lines ended
  IsComplete x y (Some before) None held lines ended = ⊥
  IsComplete x y None after held lines ended = Unit {0}
